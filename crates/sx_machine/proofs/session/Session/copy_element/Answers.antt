use Rattle.std.proofs.Common.{◌≡◌, ◌∷◌, [], ◌++◌, ℕ, List, Option, true, false, ap, ap₂, refl, sym, subst, ◌∙◌, append_assoc}
use Rattle.std.proofs.lemmas.Bool.{false≢true}
use Rattle.sx_atoms.specs.declared.error_codes.Code.{Code}
use Rattle.sx_atoms.specs.declared.error_codes.Code.TheVariants as error
use Rattle.sx_named.specs.Named.{Name, Attribute, name_at, attributes_at}
use Rattle.sx_build.specs.Asked as ask
use Rattle.sx_build.specs.Asked.{Asked}
use Rattle.sx_machine.specs.declared.session.After.TheVariants as after
use Rattle.sx_machine.specs.declared.session.Frame.{Frame}
use Rattle.sx_machine.specs.declared.session.Job.TheVariants as job
use Rattle.sx_machine.specs.Choice.{built_in_template}
use Rattle.sx_machine.specs.Run.{waits, stops, ending_with}
use Rattle.sx_machine.specs.Plan.{plan_of}
use Rattle.sx_machine.specs.Writer.{WriterStands, asked_attributes}
use Rattle.sx_machine.specs.Meaning.{meaning_on}
use Rattle.sx_machine.specs.Session.{Wrote, state_of}
use Rattle.sx_machine.proofs.Machine.{asked_here}
use Rattle.sx_machine.proofs.Moves.{none_named, before_copy, before_deep, start_comes, start_stops}
use Rattle.sx_machine.proofs.session.Session.copy_element.Goals as goal
use Rattle.sx_machine.proofs.session.Session.copy_element.Goals.{else-left-eq0-via-then-left-eq0+else-not-is_empty, else-left-eq0-via-else-left-eq0}

pub returns-then-not-is_empty-clause-ok : goal.returns-then-not-is_empty-clause-ok
returns-then-not-is_empty-clause-ok c = λ sheet known invocations d e given name attributes chose o j s.
    let old = c.args.self.now in
    let names = c.args.names.now in
    let so_far : List Asked = (meaning_on sheet known invocations d).raw in
    let deep = before_deep c.args.left e c.if-left-eq0.true (λ none. false≢true (c.if-not-is_empty.ensures.1 (none_named names c.args.attrs (sym attributes ∙ none)))) in
    let now = subst (λ (n : Name). WriterStands c.push.new.self (so_far ++ ask.starts n ∷ []) false given) (sym name)
    (c.in_ok-push.ensures so_far given (asked_here sheet known invocations old d given s c.requires)) in
    start_stops sheet known invocations old d given s c.requires o _ e c.args.left (plan_of c.args.left (built_in_template true e)) (ask.starts e.name ∷ []) j
    (ap (plan_of c.args.left) chose) deep refl refl refl now
    (c.state_with-self.ensures.state (stops error.Sxli0001) refl ∙ ap (λ (found : Option Code). state_of (ending_with found (stops error.Sxli0001))) (c.error.ensures ∙ now.error_is))

pub returns-clause-ok : goal.returns-clause-ok
returns-clause-ok c = λ sheet known invocations d e given name attributes chose o j s.
    let old = c.args.self.now in
    let names = c.args.names.now in
    let left : ℕ = c.args.left in
    let none_left : left ≡ 0 → e.attributes ≡ [] =
    elim c.else-left-eq0.branch [
      | else-left-eq0-via-then-left-eq0+else-not-is_empty w ↦ λ z. attributes ∙ ap (attributes_at names) (w.if-not-is_empty.ensures.0 refl)
      | else-left-eq0-via-else-left-eq0 w ↦ λ z. absurd (w.if-left-eq0.false z)
    ] in
    let more : List Asked = ask.starts e.name ∷ asked_attributes e.attributes in
    let frame : Frame = record { job = job.Apply left; after = after.Copy } in
    let wrote : Wrote old _ more = record {
      same_rules = refl;
      same_copying = refl;
      same_root = refl;
      wrote = λ asked given none stands.
          let now = subst (λ (list : List Asked). WriterStands c.push_attributes.new.self list false given)
          (append_assoc asked (ask.starts (name_at names c.args.label) ∷ []) (asked_attributes (attributes_at names c.args.attrs))
          ∙ ap₂ (λ (n : Name) (attrs : List Attribute). asked ++ ask.starts n ∷ asked_attributes attrs) (sym name) (sym attributes))
          (c.in_ok-push_attributes.ensures (asked ++ ask.starts (name_at names c.args.label) ∷ []) given (c.in_ok-push.ensures asked given stands)) in
          (now, c.state_with-self-2.ensures.state waits refl ∙ ap (λ (found : Option Code). state_of (ending_with found waits)) (c.error-2.ensures ∙ now.error_is));
    } in
    start_comes sheet known invocations old d given s c.requires o _ e frame left (plan_of left (built_in_template true e)) more j
    (ap (plan_of left) chose) (before_copy left e none_left) refl wrote c.in_ok-push-2.ensures.ok
