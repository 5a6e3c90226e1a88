use Rattle.std.proofs.Common.{◌≡◌, ◌++◌, List, Option, slice_get, false, ap, refl, sym, subst, ◌∙◌}
use Rattle.sx_atoms.specs.declared.error_codes.Code.{Code}
use Rattle.sx_build.specs.Asked.{Asked, all_asked_at}
use Rattle.sx_machine.specs.declared.plans.Rule.{Rule}
use Rattle.sx_machine.specs.declared.session.After.{After}
use Rattle.sx_machine.specs.Run.{Output, waits, ending_with}
use Rattle.sx_machine.specs.Plan.{after_at, after_rule}
use Rattle.sx_machine.specs.Writer.{WriterStands}
use Rattle.sx_machine.specs.Session.{state_of}
use Rattle.sx_machine.proofs.session.Session.leave.Goals as goal

pub returns-in_ok-push_all-in-Rule-clause-ok : goal.returns-in_ok-push_all-in-Rule-clause-ok
returns-in_ok-push_all-in-Rule-clause-ok c =
    let names = c.args.names.now in
    let rules = c.args.self.now.rules.list in
    let more : List Asked = (after_at names rules c.args.after).raw in
    let same : all_asked_at names c.behind_in-behind.result.now ≡ more =
    ap (λ (o : Output). o.raw) (c.behind_in-behind.ensures names ∙ ap (λ (rs : List Rule). after_rule names (slice_get rs c.in-Rule.place)) c.as_slice.ensures)
    ∙ ap (λ (a : After). (after_at names rules a).raw) (sym c.in-Rule.is) in
    record {
      same_rules = refl;
      same_copying = refl;
      same_root = refl;
      wrote = λ asked given none stands.
          let now = subst (λ (list : List Asked). WriterStands c.push_all.new.self (asked ++ list) false given) same (c.in_ok-push_all-in-Rule.ensures asked given stands) in
          (now, c.state_with-self.ensures.state waits refl ∙ ap (λ (found : Option Code). state_of (ending_with found waits)) (c.error.ensures ∙ now.error_is));
    }
