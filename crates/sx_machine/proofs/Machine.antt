-- The session after one happening more.
use Rattle.std.proofs.Common.{◌≡◌, ℕ, zero, suc, Bool, true, false, List, [], ◌++◌, Option, Some, None, refl, ap, sym, ◌∙◌, subst, append-nil, map}
use Rattle.sx_atoms.specs.declared.error_codes.Code.{Code}
use Rattle.sx_kinds.specs.declared.sheets.Sheet.{Sheet}
use Rattle.sx_named.specs.Named.{Name, NamedElement}
use Rattle.sx_tree.specs.Tree.{Document, Forest, TreeEvent, starts, ends, says, instructs, closes, push, has_open}
use Rattle.sx_build.specs.Asked.{Asked}
use Rattle.sx_build.specs.Build.{Build, error_of}
use Rattle.sx_machine.specs.declared.rule_table.RuleTable.{RuleTable}
use Rattle.sx_machine.specs.declared.session.Job.{Job}
use Rattle.sx_machine.specs.declared.session.Session.{Session}
use Rattle.sx_machine.specs.declared.session.State.TheVariants as state
use Rattle.sx_machine.specs.Body.{Body}
use Rattle.sx_machine.specs.Choice.{chosen_for}
use Rattle.sx_machine.specs.Run.{Output, Ending, done, waits, stops, ending_with, gives, applied, is_done, Result, result_of}
use Rattle.sx_machine.specs.Plan.{AreRulesOf, Task, tasks, reacts, task_of}
use Rattle.sx_machine.specs.Writer.{WriterStands}
use Rattle.sx_machine.specs.Growth.{ClosesWhole, GrownFrom}
use Rattle.sx_machine.specs.Meaning.{IsReady, is_copying_first, meaning_on}
use Rattle.sx_machine.specs.Session.{Builds, StandsOn, FindsLast, state_of, root_job}
use Rattle.sx_machine.proofs.Outs.{IsGoing, GoingAt, out, resume, resume_waits}
use Rattle.sx_machine.proofs.Bodies.{IsGood}
use Rattle.sx_machine.proofs.Steps.{GoesOn, pushed, step, closed, reacts_going}
use Rattle.sx_machine.proofs.Growths.{result_grown, on_push, open_going}
use Rattle.sx_machine.proofs.Results.{all_good, going_end}
use Rattle.sx_names.specs.Numbering.{NameTable}

abbrev pub document : {E : Type 0} → Forest E → Bool → Document E
document content is_open = record { content = content; is_open = is_open }

-- the document of its nodes after what happens in them
push_is : {E : Type 0} (d : Document E) (h : TreeEvent E) → GoesOn h → push d h ≡ document (pushed d.content h) d.is_open
push_is d (starts e) g = refl
push_is d ends g = refl
push_is d (says s) g = refl
push_is d (instructs target c) g = refl
push_is d closes g = absurd g

waits_if_going : (g : Ending) → state_of g ≡ state.Going → g ≡ waits
waits_if_going done e = absurd (cc)
waits_if_going waits e = refl
waits_if_going (stops c) e = absurd (cc)

stops_if_stopped : (g : Ending) (c : Code) → state_of g ≡ state.Stopped c → g ≡ stops c
stops_if_stopped done c e = absurd (cc)
stops_if_stopped waits c e = absurd (cc)
stops_if_stopped (stops d) c e =
    let same : d ≡ c = cc in
    ap stops same

done_if_closed : (g : Ending) → state_of g ≡ state.Closed → g ≡ done
done_if_closed done e = refl
done_if_closed waits e = absurd (cc)
done_if_closed (stops c) e = absurd (cc)

no_error : (found : Option Code) (g : Ending) → ending_with found g ≡ waits → (found ≡ None) × (g ≡ waits)
no_error None g e = (refl, e)
no_error (Some c) g e = absurd (cc)

not_done : (g : Ending) → GoingAt g → is_done g ≡ false
not_done done h = absurd h
not_done waits h = refl
not_done (stops c) h = refl

closed_not_going : state.Closed ≡ state.Going → ⊥
closed_not_going e = cc

stopped_not_going : (c : Code) → state.Stopped c ≡ state.Going → ⊥
stopped_not_going c e = cc

module _ (sheet : Sheet) (names : NameTable) where
  abbrev is_copying : Bool
  is_copying = is_copying_first sheet.modes

  abbrev chosen : NamedElement → Body Name
  chosen = chosen_for names is_copying sheet.templates

  module _ (ready : IsReady sheet names) where
    good : (e : NamedElement) → IsGood (chosen e)
    good e = all_good sheet ready.streamable names 0 e

    meaning_open : (left : ℕ) (d : Document NamedElement) → d.is_open ≡ true → meaning_on sheet names (suc left) d ≡ applied is_copying chosen left true d.content
    meaning_open left d o = ap (λ (b : Bool). applied is_copying chosen left b d.content) o

    -- the meaning after one happening more
    meaning_next : (invocations : ℕ) (d : Document NamedElement) (h : TreeEvent NamedElement) → d.is_open ≡ true → GoesOn h →
        meaning_on sheet names invocations (push d h)
        ≡ resume (meaning_on sheet names invocations d) (reacts is_copying chosen (root_job invocations) (tasks chosen (root_job invocations) d.content) h)
    meaning_next zero d h o g = refl
    meaning_next (suc left) d h o g =
        ap (meaning_on sheet names (suc left)) (push_is d h g)
        ∙ meaning_open left (document (pushed d.content h) d.is_open) o
        ∙ step is_copying chosen good d.content (root_job (suc left)) h g
        ∙ ap (λ (x : Output). resume x (reacts is_copying chosen (root_job (suc left)) (tasks chosen (root_job (suc left)) d.content) h)) (sym (meaning_open left d o))

    -- and at the close
    meaning_closed : (invocations : ℕ) (d : Document NamedElement) → d.is_open ≡ true → has_open d.content ≡ false →
        meaning_on sheet names invocations (push d closes) ≡ resume (meaning_on sheet names invocations d) (gives [])
    meaning_closed zero d o h = refl
    meaning_closed (suc left) d o h =
        closed is_copying chosen good left d.content h ∙ ap (λ (x : Output). resume x (gives [])) (sym (meaning_open left d o))

  module _ (invocations : ℕ) (old : Session) (d : Document NamedElement) (given : ℕ) (s : StandsOn sheet names invocations old d given) where
    abbrev before : Output
    before = meaning_on sheet names invocations d

    ends_here : old.state ≡ state.Going → (error_of before.raw ≡ None) × (before.ending ≡ waits)
    ends_here e = no_error (error_of before.raw) before.ending (waits_if_going (result_of before).ending (sym s.state_is ∙ e))

    -- there is no error where the session goes on
    pub error_here : old.state ≡ state.Going → error_of before.raw ≡ None
    error_here e = (ends_here e).0

    -- what the builder was asked for where the session goes on
    pub asked_here : old.state ≡ state.Going → WriterStands old.writer before.raw false given
    asked_here e =
        let same = s.builds.all_asked e in
        subst (λ (b : Bool). WriterStands old.writer before.raw b given) same.1
        (subst (λ (asked : List Asked). WriterStands old.writer asked s.builds.at_end given) same.0 s.builds.stands)

    -- a session that goes on, where these come and it ends so
    pub stands_next : (new : Session) (h : TreeEvent NamedElement) (more : List Asked) (g : Ending) → old.state ≡ state.Going → d.is_open ≡ true → GoesOn h →
        reacts is_copying chosen old.root (map (task_of names old.rules.list) old.frames) h ≡ out more g →
        new.rules ≡ old.rules → new.is_copying ≡ old.is_copying → new.root ≡ old.root →
        WriterStands new.writer (before.raw ++ more) false given → new.state ≡ state_of (ending_with (error_of (before.raw ++ more)) g) →
        (new.state ≡ state.Going → map (task_of names new.rules.list) new.frames ≡ tasks chosen new.root (pushed d.content h)) →
        StandsOn sheet names invocations new (push d h) given
    stands_next new h more g going o goes is rules copying root stands state_is frames =
        let comes : reacts is_copying chosen (root_job invocations) (tasks chosen (root_job invocations) d.content) h ≡ out more g =
        ap (λ (j : Job). reacts is_copying chosen j (tasks chosen j d.content) h) (sym s.root_is)
        ∙ ap (λ (ts : List Task). reacts is_copying chosen old.root ts h) (sym (s.frames_are going)) ∙ is in
        let after : meaning_on sheet names invocations (push d h) ≡ out (before.raw ++ more) g =
        meaning_next s.ready invocations d h o goes ∙ ap (resume before) comes ∙ resume_waits before (out more g) (ends_here going).1 in
        let open_end : GoingAt g =
        subst IsGoing comes (reacts_going is_copying chosen (good s.ready) (root_job invocations) (tasks chosen (root_job invocations) d.content) h goes) in
        let builds : Builds new (before.raw ++ more) (result_of (out (before.raw ++ more) g)) given = record {
          asked = before.raw ++ more;
          at_end = false;
          stands = stands;
          built_is = ap (Build (before.raw ++ more)) (sym (not_done g open_end));
          all_asked = λ _. (refl, refl);
        } in
        record {
          ready = s.ready;
          rules_are = subst (λ (t : RuleTable). AreRulesOf sheet.templates t.list) (sym rules) s.rules_are;
          places_are = subst FindsLast (sym rules) s.places_are;
          copying_is = copying ∙ s.copying_is;
          root_is = root ∙ s.root_is;
          builds = subst (λ (x : Output). Builds new x.raw (result_of x) given) (sym after) builds;
          state_is = state_is ∙ ap (λ (x : Output). state_of (result_of x).ending) (sym after);
          frames_are = λ k. frames k ∙ ap (λ (x : Document NamedElement). tasks chosen new.root x.content) (sym (push_is d h goes));
        }

    -- a session that goes on, at the close
    pub stands_closed : (new : Session) → old.state ≡ state.Going → d.is_open ≡ true → has_open d.content ≡ false →
        new.rules ≡ old.rules → new.is_copying ≡ old.is_copying → new.root ≡ old.root →
        WriterStands new.writer before.raw true given → new.state ≡ state.Closed → StandsOn sheet names invocations new (push d closes) given
    stands_closed new going o h rules copying root stands state_is =
        let here = ends_here going in
        let after : meaning_on sheet names invocations (push d closes) ≡ out before.raw done =
        meaning_closed s.ready invocations d o h ∙ resume_waits before (gives []) here.1 ∙ ap (λ (raws : List Asked). out raws done) (append-nil before.raw) in
        let builds : Builds new before.raw (result_of (out before.raw done)) given = record {
          asked = before.raw;
          at_end = true;
          stands = stands;
          built_is = refl;
          all_asked = λ k. absurd (closed_not_going (sym state_is ∙ k));
        } in
        record {
          ready = s.ready;
          rules_are = subst (λ (t : RuleTable). AreRulesOf sheet.templates t.list) (sym rules) s.rules_are;
          places_are = subst FindsLast (sym rules) s.places_are;
          copying_is = copying ∙ s.copying_is;
          root_is = root ∙ s.root_is;
          builds = subst (λ (x : Output). Builds new x.raw (result_of x) given) (sym after) builds;
          state_is = state_is ∙ ap (λ (found : Option Code). state_of (ending_with found done)) (sym here.0) ∙ ap (λ (x : Output). state_of (result_of x).ending) (sym after);
          frames_are = λ k. absurd (closed_not_going (sym state_is ∙ k));
        }

    -- a session that has stopped
    pub stands_stopped : (h : TreeEvent NamedElement) (c : Code) → old.state ≡ state.Stopped c → d.is_open ≡ true → ClosesWhole d h → StandsOn sheet names invocations old (push d h) given
    stands_stopped h c stopped o w =
        let after : Output = meaning_on sheet names invocations (push d h) in
        let final : (result_of before).ending ≡ stops c = stops_if_stopped (result_of before).ending c (sym s.state_is ∙ stopped) in
        let same : result_of after ≡ result_of before =
        subst (λ (g : Ending). GrownFrom g (result_of before) (result_of after)) final
        (result_grown before after (on_push is_copying chosen (good s.ready) invocations d h o w)) in
        let builds : Builds old after.raw (result_of after) given = record {
          asked = s.builds.asked;
          at_end = s.builds.at_end;
          stands = s.builds.stands;
          built_is = s.builds.built_is ∙ ap (λ (r : Result). r.built) (sym same);
          all_asked = λ k. absurd (stopped_not_going c (sym stopped ∙ k));
        } in
        record {
          ready = s.ready;
          rules_are = s.rules_are;
          places_are = s.places_are;
          copying_is = s.copying_is;
          root_is = s.root_is;
          builds = builds;
          state_is = s.state_is ∙ ap (λ (r : Result). state_of r.ending) (sym same);
          frames_are = λ k. absurd (stopped_not_going c (sym stopped ∙ k));
        }

    -- a session on an open document is not closed
    pub never_closed : old.state ≡ state.Closed → d.is_open ≡ true → ⊥
    never_closed e o =
        going_end (error_of before.raw) before.ending (open_going is_copying chosen (good s.ready) invocations d o)
        (done_if_closed (result_of before).ending (sym s.state_is ∙ e))
