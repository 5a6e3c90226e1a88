-- What each event does to a session that goes on.
use Rattle.std.proofs.Common.{◌≡◌, ◌≢◌, ℕ, zero, suc, ◌-◌, arith, Bool, true, false, List, [], ◌∷◌, ◌++◌, Option, Some, None, map, refl, ap, ap₂, sym, ◌∙◌, subst, append-nil, slice_get}
use Rattle.std.proofs.lemmas.List.{map-append}
use Rattle.sx_atoms.specs.declared.error_codes.Code.{Code}
use Rattle.sx_atoms.specs.declared.error_codes.Code.TheVariants as error
use Rattle.sx_names.specs.Numbering.{NameTable, KeepsPlaces}
use Rattle.sx_kinds.specs.declared.sheets.Sheet.{Sheet}
use Rattle.sx_tree.specs.declared.events.Attr.{Attr}
use Rattle.sx_named.specs.Named.{Name, Attribute, NamedElement, attributes_at}
use Rattle.sx_tree.specs.Tree.{Document, Forest, TreeEvent, starts, ends, says, instructs, push, push_node, first_node}
use Rattle.sx_build.specs.Asked as ask
use Rattle.sx_build.specs.Asked.{Asked, all_asked_at}
use Rattle.sx_build.specs.Build.{error_of}
use Rattle.sx_build.specs.declared.raw.Raw.{Raw}
use Rattle.sx_machine.specs.declared.plans.Rule.{Rule}
use Rattle.sx_machine.specs.declared.rule_table.RuleTable.{RuleTable}
use Rattle.sx_machine.specs.declared.session.After.{After}
use Rattle.sx_machine.specs.declared.session.After.TheVariants as after
use Rattle.sx_machine.specs.declared.session.Frame.{Frame}
use Rattle.sx_machine.specs.declared.session.Job.{Job}
use Rattle.sx_machine.specs.declared.session.Job.TheVariants as job
use Rattle.sx_machine.specs.declared.session.Session.{Session}
use Rattle.sx_machine.specs.declared.session.State.TheVariants as state
use Rattle.sx_machine.specs.declared.writer.Writer.{Writer}
use Rattle.sx_machine.specs.Body.{Body}
use Rattle.sx_machine.specs.Choice.{chosen_for, built_in_template}
use Rattle.sx_machine.specs.Run.{Output, Ending, done, waits, stops, ending_with, gives, next, too_deep, copied_attributes}
use Rattle.sx_machine.specs.Plan.{Plan, Task, tasks, task_of, reacts, entered, first, last_job, ending_of_tasks, saying, instructing, plan_of, read_parts, before_of, after_of, task_for, idle, after_rule, after_at}
use Rattle.sx_machine.specs.Writer.{WriterStands, asked_attributes}
use Rattle.sx_machine.specs.Meaning.{is_copying_first, meaning_on}
use Rattle.sx_machine.specs.Session.{StandsOn, Wrote, state_of}
use Rattle.sx_machine.proofs.Outs.{waiting, out, next-nil, next_done}
use Rattle.sx_machine.proofs.Steps.{GoesOn, pushed}
use Rattle.sx_machine.proofs.Tasks.{ending-snoc, tasks_start, tasks_text, tasks_instruction, tasks_end, tasks_end_none}
use Rattle.sx_machine.proofs.Rules.{reads_same, after_same}
use Rattle.sx_machine.proofs.Machine.{stands_next, asked_here, error_here}

stopped_not_going : (c : Code) → state.Stopped c ≡ state.Going → ⊥
stopped_not_going c e = cc

-- a number that is not zero
pub left_is : (n : ℕ) → n ≢ 0 → n ≡ suc (n - 1)
left_is n h = omega arith

-- what a rule gives before the children
pub before_read : (names : NameTable) (before : List Raw) (behind : Option (List Raw)) → before_of (read_parts names before behind) ≡ gives (all_asked_at names before)
before_read names before None = refl
before_read names before (Some b) = refl

-- what a rule gives behind the children is given at once
after_done : (names : NameTable) (before : List Raw) (behind : Option (List Raw)) → (after_of (read_parts names before behind)).ending ≡ done
after_done names before None = refl
after_done names before (Some b) = refl

rule_done : (names : NameTable) (o : Option Rule) → (after_rule names o).ending ≡ done
rule_done names None = refl
rule_done names (Some r) = after_done names r.plan.before r.plan.behind

behind_done : (names : NameTable) (rules : List Rule) (a : After) → (after_at names rules a).ending ≡ done
behind_done names rules after.Nothing = refl
behind_done names rules (after.Rule place) = rule_done names (slice_get rules place)
behind_done names rules after.Copy = refl

-- the attributes of a copy, where there are none or invocations are left for them
pub attributes_asked : (left : ℕ) (attributes : List Attribute) → (left ≡ 0 → attributes ≡ []) → copied_attributes left attributes ≡ gives (asked_attributes attributes)
attributes_asked left [] h = refl
attributes_asked zero (a ∷ rest) h = absurd (let none = h refl in cc)
attributes_asked (suc left) (a ∷ rest) h = ap (λ (o : Output). next (gives (ask.has a ∷ [])) o) (attributes_asked (suc left) rest (λ z. absurd (omega (arith, z))))

-- the attributes of a copy, where no invocations are left for them
pub attributes_deep : (attributes : List Attribute) → ¬ (attributes ≡ []) → copied_attributes 0 attributes ≡ too_deep
attributes_deep [] h = absurd (h refl)
attributes_deep (a ∷ rest) h = refl

-- attributes with their names written out are none only where there are none
pub none_named : (names : NameTable) (attrs : List Attr) → attributes_at names attrs ≡ [] → attrs ≡ []
none_named names [] e = refl
none_named names (a ∷ rest) e = absurd (cc)

-- what a copy gives before the children, where all its attributes are given
pub before_copy : (left : ℕ) (e : NamedElement) → (left ≡ 0 → e.attributes ≡ []) → before_of (plan_of left (built_in_template true e)) ≡ gives (ask.starts e.name ∷ asked_attributes e.attributes)
before_copy left e h =
    ap (λ (x : Output). next (gives (ask.starts e.name ∷ [])) x) (next-nil (copied_attributes left e.attributes) ∙ attributes_asked left e.attributes h)

-- the same, where its first attribute is too deep
pub before_deep : (left : ℕ) (e : NamedElement) → left ≡ 0 → ¬ (e.attributes ≡ []) → before_of (plan_of left (built_in_template true e)) ≡ out (ask.starts e.name ∷ []) (stops error.Sxli0001)
before_deep left e z h =
    ap (λ (x : Output). next (gives (ask.starts e.name ∷ [])) x)
    (next-nil (copied_attributes left e.attributes) ∙ ap (λ (n : ℕ). copied_attributes n e.attributes) z ∙ attributes_deep e.attributes h)

module _ (sheet : Sheet) (names : NameTable) (invocations : ℕ) (old : Session) (d : Document NamedElement) (given : ℕ)
    (s : StandsOn sheet names invocations old d given) (going : old.state ≡ state.Going) (o : d.is_open ≡ true) where
  abbrev chosen : NamedElement → Body Name
  chosen = chosen_for names (is_copying_first sheet.modes) sheet.templates

  abbrev now : List Task
  now = map (task_of names old.rules.list) old.frames

  abbrev so_far : List Asked
  so_far = (meaning_on sheet names invocations d).raw

  abbrev answers : TreeEvent NamedElement → Output
  answers h = reacts (is_copying_first sheet.modes) chosen old.root now h

  -- the tasks on the tree
  these : now ≡ tasks chosen old.root d.content
  these = s.frames_are going

  same_asked : (new : Session) → new.writer ≡ old.writer → WriterStands new.writer (so_far ++ []) false given
  same_asked new e =
      subst (λ (w : Writer). WriterStands w (so_far ++ []) false given) (sym e)
      (subst (λ (asked : List Asked). WriterStands old.writer asked false given) (sym (append-nil so_far)) (asked_here sheet names invocations old d given s going))

  same_error : (g : Ending) → state_of g ≡ state_of (ending_with (error_of (so_far ++ [])) g)
  same_error g =
      ap (λ (found : Option Code). state_of (ending_with found g)) (sym (error_here sheet names invocations old d given s going))
      ∙ ap (λ (asked : List Asked). state_of (ending_with (error_of asked) g)) (sym (append-nil so_far))

  module _ (new : Session) (rules : new.rules ≡ old.rules) (copying : new.is_copying ≡ old.is_copying) (root : new.root ≡ old.root) where
    -- nothing comes
    comes_nothing : (h : TreeEvent NamedElement) → GoesOn h → answers h ≡ waiting → new.writer ≡ old.writer → new.state ≡ state.Going →
        map (task_of names new.rules.list) new.frames ≡ tasks chosen new.root (pushed d.content h) → StandsOn sheet names invocations new (push d h) given
    comes_nothing h g is written still frames =
        stands_next sheet names invocations old d given s new h [] waits going o g is rules copying root (same_asked new written) (still ∙ same_error waits) (λ _. frames)

    -- the invocations are too many
    comes_too_deep : (h : TreeEvent NamedElement) → GoesOn h → answers h ≡ too_deep → new.writer ≡ old.writer → new.state ≡ state.Stopped error.Sxli0001 →
        StandsOn sheet names invocations new (push d h) given
    comes_too_deep h g is written stopped =
        stands_next sheet names invocations old d given s new h [] (stops error.Sxli0001) going o g is rules copying root (same_asked new written)
        (stopped ∙ same_error (stops error.Sxli0001)) (λ k. absurd (stopped_not_going error.Sxli0001 (sym stopped ∙ k)))

    -- ---- the frames

    same_frames : (f : Forest NamedElement) → tasks chosen old.root f ≡ tasks chosen old.root d.content → new.frames ≡ old.frames → map (task_of names new.rules.list) new.frames ≡ tasks chosen new.root f
    same_frames f same frames =
        ap₂ (λ (rs : RuleTable) (fs : List Frame). map (task_of names rs.list) fs) rules frames ∙ these ∙ sym same
        ∙ ap (λ (j : Job). tasks chosen j f) (sym root)

    more_frames : (f : Frame) (e : NamedElement) → new.frames ≡ old.frames ++ f ∷ [] → task_of names old.rules.list f ≡ entered chosen (last_job old.root now) e →
        map (task_of names new.rules.list) new.frames ≡ tasks chosen new.root (push_node d.content (first_node (starts e)))
    more_frames f e more is =
        ap₂ (λ (rs : RuleTable) (fs : List Frame). map (task_of names rs.list) fs) rules more
        ∙ map-append (task_of names old.rules.list) old.frames (f ∷ [])
        ∙ ap₂ (λ (ts : List Task) (t : Task). ts ++ t ∷ []) these (is ∙ ap (λ (ts : List Task). entered chosen (last_job old.root ts) e) these)
        ∙ sym (tasks_start chosen d.content old.root e)
        ∙ ap (λ (j : Job). tasks chosen j (push_node d.content (first_node (starts e)))) (sym root)

    -- ---- a text

    pub text_quiet : (t : List ℕ) → last_job old.root now ≡ job.Skip → new.frames ≡ old.frames → new.writer ≡ old.writer → new.state ≡ state.Going →
        StandsOn sheet names invocations new (push d (says t)) given
    text_quiet t j f w k =
        comes_nothing (says t) tt (ap (λ (i : Job). saying i t) j) w k (same_frames (push_node d.content (first_node (says t))) (tasks_text chosen d.content old.root t) f)

    pub text_deep : (t : List ℕ) (left : ℕ) → last_job old.root now ≡ job.Apply left → left ≡ 0 → new.writer ≡ old.writer → new.state ≡ state.Stopped error.Sxli0001 →
        StandsOn sheet names invocations new (push d (says t)) given
    text_deep t left j z w k = comes_too_deep (says t) tt (ap (λ (i : Job). saying i t) (j ∙ ap job.Apply z)) w k

    -- ---- a processing instruction

    instruction_frames : (t c : List ℕ) → new.frames ≡ old.frames → map (task_of names new.rules.list) new.frames ≡ tasks chosen new.root (push_node d.content (first_node (instructs t c)))
    instruction_frames t c f = same_frames (push_node d.content (first_node (instructs t c))) (tasks_instruction chosen d.content old.root t c) f

    pub instruction_skipped : (t c : List ℕ) → last_job old.root now ≡ job.Skip → new.frames ≡ old.frames → new.writer ≡ old.writer → new.state ≡ state.Going →
        StandsOn sheet names invocations new (push d (instructs t c)) given
    instruction_skipped t c j f w k =
        comes_nothing (instructs t c) tt (ap (λ (i : Job). instructing (is_copying_first sheet.modes) i t c) j) w k (instruction_frames t c f)

    pub instruction_quiet : (t c : List ℕ) (left : ℕ) → last_job old.root now ≡ job.Apply (suc left) → old.is_copying ≡ false → new.frames ≡ old.frames → new.writer ≡ old.writer → new.state ≡ state.Going →
        StandsOn sheet names invocations new (push d (instructs t c)) given
    instruction_quiet t c left j is f w k =
        comes_nothing (instructs t c) tt
        (ap (λ (i : Job). instructing (is_copying_first sheet.modes) i t c) j
        ∙ ap (λ (b : Bool). instructing b (job.Apply (suc left)) t c) (sym s.copying_is ∙ is)) w k (instruction_frames t c f)

    pub instruction_deep : (t c : List ℕ) (left : ℕ) → last_job old.root now ≡ job.Apply left → left ≡ 0 → new.writer ≡ old.writer → new.state ≡ state.Stopped error.Sxli0001 →
        StandsOn sheet names invocations new (push d (instructs t c)) given
    instruction_deep t c left j z w k =
        comes_too_deep (instructs t c) tt (ap (λ (i : Job). instructing (is_copying_first sheet.modes) i t c) (j ∙ ap job.Apply z)) w k

    -- ---- a start

    abbrev first_of : NamedElement → Job → Output
    first_of e i = next (first chosen i e) waiting

    pub start_skipped : (e : NamedElement) (f : Frame) → last_job old.root now ≡ job.Skip → task_of names old.rules.list f ≡ idle → new.frames ≡ old.frames ++ f ∷ [] → new.writer ≡ old.writer → new.state ≡ state.Going →
        StandsOn sheet names invocations new (push d (starts e)) given
    start_skipped e f j t fs w k =
        comes_nothing (starts e) tt (ap (first_of e) j) w k (more_frames f e fs (t ∙ ap (λ (i : Job). entered chosen i e) (sym j)))

    pub start_deep : (e : NamedElement) (left : ℕ) → last_job old.root now ≡ job.Apply left → left ≡ 0 → new.writer ≡ old.writer → new.state ≡ state.Stopped error.Sxli0001 →
        StandsOn sheet names invocations new (push d (starts e)) given
    start_deep e left j z w k = comes_too_deep (starts e) tt (ap (first_of e) (j ∙ ap job.Apply z)) w k

    -- the built-in template of text-only copy is chosen
    pub start_passed : (e : NamedElement) (f : Frame) (left : ℕ) → last_job old.root now ≡ job.Apply (suc left) → chosen e ≡ built_in_template false e → task_of names old.rules.list f ≡ task_for left (plan_of left (built_in_template false e)) →
        new.frames ≡ old.frames ++ f ∷ [] → new.writer ≡ old.writer → new.state ≡ state.Going → StandsOn sheet names invocations new (push d (starts e)) given
    start_passed e f left j chose t fs w k =
        comes_nothing (starts e) tt (ap (first_of e) j ∙ ap (λ (b : Body Name). next (before_of (plan_of left b)) waiting) chose) w k
        (more_frames f e fs (t ∙ ap (λ (b : Body Name). task_for left (plan_of left b)) (sym chose) ∙ ap (λ (i : Job). entered chosen i e) (sym j)))

    -- ---- an end

    pub end_nothing : old.frames ≡ [] → new.frames ≡ [] → new.writer ≡ old.writer → new.state ≡ state.Going → StandsOn sheet names invocations new (push d ends) given
    end_nothing none f w k =
        let empty : now ≡ [] = ap (map (task_of names old.rules.list)) none in
        comes_nothing ends tt (ap ending_of_tasks empty) w k
        (ap₂ (λ (rs : RuleTable) (fs : List Frame). map (task_of names rs.list) fs) rules f
        ∙ sym (tasks_end_none chosen d.content old.root (sym these ∙ empty)) ∙ ap (λ (j : Job). tasks chosen j (pushed d.content ends)) (sym root))

  -- ---- where something is asked for

  -- these come
  comes : (new : Session) (h : TreeEvent NamedElement) (more : List Asked) → GoesOn h → answers h ≡ out more waits → Wrote old new more →
      map (task_of names new.rules.list) new.frames ≡ tasks chosen new.root (pushed d.content h) → StandsOn sheet names invocations new (push d h) given
  comes new h more g is w frames =
      let both = w.wrote so_far given (error_here sheet names invocations old d given s going) (asked_here sheet names invocations old d given s going) in
      stands_next sheet names invocations old d given s new h more waits going o g is w.same_rules w.same_copying w.same_root both.0 both.1 (λ _. frames)

  pub text_comes : (new : Session) (t : List ℕ) (left : ℕ) → last_job old.root now ≡ job.Apply (suc left) → Wrote old new (ask.says t ∷ []) → new.frames ≡ old.frames →
      StandsOn sheet names invocations new (push d (says t)) given
  text_comes new t left j w f =
      comes new (says t) (ask.says t ∷ []) tt (ap (λ (i : Job). saying i t) j) w
      (same_frames new w.same_rules w.same_copying w.same_root (push_node d.content (first_node (says t))) (tasks_text chosen d.content old.root t) f)

  pub instruction_comes : (new : Session) (t c : List ℕ) (left : ℕ) → last_job old.root now ≡ job.Apply (suc left) → old.is_copying ≡ true → Wrote old new (ask.instructs t c ∷ []) → new.frames ≡ old.frames →
      StandsOn sheet names invocations new (push d (instructs t c)) given
  instruction_comes new t c left j is w f =
      comes new (instructs t c) (ask.instructs t c ∷ []) tt
      (ap (λ (i : Job). instructing (is_copying_first sheet.modes) i t c) j
      ∙ ap (λ (b : Bool). instructing b (job.Apply (suc left)) t c) (sym s.copying_is ∙ is)) w
      (instruction_frames new w.same_rules w.same_copying w.same_root t c f)

  -- an element starts of which a template with this plan is chosen, and all before the children is given
  pub start_comes : (new : Session) (e : NamedElement) (f : Frame) (left : ℕ) (p : Plan) (more : List Asked) → last_job old.root now ≡ job.Apply (suc left) → plan_of left (chosen e) ≡ p →
      before_of p ≡ gives more → task_of names old.rules.list f ≡ task_for left p → Wrote old new more → new.frames ≡ old.frames ++ f ∷ [] → StandsOn sheet names invocations new (push d (starts e)) given
  start_comes new e f left p more j planned before t w fs =
      comes new (starts e) more tt
      (ap (λ (i : Job). next (first chosen i e) waiting) j ∙ ap (λ (q : Plan). next (before_of q) waiting) planned
      ∙ ap (λ (x : Output). next x waiting) before ∙ next_done (gives more) refl) w
      (more_frames new w.same_rules w.same_copying w.same_root f e fs
      (t ∙ ap (task_for left) (sym planned) ∙ ap (λ (i : Job). entered chosen i e) (sym j)))

  -- the same, where an attribute before the children is too deep
  pub start_stops : (new : Session) (e : NamedElement) (left : ℕ) (p : Plan) (more : List Asked) → last_job old.root now ≡ job.Apply (suc left) → plan_of left (chosen e) ≡ p →
      before_of p ≡ out more (stops error.Sxli0001) → new.rules ≡ old.rules → new.is_copying ≡ old.is_copying → new.root ≡ old.root →
      WriterStands new.writer (so_far ++ more) false given → new.state ≡ state_of (ending_with (error_of (so_far ++ more)) (stops error.Sxli0001)) →
      StandsOn sheet names invocations new (push d (starts e)) given
  start_stops new e left p more j planned before rules copying root stands is =
      stands_next sheet names invocations old d given s new (starts e) more (stops error.Sxli0001) going o tt
      (ap (λ (i : Job). next (first chosen i e) waiting) j ∙ ap (λ (q : Plan). next (before_of q) waiting) planned
      ∙ ap (λ (x : Output). next x waiting) before) rules copying root stands is
      (λ k. absurd (still_stopped (error_of (so_far ++ more)) (sym is ∙ k)))
    where
      still_stopped : (found : Option Code) → state_of (ending_with found (stops error.Sxli0001)) ≡ state.Going → ⊥
      still_stopped None e = cc
      still_stopped (Some c) e = cc

  -- an end, where this is the innermost frame
  pub end_comes : (new : Session) (names' : NameTable) (f : Frame) → old.frames ≡ new.frames ++ f ∷ [] → after_at names old.rules.list f.after ≡ after_at names' old.rules.list f.after →
      Wrote old new (after_at names' old.rules.list f.after).raw → StandsOn sheet names invocations new (push d ends) given
  end_comes new names' f more same w =
      let t : Task = task_of names old.rules.list f in
      let front : List Task = map (task_of names old.rules.list) new.frames in
      let parts : now ≡ front ++ t ∷ [] = ap (map (task_of names old.rules.list)) more ∙ map-append (task_of names old.rules.list) new.frames (f ∷ []) in
      comes new ends (after_at names' old.rules.list f.after).raw tt
      (ap ending_of_tasks parts ∙ ending-snoc front t ∙ ap (λ (x : Output). next x waiting) same
      ∙ next_done (after_at names' old.rules.list f.after) (behind_done names' old.rules.list f.after)) w
      (ap (λ (rs : RuleTable). map (task_of names rs.list) new.frames) w.same_rules ∙ sym (tasks_end chosen d.content old.root front t (sym these ∙ parts))
      ∙ ap (λ (j : Job). tasks chosen j (pushed d.content ends)) (sym w.same_root))

  -- what comes behind the children, by a table that has grown
  pub after_known : (names' : NameTable) → KeepsPlaces names names' → (a : After) → after_at names old.rules.list a ≡ after_at names' old.rules.list a
  after_known names' keeps after.Nothing = refl
  after_known names' keeps (after.Rule place) =
      after_same names names' keeps (slice_get old.rules.list place) (reads_same names names' keeps sheet.templates old.rules.list s.ready.known s.rules_are place)
  after_known names' keeps after.Copy = refl
