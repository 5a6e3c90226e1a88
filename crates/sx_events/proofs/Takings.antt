-- What is known behind one line more, and which events it makes.
use Rattle.std.proofs.Common.{◌≡◌, ℕ, suc, ◌+◌, ◌≤◌, Bool, true, false, not, cond, ◌&&◌, ◌||◌, List, [], ◌∷◌, ◌++◌, Option, Some, None, Result, Ok, Err, IfOk, refl, ap, ap₂, sym, ◌∙◌, subst, arith, append-nil}
use Rattle.std.proofs.lemmas.Bool.{false≢true}
use Rattle.sx_esis.specs.Lines.{Line}
use Rattle.sx_named.specs.Named.{ElementStart, named, IsKnown}
use Rattle.sx_tree.specs.Tree.{TreeEvent}
use Rattle.sx_tree.specs.declared.events.Event.{Event}
use Rattle.sx_events.specs.Course.{Lined, run_in, run_of, then_here}
use Rattle.sx_events.specs.Place.{Place, fault_of, is_root_closed, is_of_element, needs_root, may_follow_attributes}
use Rattle.sx_events.specs.Pending.{held, held_in, IsKnownIn, AreKnownWaiting, one_of}
use Rattle.sx_events.specs.Standing.{HoldsOpen, AreWaiting, Knows, Flushed, TakesHere, TakesLine, fault_at, place_fault, is_run, events_in}
use Rattle.sx_limits.specs.declared.faults.Which.{Which}
use Rattle.sx_limits.specs.declared.faults.Which.TheVariants as which
use Rattle.sx_limits.specs.declared.limits.Limits.{Limits}
use Rattle.sx_events.specs.declared.pending.Pending.{Pending}
use Rattle.sx_events.specs.declared.pending.Waiting.{Waiting}
use Rattle.sx_events.specs.declared.run.Run.{Run}
use Rattle.sx_events.specs.declared.standing.Standing.{Standing}
use Rattle.sx_names.specs.Numbering.{NameTable}

-- All but the run of text is what is known at this place.
pub record KnowsRest (s : Standing) (p : Place) : Type 0 where
  pub opened : HoldsOpen s.elements p.opened
  pub scope : s.elements.scope ≡ p.scope
  pub has_root : s.has_root ≡ p.has_root
  pub conformed : s.conformed ≡ p.conformed
  pub wait : AreWaiting s.attributes p.attributes
  pub is_loose : s.attributes.is_loose ≡ p.is_loose
  pub strict : p.is_loose ≡ false → p.attributes ≡ []

-- the run of text has ended
pub knows_flushed : (old new : Standing) (w : Option Waiting) (q : Place) → Flushed old new w → KnowsRest old q → q.text ≡ [] → q.text_line ≡ 0 → Knows new q
knows_flushed old new w q flushed rest text line =
    subst (λ (s : Standing). Knows s q) (sym flushed.rest) (record {
      opened = rest.opened;
      scope = rest.scope;
      has_root = rest.has_root;
      conformed = rest.conformed;
      wait = rest.wait;
      is_loose = rest.is_loose;
      strict = rest.strict;
      text = flushed.text ∙ sym text;
      text_line = flushed.line ∙ sym line;
    })

module _ (names : NameTable) (old mid new : Standing) (after : Pending) (p : Place) (knows : Knows old p) (same : mid.run ≡ old.run) (flushed : Flushed mid new after.text) where
  run_waits : (held_in names after.text ≡ run_of p) × IsKnownIn names after.text
  run_waits =
      let waits = flushed.waits names in (
        waits.0 ∙ ap₂ run_in (ap (λ (r : Run). r.text) same ∙ knows.text) (ap (λ (r : Run). r.line) same ∙ knows.text_line),
        waits.1,
      )

  -- the run of text waits
  pub flush_waits : after.event ≡ None → (held names after ≡ run_of p) × AreKnownWaiting names after
  flush_waits none = (
    ap₂ (λ (x : List Lined) (o : Option Waiting). x ++ held_in names o) run_waits.0 none ∙ append-nil (run_of p),
    record { text = run_waits.1; event = subst (IsKnownIn names) (sym none) tt },
  )

  -- and behind it this event
  pub put_waits : (e : Event) (number : ℕ) (h : TreeEvent ElementStart) → after.event ≡ Some (record { event = e; line = number }) → number ≡ suc p.lines → named names e ≡ h → IsKnown names e →
      (held names after ≡ then_here p h) × AreKnownWaiting names after
  put_waits e number h is line what known = (
    ap₂ (λ (x : List Lined) (o : Option Waiting). x ++ held_in names o) run_waits.0 is
        ∙ ap₂ (λ (g : TreeEvent ElementStart) (n : ℕ). run_of p ++ record { what = g; line = n } ∷ []) what line,
    record { text = run_waits.1; event = subst (IsKnownIn names) (sym is) known },
  )

-- ---- how much waits

one_run : (w : Option Waiting) (names : NameTable) (text : List ℕ) (line : ℕ) → held_in names w ≡ run_in text line → one_of w ≡ is_run text
one_run None names [] line h = refl
one_run None names (b ∷ bs) line h = absurd (cc)
one_run (Some w) names [] line h = absurd (cc)
one_run (Some w) names (b ∷ bs) line h = refl

pub flushed_count : (old new : Standing) (w : Option Waiting) → Flushed old new w → (one_of w ≡ is_run old.run.text) × (is_run new.run.text ≡ 0)
flushed_count old new w flushed = (one_run w [] old.run.text old.run.line (flushed.waits []).0, ap is_run flushed.text)

-- no more waits than one event more
pub put_count : (old new : Standing) (before after : Pending) (e : Waiting) → Flushed old new after.text → after.event ≡ Some e → events_in new.run after ≤ events_in old.run before + 1
put_count old new before after e flushed is =
    let counted = flushed_count old new after.text flushed in
    let one : one_of after.event ≡ 1 = ap one_of is in
    let text = counted.0 in
    let none = counted.1 in
    omega (arith, one, text, none)

-- ---- the faults of a line

pub place_first : (limits : Limits) (p : Place) (l : Line) (w : Which) → place_fault p l ≡ Some w → fault_of limits p l ≡ Some w
place_first limits p l w h = by (p.conformed || (is_root_closed p && is_of_element l)) (not p.has_root && needs_root l) (p.is_loose && not (may_follow_attributes l)) h
  where
    by : (a b c : Bool) → cond a (Some which.AfterRoot) (cond b (Some which.NoRoot) (cond c (Some which.LooseAttr) None)) ≡ Some w →
        cond a (Some which.AfterRoot) (cond b (Some which.NoRoot) (cond c (Some which.LooseAttr) (fault_at limits p l))) ≡ Some w
    by true b c e = e
    by false true c e = e
    by false false true e = e
    by false false false e = absurd (cc)

pub fault_behind : (limits : Limits) (p : Place) (l : Line) → place_fault p l ≡ None → fault_of limits p l ≡ fault_at limits p l
fault_behind limits p l h = by (p.conformed || (is_root_closed p && is_of_element l)) (not p.has_root && needs_root l) (p.is_loose && not (may_follow_attributes l)) h
  where
    by : (a b c : Bool) → cond a (Some which.AfterRoot) (cond b (Some which.NoRoot) (cond c (Some which.LooseAttr) None)) ≡ None →
        cond a (Some which.AfterRoot) (cond b (Some which.NoRoot) (cond c (Some which.LooseAttr) (fault_at limits p l))) ≡ fault_at limits p l
    by true b c e = absurd (cc)
    by false true c e = absurd (cc)
    by false false true e = absurd (cc)
    by false false false e = refl

loose_fault : (a b l m : Bool) → cond a (Some which.AfterRoot) (cond b (Some which.NoRoot) (cond (l && m) (Some which.LooseAttr) None)) ≡ None → m ≡ true → l ≡ false
loose_fault true b l m h e = absurd (cc)
loose_fault false true l m h e = absurd (cc)
loose_fault false false true m h e = absurd (by m e h)
  where
    by : (v : Bool) → v ≡ true → cond v (Some which.LooseAttr) None ≡ None → ⊥
    by true e h = cc
    by false e h = false≢true e
loose_fault false false false m h e = refl

-- behind attribute lines stands no line of such a kind
pub not_loose : (p : Place) (l : Line) → place_fault p l ≡ None → not (may_follow_attributes l) ≡ true → p.is_loose ≡ false
not_loose p l h e = loose_fault (p.conformed || (is_root_closed p && is_of_element l)) (not p.has_root && needs_root l) p.is_loose (not (may_follow_attributes l)) h e

pub no_fault : (v : Bool) (w : Which) → v ≡ false → cond v (Some w) None ≡ None
no_fault true w h = absurd (false≢true (sym h))
no_fault false w h = refl

module _ (limits : Limits) (line : Line) (number : ℕ) (names : NameTable) (old new : Standing) (before after : Pending)
    (may : (p : Place) → Knows old p → place_fault p line ≡ None) where
  -- a line that may stand there was taken
  pub takes_it : (fault : Option Which) → TakesHere limits line number names old new before after fault → TakesLine limits line number names old new before after fault
  takes_it None takes = λ p knows is idle.
      let here = may p knows in
      let took = takes p knows here is idle in
      (fault_behind limits p line here ∙ took.0, took.1)
  takes_it (Some w) takes = ((λ p knows. fault_behind limits p line (may p knows) ∙ takes.0 p knows), takes.1, takes.2)

  pub takes_if : {E : Type 0} (done : Result (Option Which) E) → IfOk done (λ fault. TakesHere limits line number names old new before after fault) →
      IfOk done (λ fault. TakesLine limits line number names old new before after fault)
  takes_if (Ok fault) takes = takes_it fault takes
  takes_if (Err e) takes = tt
