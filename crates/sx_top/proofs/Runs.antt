-- What a run means for the events of a document.
use Rattle.std.proofs.Common.{◌≡◌, ◌≢◌, ℕ, Bool, true, false, not, ◌&&◌, cond, List, [], ◌∷◌, ◌++◌, Option, Some, None, refl, ap, sym, ◌∙◌, subst, append_assoc, append-nil}
use Rattle.std.proofs.lemmas.List.{map-append}
use Rattle.sx_atoms.specs.declared.error_codes.Code.{Code}
use Rattle.sx_kinds.specs.declared.sheets.Sheet.{Sheet}
use Rattle.sx_lines.specs.declared.events.Built.{Built}
use Rattle.sx_lines.specs.Print.{print_all, ends_in_text, ending_of}
use Rattle.sx_lines.proofs.Printed.{print_all-append}
use Rattle.sx_named.specs.Named.{in_tree, all_in_tree}
use Rattle.sx_tree.specs.Tree.{tree_of}
use Rattle.sx_limits.specs.declared.faults.DocFault.{DocFault}
use Rattle.sx_limits.specs.declared.limits.Limits.{Limits}
use Rattle.sx_events.specs.Course.{Lined, break_of, whats}
use Rattle.sx_events.proofs.Growths.{whats-append}
use Rattle.sx_machine.specs.Body.{culprit}
use Rattle.sx_machine.specs.Growth.{MayAllCome}
use Rattle.sx_machine.specs.Run.{Result, Ending, done, waits, stops, is_done}
use Rattle.sx_machine.specs.Session.{state_of}
use Rattle.sx_reading.specs.Transforming.{Grows}
use Rattle.sx_reading.specs.declared.consumer.Outcome.TheVariants as outcomes
use Rattle.sx_reading.specs.declared.status.Input.TheVariants as input
use Rattle.sx_top.specs.Feeding.{or_broken, outcome_by, AreOrdered, EndIsFinal, IsSteady}
use Rattle.sx_top.specs.Run.{result_on, printed_result, written_of, written_for_events, outcome_at, run_written, run_outcome}
use Rattle.sx_top.specs.Runner.{ended_in, run_meaning}
use Rattle.sx_top.proofs.Comings.{Happenings, happened, all_come, open_same, closed_at_end}
use Rattle.sx_top.proofs.Feedings.{grows_by_bytes, none_behind}
use Rattle.sx_top.proofs.Results.{built_grown, stopped_grown, result_grows, open_not_done, closed_not_waiting}
use Rattle.sx_names.specs.Numbering.{NameTable}

-- more built events are printed behind those before
pub printed_more : (old more : List Built) (is_whole : Bool) → (rest : List ℕ) × (printed_result (old ++ more) is_whole ≡ printed_result old false ++ rest)
printed_more old more is_whole =
    let behind = cond is_whole (ending_of (ends_in_text false (old ++ more))) [] in
    let new = print_all (ends_in_text false old) more in (
      new ++ behind,
      ap (λ (x : List ℕ). x ++ behind) (print_all-append false old more)
          ∙ append_assoc (print_all false old) new behind
          ∙ ap (λ (x : List ℕ). x ++ (new ++ behind)) (sym (append-nil (print_all false old))),
    )

-- nothing ends a result of an open document
open_not_whole : (done now_open : Bool) → now_open ≡ true → done && not now_open ≡ false
open_not_whole true true o = refl
open_not_whole true false o = absurd (cc)
open_not_whole false now_open o = refl

-- what comes one by one in two parts
pub may-append : (p : Happenings) (hs more : Happenings) → MayAllCome p (hs ++ more) → MayAllCome p hs × MayAllCome (p ++ hs) more
may-append p [] more all = (tt, subst (λ (q : Happenings). MayAllCome q more) (sym (append-nil p)) all)
may-append p (h ∷ hs) more all =
    let rest = may-append (p ++ h ∷ []) hs more all.1 in
    ((all.0, rest.0), subst (λ (q : Happenings). MayAllCome q more) (append_assoc p (h ∷ []) hs) rest.1)

-- the events of two parts, as a tree knows them
pub in_tree-append : (front rest : List Lined) → all_in_tree (whats (front ++ rest)) ≡ all_in_tree (whats front) ++ all_in_tree (whats rest)
in_tree-append front rest = ap all_in_tree (whats-append front rest) ∙ map-append in_tree (whats front) (whats rest)

-- ---- outcomes

done_at : (g : Ending) (now_open : Bool) → outcome_at g None now_open ≡ Some outcomes.Done → now_open ≡ false
done_at done true e = absurd (cc)
done_at done false e = refl
done_at waits now_open e = absurd (cc)
done_at (stops c) now_open e = absurd (cc)

settled_at : (g : Ending) (now_open : Bool) → g ≢ waits → now_open ≡ false → outcome_at g None now_open ≢ None
settled_at done true s o e = absurd (cc)
settled_at done false s o e = cc
settled_at waits now_open s o e = s refl
settled_at (stops c) now_open s o e = cc

stopped_outcome : (g : Ending) (c : Code) (now_open was_open : Bool) → g ≡ stops c → outcome_at g None now_open ≡ outcome_at g None was_open
stopped_outcome done c now_open was_open e = absurd (cc)
stopped_outcome waits c now_open was_open e = absurd (cc)
stopped_outcome (stops k) c now_open was_open e = refl

stopped_written : (r : Result) (c : Code) (now_open was_open : Bool) → r.ending ≡ stops c → written_of r now_open ≡ written_of r was_open
stopped_written r c now_open was_open e =
    ap (λ (g : Ending). printed_result r.built (is_done g && not now_open)) e ∙ ap (λ (g : Ending). printed_result r.built (is_done g && not was_open)) (sym e)

-- a fault of a document that is open gives the outcome where its events have none
outcome_is : (g : Ending) (fault : Option DocFault) (now_open : Bool) → (now_open ≡ false → fault ≡ None) → outcome_at g fault now_open ≡ or_broken input.Document fault (outcome_at g None now_open)
outcome_is done None true closed = refl
outcome_is done None false closed = refl
outcome_is done (Some f) true closed = refl
outcome_is done (Some f) false closed = absurd (some_none (closed refl))
  where
    some_none : Some f ≡ None → ⊥
    some_none e = cc
outcome_is waits None now_open closed = refl
outcome_is waits (Some f) now_open closed = refl
outcome_is (stops c) None now_open closed = refl
outcome_is (stops c) (Some f) now_open closed = refl

-- the state of a session says where the events end, where nothing is done before the close
pub ended_as : (g : Ending) (now_open : Bool) → (g ≡ done → now_open ≡ false) → ended_in (state_of g) ≡ outcome_at g None now_open
ended_as done true closed = absurd (true_false (closed refl))
  where
    true_false : true ≡ false → ⊥
    true_false e = cc
ended_as done false closed = refl
ended_as waits now_open closed = refl
ended_as (stops c) now_open closed = refl

whole_as : (g : Ending) (now_open : Bool) → (g ≡ done → now_open ≡ false) → is_done g && not now_open ≡ is_done g
whole_as done true closed = absurd (true_false (closed refl))
  where
    true_false : true ≡ false → ⊥
    true_false e = cc
whole_as done false closed = refl
whole_as waits now_open closed = refl
whole_as (stops c) now_open closed = refl

open_if : (b : Bool) → (b ≡ true → ⊥) → b ≡ false
open_if true f = absurd (f refl)
open_if false f = refl

module _ (sheet : Sheet) (names : NameTable) (limits : Limits) where
  abbrev on : Happenings → Result
  on = result_on sheet names limits

  -- where bytes end is where their events do, or where they are broken off
  pub run_outcome_is : (b : List ℕ) (ended : Bool) → run_outcome sheet names limits b ended ≡ outcome_by (run_meaning sheet names limits) b ended
  run_outcome_is b ended =
      let p = happened limits b ended in
      outcome_is (on p).ending (break_of limits b ended) (tree_of p).is_open (λ closed. (closed_at_end limits b ended closed).1)

  module _ (streamable : culprit sheet.templates ≡ None) where
    -- what is done is closed
    pub done_closed : (p : Happenings) → (on p).ending ≡ done → (tree_of p).is_open ≡ false
    done_closed p e = open_if (tree_of p).is_open (λ now_open. open_not_done sheet names limits streamable p now_open e)

    -- what is written for events is the printed result
    pub written_as : (p : Happenings) → written_for_events sheet names limits p ≡ printed_result (on p).built (is_done (on p).ending)
    written_as p = ap (λ (x : Bool). printed_result (on p).built x) (whole_as (on p).ending (tree_of p).is_open (done_closed p))

    -- what is written for an open document
    written_open : (r : Result) (now_open : Bool) → now_open ≡ true → written_of r now_open ≡ printed_result r.built false
    written_open r now_open o = ap (printed_result r.built) (open_not_whole (is_done r.ending) now_open o)

    same : (p : Happenings) → written_for_events sheet names limits (p ++ []) ≡ written_for_events sheet names limits p
    same p = ap (λ (q : Happenings). written_for_events sheet names limits q) (append-nil p)

    written_grows : (p q : Happenings) → MayAllCome p q → (more : List ℕ) × (written_for_events sheet names limits (p ++ q) ≡ written_for_events sheet names limits p ++ more)
    written_grows p [] may = ([], same p ∙ sym (append-nil (written_for_events sheet names limits p)))
    written_grows p (h ∷ hs) may =
        let old = on p in
        let new = on (p ++ h ∷ hs) in
        let is_whole = is_done new.ending && not (tree_of (p ++ h ∷ hs)).is_open in
        let built = built_grown old new (result_grows sheet names limits streamable p (h ∷ hs) may) in
        let printed = printed_more old.built built.0 is_whole in (
          printed.0,
          ap (λ (es : List Built). printed_result es is_whole) built.1
              ∙ printed.1
              ∙ ap (λ (w : List ℕ). w ++ printed.0) (sym (written_open old (tree_of p).is_open may.0.not_closed)),
        )

    parts_may : (front rest : List Lined) → AreOrdered (front ++ rest) → MayAllCome (all_in_tree (whats front)) (all_in_tree (whats rest))
    parts_may front rest ordered =
        (may-append [] (all_in_tree (whats front)) (all_in_tree (whats rest))
        (subst (λ (hs : Happenings). MayAllCome [] hs) (in_tree-append front rest) (all_come [] (whats (front ++ rest)) ordered))).1

    -- an end is final
    final_by : (front rest : List Lined) → AreOrdered (front ++ rest) → (g : Ending) → (on (all_in_tree (whats front))).ending ≡ g
        → outcome_at g None (tree_of (all_in_tree (whats front))).is_open ≢ None → EndIsFinal (run_meaning sheet names limits) front (front ++ rest)
    final_by front rest ordered done e some =
        let closed = sym (open_same (whats front)) ∙ done_closed (all_in_tree (whats front)) e in
        let whole : front ++ rest ≡ front = ap (λ (x : List Lined). front ++ x) (none_behind front rest ordered closed) ∙ append-nil front in
        record { outcome = ap (run_meaning sheet names limits).outcome whole; written = ap (run_meaning sheet names limits).written whole }
    final_by front rest ordered waits e some = absurd (some refl)
    final_by front rest ordered (stops c) e some =
        let p = all_in_tree (whats front) in
        let all = all_in_tree (whats (front ++ rest)) in
        let is : on all ≡ on p =
        ap on (in_tree-append front rest)
        ∙ stopped_grown (on p) (on (p ++ all_in_tree (whats rest))) c e (result_grows sheet names limits streamable p (all_in_tree (whats rest)) (parts_may front rest ordered)) in
        record {
          outcome = ap (λ (r : Result). outcome_at r.ending None (tree_of all).is_open) is ∙ stopped_outcome (on p).ending c (tree_of all).is_open (tree_of p).is_open e;
          written = ap (λ (r : Result). written_of r (tree_of all).is_open) is ∙ stopped_written (on p) c (tree_of all).is_open (tree_of p).is_open e;
        }

    -- a run is such a meaning of events
    pub run_steady : IsSteady (run_meaning sheet names limits)
    run_steady = record {
      grows = λ front rest ordered.
          let more = written_grows (all_in_tree (whats front)) (all_in_tree (whats rest)) (parts_may front rest ordered) in
          (more.0, ap (λ (hs : Happenings). written_for_events sheet names limits hs) (in_tree-append front rest) ∙ more.1);
      final = λ front rest ordered some. final_by front rest ordered (on (all_in_tree (whats front))).ending refl some;
      done = λ events ordered e.
          let p = all_in_tree (whats events) in
          sym (open_same (whats events)) ∙ done_at (on p).ending (tree_of p).is_open e;
      ends = λ events ordered closed.
          let p = all_in_tree (whats events) in
          let closed_so = open_same (whats events) ∙ closed in
          settled_at (on p).ending (tree_of p).is_open (closed_not_waiting sheet names limits streamable p closed_so) closed_so;
    }

    -- more bytes only add to what is written
    pub run_grows : Grows (run_written sheet names limits)
    run_grows = grows_by_bytes (run_meaning sheet names limits) run_steady
