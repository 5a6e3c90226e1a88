-- How many invocations of templates a document takes.
use Rattle.std.proofs.Common.{◌≡◌, ◌≢◌, ℕ, zero, suc, ◌≤◌, Bool, true, false, cond, List, [], ◌∷◌, Option, Some, None, ap, arith}
use Rattle.sx_atoms.specs.declared.error_codes.Code.{Code}
use Rattle.sx_atoms.specs.declared.error_codes.Code.TheVariants.{Sxli0001}
use Rattle.sx_named.specs.Named.{Name, Attribute, NamedElement}
use Rattle.sx_tree.specs.Tree.{Forest, none, text, instruction, element, Document, tree_of}
use Rattle.sx_build.specs.Asked.{Asked, starts, ends, has, says, prints, instructs}
use Rattle.sx_build.specs.Build.{error_of}
use Rattle.sx_build.specs.Content.{Held, parts_from, in_texts, misplaced}
use Rattle.sx_kinds.specs.declared.sheets.Sheet.{Sheet}
use Rattle.sx_limits.specs.declared.limits.Limits.{Limits}
use Rattle.sx_limits.specs.declared.faults.DocFault.{DocFault}
use Rattle.sx_machine.specs.Body.{Body, nil, literal, copies, words, apply}
use Rattle.sx_machine.specs.Choice.{chosen_for}
use Rattle.sx_machine.specs.Meaning.{is_copying_first, meaning_on}
use Rattle.sx_machine.specs.Run.{Ending, done, waits, stops, ending_with, Output, nothing, gives, output_behind, next, wrap, run_body, copied_attributes, copied_instruction, invoked, children, for_each, loop, child, meaning}
use Rattle.sx_names.specs.Numbering.{NameTable}
use Rattle.sx_events.specs.Course.{break_of}
use Rattle.sx_reading.specs.declared.consumer.Outcome.TheVariants as outcomes
use Rattle.sx_top.specs.Depth.{NestsIn}
use Rattle.sx_top.specs.Run.{happened, result_on, outcome_at, run_outcome}
use Rattle.sx_top.proofs.Depths.{nests_more, happened_nests}

-- it does not end where too many invocations are open
abbrev IsShallow : Ending → Type 0
IsShallow e = e ≢ stops Sxli0001

shallow_behind : (raws : List Asked) (e : Ending) (b : Output) → IsShallow e → IsShallow b.ending → IsShallow (output_behind raws e b).ending
shallow_behind raws done b h k = k
shallow_behind raws waits b h k = h
shallow_behind raws (stops c) b h k = h

shallow_next : (a b : Output) → IsShallow a.ending → IsShallow b.ending → IsShallow (next a b).ending
shallow_next a b h k = shallow_behind a.raw a.ending b h k

shallow_done : IsShallow done
shallow_done e = cc

shallow_end : (is_open : Bool) → IsShallow (cond is_open waits done)
shallow_end true e = cc
shallow_end false e = cc

shallow_attributes : (n : ℕ) (list : List Attribute) → IsShallow (copied_attributes (suc n) list).ending
shallow_attributes n [] = shallow_done
shallow_attributes n (a ∷ list) = shallow_next (gives (has a ∷ [])) (copied_attributes (suc n) list) shallow_done (shallow_attributes n list)

module _ (copied : List Attribute → Output) (given : Output) (each : (list : List Attribute) → IsShallow (copied list).ending) (all : IsShallow given.ending) where
  shallow_body : (body : Body Name) → IsShallow (run_body copied given body).ending
  shallow_body nil = shallow_done
  shallow_body (literal line name content rest) =
      let inner = run_body copied given content in
      shallow_next (wrap name inner) (run_body copied given rest)
      (shallow_next (gives (starts name ∷ [])) (next inner (gives (ends ∷ []))) shallow_done (shallow_next inner (gives (ends ∷ [])) (shallow_body content) shallow_done))
      (shallow_body rest)
  shallow_body (copies list rest) = shallow_next (copied list) (run_body copied given rest) (each list) (shallow_body rest)
  shallow_body (words s rest) = shallow_next (gives (says s ∷ [])) (run_body copied given rest) shallow_done (shallow_body rest)
  shallow_body (apply rest) = shallow_next given (run_body copied given rest) all (shallow_body rest)

module _ {E : Type 0} (is_copying : Bool) (chosen : E → Body Name) where
  -- an element is run, where its children are
  shallow_element : (n : ℕ) (e : E) (is_open : Bool) (kids : Forest E) → IsShallow (for_each (invoked is_copying chosen (suc n)) (children is_open kids) (cond is_open waits done)).ending
      → IsShallow (run_body (copied_attributes (suc n)) (loop (invoked is_copying chosen (suc n)) (child is_open kids)) (chosen e)).ending
  shallow_element n e is_open kids h = shallow_body (copied_attributes (suc n)) (loop (invoked is_copying chosen (suc n)) (child is_open kids)) (shallow_attributes n) h (chosen e)

  shallow_children : (f : Forest E) (n : ℕ) (is_open : Bool) (e : Ending) → IsShallow e → NestsIn f n → IsShallow (for_each (invoked is_copying chosen (suc n)) (children is_open f) e).ending
  shallow_children none n is_open e h nests = h
  shallow_children (text s rest) n is_open e h nests =
      shallow_next (gives (says s ∷ [])) (for_each (invoked is_copying chosen (suc n)) (children is_open rest) e) shallow_done (shallow_children rest n is_open e h nests)
  shallow_children (instruction t c rest) n is_open e h nests =
      shallow_next (gives (copied_instruction is_copying t c)) (for_each (invoked is_copying chosen (suc n)) (children is_open rest) e) shallow_done (shallow_children rest n is_open e h nests)
  shallow_children (element x o kids rest) zero is_open e h nests = absurd nests
  shallow_children (element x true kids rest) (suc n) true e h nests =
      shallow_next (run_body (copied_attributes (suc n)) (loop (invoked is_copying chosen (suc n)) (child true kids)) (chosen x)) (nothing e)
      (shallow_element n x true kids (shallow_children kids n true waits (shallow_end true) nests.0)) h
  shallow_children (element x false kids rest) (suc n) true e h nests =
      shallow_next (run_body (copied_attributes (suc n)) (loop (invoked is_copying chosen (suc n)) (child false kids)) (chosen x)) (for_each (invoked is_copying chosen (suc (suc n))) (children true rest) e)
      (shallow_element n x false kids (shallow_children kids n false done (shallow_end false) nests.0)) (shallow_children rest (suc n) true e h nests.1)
  shallow_children (element x o kids rest) (suc n) false e h nests =
      shallow_next (run_body (copied_attributes (suc n)) (loop (invoked is_copying chosen (suc n)) (child false kids)) (chosen x)) (for_each (invoked is_copying chosen (suc (suc n))) (children false rest) e)
      (shallow_element n x false kids (shallow_children kids n false done (shallow_end false) nests.0)) (shallow_children rest (suc n) false e h nests.1)

  shallow_meaning : (n : ℕ) (d : Document E) → NestsIn d.content n → IsShallow (meaning is_copying chosen (suc (suc n)) d).ending
  shallow_meaning n d nests = shallow_children d.content n d.is_open (cond d.is_open waits done) (shallow_end d.is_open) nests

-- ---- results

other_error : (depth : ℕ) → misplaced depth ≢ Sxli0001
other_error zero e = cc
other_error (suc n) e = cc

in_some : (c : Code) → c ≢ Sxli0001 → Some c ≢ Some Sxli0001
in_some c n e = n (cc)

no_such_error : (depth : ℕ) (held : Option Held) (asked : List Asked) → (parts_from depth held asked).error ≢ Some Sxli0001
no_such_error depth held [] e = cc
no_such_error depth held (starts name ∷ rest) e = no_such_error (suc depth) (Some (record { name = name; attributes = [] })) rest e
no_such_error zero held (ends ∷ rest) e = no_such_error zero None rest e
no_such_error (suc depth) held (ends ∷ rest) e = no_such_error depth None rest e
no_such_error depth None (has a ∷ rest) e = in_some (misplaced depth) (other_error depth) e
no_such_error depth (Some h) (has a ∷ rest) e = no_such_error depth _ rest e
no_such_error depth held (says s ∷ rest) e = no_such_error depth None rest e
no_such_error depth held (prints s ∷ rest) e = no_such_error depth None rest e
no_such_error depth held (instructs t c ∷ rest) e = no_such_error depth None rest e

shallow_with : (found : Option Code) (e : Ending) → found ≢ Some Sxli0001 → IsShallow e → IsShallow (ending_with found e)
shallow_with None e n h = h
shallow_with (Some c) e n h = λ is. n (ap (λ (x : Code). Some x) (same c is))
  where
    same : (c : Code) → stops c ≡ stops Sxli0001 → c ≡ Sxli0001
    same c is = cc

stopped_at : (g : Ending) (fault : Option DocFault) (now_open : Bool) → outcome_at g fault now_open ≡ Some (outcomes.Dynamic Sxli0001) → g ≡ stops Sxli0001
stopped_at done (Some f) now_open e = absurd (cc)
stopped_at done None true e = absurd (cc)
stopped_at done None false e = absurd (cc)
stopped_at waits (Some f) now_open e = absurd (cc)
stopped_at waits None now_open e = absurd (cc)
stopped_at (stops c) fault now_open e =
    let same : c ≡ Sxli0001 = cc in
    ap stops same

shallow_result : (sheet : Sheet) (names : NameTable) (k : ℕ) (d : Document NamedElement) → 202 ≤ k → NestsIn d.content 200 → IsShallow (meaning_on sheet names k d).ending
shallow_result sheet names zero d le nests = absurd (omega (arith, le))
shallow_result sheet names (suc zero) d le nests = absurd (omega (arith, le))
shallow_result sheet names (suc (suc n)) d le nests =
    shallow_meaning (is_copying_first sheet.modes) (chosen_for names (is_copying_first sheet.modes) sheet.templates) n d (nests_more d.content 200 n (omega (arith, le)) nests)

-- a run never ends where too many invocations are open, if 202 may be
pub never_too_deep : (sheet : Sheet) (names : NameTable) (limits : Limits) (b : List ℕ) (ended : Bool) → 202 ≤ limits.invocations → run_outcome sheet names limits b ended ≢ Some (outcomes.Dynamic Sxli0001)
never_too_deep sheet names limits b ended le e =
    let p = happened limits b ended in
    let o = meaning_on sheet names limits.invocations (tree_of p) in
    shallow_with (error_of o.raw) o.ending (no_such_error 0 None (in_texts false o.raw)) (shallow_result sheet names limits.invocations (tree_of p) le (happened_nests limits b ended))
    (stopped_at (result_on sheet names limits p).ending (break_of limits b ended) (tree_of p).is_open e)
