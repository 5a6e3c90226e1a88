-- What a stylesheet writes for the bytes of a document, and where they end.
use Rattle.std.specs.Prelude.{ℕ, Bool, false, not, ◌&&◌, List, [], ◌++◌, Option, Some, None, if◌then◌else◌}
use Rattle.sx_kinds.specs.declared.sheets.Sheet.{Sheet}
use Rattle.sx_lines.specs.declared.events.Built.{Built}
use Rattle.sx_lines.specs.Print.{print_all, ends_in_text, ending_of}
use Rattle.sx_named.specs.Named.{NamedElement, all_in_tree}
use Rattle.sx_tree.specs.Tree.{TreeEvent, tree_of}
use Rattle.sx_limits.specs.declared.faults.DocFault.{DocFault}
use Rattle.sx_limits.specs.declared.limits.Limits.{Limits}
use Rattle.sx_events.specs.Course.{events_of, break_of, whats}
use Rattle.sx_machine.specs.Meaning.{result_for}
use Rattle.sx_machine.specs.Run.{Result, Ending, done, waits, stops, is_done}
use Rattle.sx_reading.specs.declared.consumer.Outcome.{Outcome}
use Rattle.sx_reading.specs.declared.consumer.Outcome.TheVariants as outcomes
use Rattle.sx_reading.specs.declared.status.Input.TheVariants as input
use Rattle.sx_names.specs.Numbering.{NameTable}

-- the printed events, and behind a whole result what ends it
abbrev pub printed_result : List Built → Bool → List ℕ
printed_result events is_whole = print_all false events ++ (if is_whole then ending_of (ends_in_text false events) else [])

-- what is written of a result, where the document is or is not open: it is whole where all was given and the document is closed
abbrev pub written_of : Result → Bool → List ℕ
written_of r is_open = printed_result r.built (is_done r.ending && not is_open)

-- the document is broken off
abbrev pub broken_document : DocFault → Outcome
broken_document f = outcomes.Broken input.Document f

-- where a run ends that waits for more of the document: where that is broken off
abbrev pub outcome_waiting : Option DocFault → Option Outcome
outcome_waiting None = None
outcome_waiting (Some f) = Some (broken_document f)

-- where a run ends that is done: the document is closed then
abbrev pub outcome_done : Option DocFault → Bool → Option Outcome
outcome_done (Some f) is_open = Some (broken_document f)
outcome_done None is_open = if is_open then None else Some outcomes.Done

-- where a run ends: at an error of the stylesheet's, where the document is broken off, or where all is given and the
-- document is closed
abbrev pub outcome_at : Ending → Option DocFault → Bool → Option Outcome
outcome_at (stops c) fault is_open = Some (outcomes.Dynamic c)
outcome_at done fault is_open = outcome_done fault is_open
outcome_at waits fault is_open = outcome_waiting fault

-- what has happened by bytes, as a tree knows it
abbrev pub happened : Limits → List ℕ → Bool → List (TreeEvent NamedElement)
happened limits b ended = all_in_tree (whats (events_of limits b ended))

module _ (sheet : Sheet) (names : NameTable) (limits : Limits) where
  -- the result on the open tree of what has happened, by the stylesheet and its table of names
  abbrev pub result_on : List (TreeEvent NamedElement) → Result
  result_on p = result_for sheet names limits.invocations p

  -- what is written for what has happened
  abbrev pub written_for_events : List (TreeEvent NamedElement) → List ℕ
  written_for_events p = written_of (result_on p) (tree_of p).is_open

  -- what is written for bytes
  abbrev pub run_written : List ℕ → Bool → List ℕ
  run_written b ended = written_for_events (happened limits b ended)

  -- where bytes end
  abbrev pub run_outcome : List ℕ → Bool → Option Outcome
  run_outcome b ended =
      let p = happened limits b ended in
      outcome_at (result_on p).ending (break_of limits b ended) (tree_of p).is_open
