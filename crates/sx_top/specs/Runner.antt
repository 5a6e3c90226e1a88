-- What a runner stands for.
use Rattle.std.specs.Prelude.{◌≡◌, ℕ, Bool, false, List, ◌++◌, length, Option, Some, None}
use Rattle.sx_kinds.specs.declared.sheets.Sheet.{Sheet}
use Rattle.sx_names.specs.Numbering.{NameTable, KeepsPlaces}
use Rattle.sx_lines.specs.Print.{ends_in_text}
use Rattle.sx_named.specs.Named.{NamedElement, all_in_tree}
use Rattle.sx_tree.specs.Tree.{TreeEvent, tree_of}
use Rattle.sx_limits.specs.declared.limits.Limits.{Limits}
use Rattle.sx_events.specs.Course.{Lined, whats}
use Rattle.sx_machine.specs.Run.{is_done}
use Rattle.sx_machine.specs.Session as session
use Rattle.sx_machine.specs.declared.session.Session.{Session}
use Rattle.sx_machine.specs.declared.session.State.{State}
use Rattle.sx_machine.specs.declared.session.State.TheVariants as state
use Rattle.sx_reading.specs.declared.consumer.Outcome.{Outcome}
use Rattle.sx_reading.specs.declared.consumer.Outcome.TheVariants as outcomes
use Rattle.sx_reading.specs.declared.status.Input.TheVariants as input
use Rattle.sx_top.specs.Feeding.{Meaning}
use Rattle.sx_top.specs.Run.{printed_result, outcome_at, result_on, written_for_events}
use Rattle.sx_top.specs.declared.runner.Runner.{Runner}

-- where a run ends whose session is in this state
abbrev pub ended_in : State → Option Outcome
ended_in state.Going = None
ended_in (state.Stopped c) = Some (outcomes.Dynamic c)
ended_in state.Closed = Some outcomes.Done
ended_in state.Spent = None

module _ (sheet : Sheet) (names : NameTable) (limits : Limits) where
  -- what has happened, as a tree knows it, ends the run of the stylesheet here, if it does
  abbrev pub outcome_for_events : List (TreeEvent NamedElement) → Option Outcome
  outcome_for_events p = outcome_at (result_on sheet names limits p).ending None (tree_of p).is_open

  -- what the events of a document mean to a stylesheet, by its table of names
  abbrev pub run_meaning : Meaning
  run_meaning = record {
    input = input.Document;
    limits = limits;
    written = λ events. written_for_events sheet names limits (all_in_tree (whats events));
    outcome = λ events. outcome_for_events (all_in_tree (whats events));
  }

  -- This has happened and was run, w of what can be written for it was taken, and the rest of it is due.
  pub record RanAs (s : Session) (due : List ℕ) (after_text : Bool) (p : List (TreeEvent NamedElement)) (w : List ℕ) : Type 0 where
    pub stands : session.Stands sheet names limits.invocations s p (length (result_on sheet names limits p).built)
    pub written : w ++ due ≡ printed_result (result_on sheet names limits p).built (is_done (result_on sheet names limits p).ending)
    pub text : after_text ≡ ends_in_text false (result_on sheet names limits p).built

-- These events mean this to the stylesheet that the runner runs, and were run; its table of names keeps its places in this one.
pub record Runs (r : Runner) (m : Meaning) (names : NameTable) (events : List Lined) (w : List ℕ) : Type 0 where
  pub sheet : Sheet
  pub own : NameTable
  pub limits : Limits
  pub means : m ≡ run_meaning sheet own limits
  pub keeps : KeepsPlaces own names
  pub ran : RanAs sheet own limits r.session r.due.items r.after_text (all_in_tree (whats events)) w
