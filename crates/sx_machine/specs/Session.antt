-- What a session stands for.
use Rattle.std.specs.Prelude.{◌≡◌, ℕ, [], ◌∷◌, length, drop, zero, suc, Option, Some, None, Bool, true, false, nat_eq, slice_get, slice_index_or, List, ◌++◌, map}
use Rattle.sx_atoms.specs.declared.error_codes.Code.TheVariants as error
use Rattle.sx_kinds.specs.declared.sheets.Sheet.{Sheet}
use Rattle.sx_tree.specs.declared.events.Event.{Event}
use Rattle.sx_tree.specs.Tree.{Document, TreeEvent, closes, tree_of}
use Rattle.sx_lines.specs.declared.events.Built.{Built}
use Rattle.sx_named.specs.Named.{NamedElement, named_in_tree, IsKnown}
use Rattle.sx_build.specs.Asked.{Asked}
use Rattle.sx_build.specs.Build.{Build, error_of}
use Rattle.sx_machine.specs.declared.plans.Rule.{Rule}
use Rattle.sx_machine.specs.declared.rule_table.RuleTable.{RuleTable}
use Rattle.sx_machine.specs.declared.session.Job.{Job}
use Rattle.sx_machine.specs.declared.session.Job.TheVariants as job
use Rattle.sx_machine.specs.declared.session.Session.{Session}
use Rattle.sx_machine.specs.declared.session.State.{State}
use Rattle.sx_machine.specs.declared.session.State.TheVariants as state
use Rattle.sx_machine.specs.declared.session.Step.{Step}
use Rattle.sx_machine.specs.declared.session.Step.TheVariants as step
use Rattle.sx_machine.specs.Choice.{chosen_for, last_that}
use Rattle.sx_machine.specs.Run.{Ending, done, waits, stops, ending_with, Result, result_of}
use Rattle.sx_machine.specs.Growth.{MayCome}
use Rattle.sx_machine.specs.Meaning.{IsReady, is_copying_first, meaning_on, result_for}
use Rattle.sx_machine.specs.Writer.{WriterStands}
use Rattle.sx_machine.specs.Plan.{AreRulesOf, task_of, tasks}
use Rattle.sx_names.specs.Numbering.{NameTable, IsDistinct, KeepsPlaces}

-- whether a session goes on, where the result ends so
abbrev pub state_of : Ending → State
state_of done = state.Closed
state_of waits = state.Going
state_of (stops c) = state.Stopped c

-- what a session answers in a state
abbrev pub step_from : State → Step
step_from state.Going = step.Going
step_from (state.Stopped c) = step.Stopped c
step_from state.Closed = step.Going
step_from state.Spent = step.Going

-- memory was wanting in this state
abbrev pub is_spent_state : State → Bool
is_spent_state state.Going = false
is_spent_state (state.Stopped c) = false
is_spent_state state.Closed = false
is_spent_state state.Spent = true

-- memory was wanting: the session takes nothing more
abbrev pub is_spent : Session → Bool
is_spent s = is_spent_state s.state

-- the work for the children of the document node, where there may be so many invocations, one of them its own
abbrev pub root_job : ℕ → Job
root_job zero = job.Skip
root_job (suc left) = job.Apply left

-- the state in which nothing has happened
abbrev pub first_state : ℕ → State
first_state zero = state.Stopped error.Sxli0001
first_state (suc left) = state.Going

-- the rule at a place
abbrev pub rule_at : List Rule → Option ℕ → Option Rule
rule_at rules None = None
rule_at rules (Some n) = slice_get rules n

-- the place that stands at a number
abbrev pub place_in : List (Option ℕ) → ℕ → Option ℕ
place_in places number = slice_index_or places number None

-- an optional number is this one
abbrev pub is_number : ℕ → Option ℕ → Bool
is_number number None = false
is_number number (Some n) = nat_eq n number

-- a rule is for the name with this number
abbrev pub is_rule_for : ℕ → Rule → Bool
is_rule_for number r = is_number number r.name

-- at the number of each name stands the place of the last rule for it
abbrev pub FindsLast : RuleTable → Type 0
FindsLast table = (number : ℕ) → rule_at table.list (place_in table.places number) ≡ last_that (is_rule_for number) table.list

-- What the builder of a session was asked for. Where the session goes on it is all that the stylesheet asks for, and the
-- content is not at its end.
pub record Builds (s : Session) (all : List Asked) (result : Result) (given : ℕ) : Type 0 where
  pub asked : List Asked
  pub at_end : Bool
  pub stands : WriterStands s.writer asked at_end given
  pub built_is : Build asked at_end ≡ result.built
  pub all_asked : s.state ≡ state.Going → (asked ≡ all) × (at_end ≡ false)

-- The session is what this stylesheet has on an open tree, where there may be so many invocations, and so many built events
-- were taken from it. Names are those that it was started with.
pub record StandsOn (sheet : Sheet) (names : NameTable) (invocations : ℕ) (s : Session) (d : Document NamedElement) (given : ℕ) : Type 0 where
  pub ready : IsReady sheet names
  pub rules_are : AreRulesOf sheet.templates s.rules.list
  pub places_are : FindsLast s.rules
  pub copying_is : s.is_copying ≡ is_copying_first sheet.modes
  pub root_is : s.root ≡ root_job invocations
  pub builds : Builds s (meaning_on sheet names invocations d).raw (result_of (meaning_on sheet names invocations d)) given
  pub state_is : s.state ≡ state_of (result_of (meaning_on sheet names invocations d)).ending
  pub frames_are : s.state ≡ state.Going → map (task_of names s.rules.list) s.frames
      ≡ tasks (chosen_for names (is_copying_first sheet.modes) sheet.templates) s.root d.content

-- These were asked for besides, nothing else is different but the frames, and the state is that of what was asked for.
pub record Wrote (old new : Session) (more : List Asked) : Type 0 where
  pub same_rules : new.rules ≡ old.rules
  pub same_copying : new.is_copying ≡ old.is_copying
  pub same_root : new.root ≡ old.root
  pub wrote : (asked : List Asked) (given : ℕ) → error_of asked ≡ None → WriterStands old.writer asked false given
      → WriterStands new.writer (asked ++ more) false given × (new.state ≡ state_of (ending_with (error_of (asked ++ more)) waits))

-- the session is what this stylesheet has after what has happened
abbrev pub Stands : Sheet → NameTable → ℕ → Session → List (TreeEvent NamedElement) → ℕ → Type 0
Stands sheet names invocations s p given = StandsOn sheet names invocations s (tree_of p) given

-- What the session stood for it now stands for with this event behind it, where the event may come and the table has its
-- names.
abbrev pub Advances : Session → Session → NameTable → Event → Type 0
Advances old new names e = (sheet : Sheet) (known : NameTable) (invocations : ℕ) (p : List (TreeEvent NamedElement)) (given : ℕ) →
    KeepsPlaces known names → IsDistinct names → IsKnown names e → MayCome p (named_in_tree names e) →
    Stands sheet known invocations old p given → Stands sheet known invocations new (p ++ named_in_tree names e ∷ []) given

-- what it stood for it now stands for with the close behind it, where that may come
abbrev pub AdvancesToClose : Session → Session → NameTable → Type 0
AdvancesToClose old new names = (sheet : Sheet) (known : NameTable) (invocations : ℕ) (p : List (TreeEvent NamedElement)) (given : ℕ) →
    KeepsPlaces known names → IsDistinct names → MayCome p closes →
    Stands sheet known invocations old p given → Stands sheet known invocations new (p ++ closes ∷ []) given

-- these are the built events of the result behind those that were taken
abbrev pub IsOutput : Session → List Built → Type 0
IsOutput s events = (sheet : Sheet) (known : NameTable) (invocations : ℕ) (p : List (TreeEvent NamedElement)) (given : ℕ) →
    Stands sheet known invocations s p given → events ≡ drop given (result_for sheet known invocations p).built

-- all built events of the result were taken
abbrev pub AllTaken : Session → Session → Type 0
AllTaken old new = (sheet : Sheet) (known : NameTable) (invocations : ℕ) (p : List (TreeEvent NamedElement)) (given : ℕ) →
    Stands sheet known invocations old p given →
    Stands sheet known invocations new p (length (result_for sheet known invocations p).built)
