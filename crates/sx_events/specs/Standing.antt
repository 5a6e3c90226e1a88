-- What the parts of a reader of events stand for.
use Rattle.std.specs.Prelude.{◌≡◌, ℕ, suc, ◌+◌, ◌^◌, ◌≤◌, false, not, ◌&&◌, ◌||◌, List, [], ◌∷◌, ◌++◌, length, take, Option, Some, None, if◌then◌else◌}
use Rattle.sx_esis.specs.Lines.{Line}
use Rattle.sx_events.specs.Course.{place_behind, events_at, run_in}
use Rattle.sx_events.specs.Place.{Place, Written, spaces_of, ordinary, is_root_closed, is_of_element, needs_root, may_follow_attributes, is_mismatch, own_fault, fault_of}
use Rattle.sx_events.specs.Pending.{AreKnownWaiting, IsIdle, IsRun, held, count_held}
use Rattle.sx_events.specs.declared.attributes.Attributes.{Attributes}
use Rattle.sx_events.specs.declared.elements.Elements.{Elements}
use Rattle.sx_limits.specs.declared.faults.Which.{Which}
use Rattle.sx_limits.specs.declared.faults.Which.TheVariants as which
use Rattle.sx_limits.specs.declared.limits.Limits.{Limits}
use Rattle.sx_events.specs.declared.pending.Pending.{Pending}
use Rattle.sx_events.specs.declared.pending.Waiting.{Waiting}
use Rattle.sx_events.specs.declared.run.Run.{Run}
use Rattle.sx_events.specs.declared.standing.Standing.{Standing}
use Rattle.sx_names.specs.Numbering.{NameTable}

-- names in one text, the innermost last, and where each begins
abbrev pub AreOpenNames : List ℕ → List ℕ → List (List ℕ) → Type 0
AreOpenNames text starts [] = (text ≡ []) × (starts ≡ [])
AreOpenNames text starts (name ∷ names) =
    (outer : List ℕ) × (before : List ℕ) × (text ≡ outer ++ name) × (starts ≡ before ++ length outer ∷ []) × AreOpenNames outer before names

-- the open elements have these names, the innermost first
abbrev pub HoldsOpen : Elements → List (List ℕ) → Type 0
HoldsOpen e names = AreOpenNames e.text.items e.starts.items names

-- the attribute lines that wait and declare nothing; place_behind them stand others, which wait no longer
abbrev pub attribute_lines_of : Attributes → List Written
attribute_lines_of a = take a.count a.lines.items

-- these attribute lines wait
pub record AreWaiting (a : Attributes) (attributes : List Written) : Type 0 where
  pub ordinary : attribute_lines_of a ≡ ordinary attributes
  pub spaces : a.spaces ≡ spaces_of attributes

-- limits by which every number of a line is exact
pub record IsSmall (limits : Limits) : Type 0 where
  pub bytes : limits.bytes ≤ 2 ^ 61

-- The parts of a reader keep what is known at this place.
pub record Knows (s : Standing) (p : Place) : Type 0 where
  pub opened : HoldsOpen s.elements p.opened
  pub scope : s.elements.scope ≡ p.scope
  pub has_root : s.has_root ≡ p.has_root
  pub conformed : s.conformed ≡ p.conformed
  pub wait : AreWaiting s.attributes p.attributes
  pub is_loose : s.attributes.is_loose ≡ p.is_loose
  pub strict : p.is_loose ≡ false → p.attributes ≡ []
  pub text : s.run.text ≡ p.text
  pub text_line : s.run.line ≡ p.text_line

-- what is at fault with a line that stands where none of its kind may
abbrev pub place_fault : Place → Line → Option Which
place_fault p line =
    if p.conformed || (is_root_closed p && is_of_element line) then Some which.AfterRoot
    else if not p.has_root && needs_root line then Some which.NoRoot
    else if p.is_loose && not (may_follow_attributes line) then Some which.LooseAttr
    else None

-- what else is at fault with a line
abbrev pub fault_at : Limits → Place → Line → Option Which
fault_at limits p line = if is_mismatch p line then Some which.EndMismatch else own_fault limits p line

-- how many events a run of text is
abbrev pub is_run : List ℕ → ℕ
is_run [] = 0
is_run (b ∷ bs) = 1

-- how many events wait or begin
abbrev pub events_in : Run → Pending → ℕ
events_in r p = is_run r.text + count_held p

-- The line was taken: its events wait, and the parts keep what is known place_behind it.
pub record Took (new : Standing) (names : NameTable) (after : Pending) (p : Place) (line : Line) : Type 0 where
  pub knows : Knows new (place_behind p line)
  pub events : held names after ≡ events_at p line
  pub known : AreKnownWaiting names after

-- What became of the line with this number: it was taken, or this is at fault with it, and nothing that waits has changed.
abbrev pub TakesLine : Limits → Line → ℕ → NameTable → Standing → Standing → Pending → Pending → Option Which → Type 0
TakesLine limits line number names old new before after None =
    (p : Place) → Knows old p → number ≡ suc p.lines → IsIdle before → (fault_of limits p line ≡ None) × Took new names after p line
TakesLine limits line number names old new before after (Some w) =
    ((p : Place) → Knows old p → fault_of limits p line ≡ Some w) × (new.run ≡ old.run) × (after ≡ before)

-- the same, where a line of its kind may stand
abbrev pub TakesHere : Limits → Line → ℕ → NameTable → Standing → Standing → Pending → Pending → Option Which → Type 0
TakesHere limits line number names old new before after None =
    (p : Place) → Knows old p → place_fault p line ≡ None → number ≡ suc p.lines → IsIdle before → (fault_at limits p line ≡ None) × Took new names after p line
TakesHere limits line number names old new before after (Some w) =
    ((p : Place) → Knows old p → fault_at limits p line ≡ Some w) × (new.run ≡ old.run) × (after ≡ before)

-- The run of text has ended, and is what waits.
pub record Flushed (old new : Standing) (w : Option Waiting) : Type 0 where
  pub waits : IsRun w (run_in old.run.text old.run.line)
  pub text : new.run.text ≡ []
  pub line : new.run.line ≡ 0
  pub rest : new ≡ record old { run = new.run }
