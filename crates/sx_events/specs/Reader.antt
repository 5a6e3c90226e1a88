-- What a reader of events stands for, and what it gives.
use Rattle.std.specs.Prelude.{◌≡◌, ℕ, suc, ◌+◌, ◌-◌, ◌^◌, ◌≤◌, min, Bool, true, false, not, ◌&&◌, List, ◌++◌, length, slice_get, Option, Some, None, Result, Ok, Err}
use Rattle.sx_esis.specs.Lines.{Line}
use Rattle.sx_esis.specs.LineReader as reader
use Rattle.sx_esis.specs.declared.reader.LineReader.{LineReader}
use Rattle.sx_named.specs.Named.{named, IsKnown}
use Rattle.sx_tree.specs.declared.events.Event.{Event}
use Rattle.sx_events.specs.Course.{course, course_of, reading, looked_at, is_beyond, break_of, events_of, line_behind, run_in, run_of, whats}
use Rattle.sx_events.specs.Place.{beginning}
use Rattle.sx_events.specs.Pending.{Pends, IsIdle, count_held}
use Rattle.sx_events.specs.Standing.{IsSmall, Knows, events_in}
use Rattle.sx_events.specs.declared.event_reader.Ending.{Ending}
use Rattle.sx_events.specs.declared.event_reader.Ending.TheVariants as ending
use Rattle.sx_events.specs.declared.event_reader.EventReader.{EventReader}
use Rattle.sx_limits.specs.declared.faults.DocFault.{DocFault}
use Rattle.sx_limits.specs.declared.limits.Limits.{Limits}
use Rattle.sx_events.specs.declared.pending.Pending.{Pending}
use Rattle.sx_events.specs.declared.run.Run.{Run}
use Rattle.sx_events.specs.declared.standing.Standing.{Standing}
use Rattle.sx_events.specs.declared.taking.Taken.{Taken}
use Rattle.sx_events.specs.declared.taking.Taken.TheVariants as taken
use Rattle.sx_names.specs.Numbering.{NameTable}

-- the reader of lines was fed what is looked at of the bytes, and gave so many lines
abbrev pub TakesLines : LineReader → Limits → List ℕ → Bool → ℕ → Type 0
TakesLines r limits b ended given = reader.LinesStand r limits.line (looked_at limits b) (ended && not (is_beyond limits b)) given

-- The first lines of the bytes were taken and are not at fault; of their events so many were given, the last of them on
-- this line, and the others wait.
pub record Along (r : LineReader) (s : Standing) (p : Pending) (limits : Limits) (names : NameTable) (b : List ℕ) (ended : Bool) (given line : ℕ) : Type 0 where
  pub small : IsSmall limits
  pub front : List Line
  pub more : List Line
  pub lines : (reading limits b ended).lines ≡ front ++ more
  pub reads : TakesLines r limits b ended (length front)
  pub sound : (course limits beginning front).fault ≡ None
  pub knows : Knows s (course limits beginning front).place
  pub pends : Pends p names (course limits beginning front).events given line

-- All lines of the bytes were taken, and none is at fault.
pub record TookAll (r : LineReader) (s : Standing) (p : Pending) (limits : Limits) (names : NameTable) (b : List ℕ) (ended : Bool) (given line : ℕ) : Type 0 where
  pub small : IsSmall limits
  pub whole : (reading limits b ended).fault ≡ None
  pub reads : TakesLines r limits b ended (length (reading limits b ended).lines)
  pub sound : (course_of limits b ended).fault ≡ None
  pub knows : Knows s (course_of limits b ended).place
  pub pends : Pends p names (course_of limits b ended).events given line

-- A line is at fault: the events in front of it were given or wait, but for the run of text that may have gone on.
pub record Broke (s : Standing) (p : Pending) (limits : Limits) (names : NameTable) (b : List ℕ) (ended : Bool) (given line : ℕ) (fault : DocFault) : Type 0 where
  pub cause : break_of limits b ended ≡ Some fault
  pub run : run_in s.run.text s.run.line ≡ run_of (course_of limits b ended).place
  pub idle : IsIdle p
  pub pends : Pends p names (course_of limits b ended).events given line

-- The input has ended well, with this line: all events but the run of text and the close were given.
pub record EndsWell (s : Standing) (p : Pending) (limits : Limits) (names : NameTable) (b : List ℕ) (ended : Bool) (given line last : ℕ) : Type 0 where
  pub told : ended ≡ true
  pub whole : break_of limits b ended ≡ None
  pub number : last ≡ (course_of limits b ended).place.lines
  pub run : run_in s.run.text s.run.line ≡ run_of (course_of limits b ended).place
  pub idle : IsIdle p
  pub pends : Pends p names (course_of limits b ended).events given line

abbrev pub AfterTaking : LineReader → Standing → Pending → Limits → NameTable → List ℕ → Bool → ℕ → ℕ → Taken → Type 0
AfterTaking r s p limits names b ended given line taken.Line = Along r s p limits names b ended given line
AfterTaking r s p limits names b ended given line taken.All = TookAll r s p limits names b ended given line
AfterTaking r s p limits names b ended given line (taken.Broken fault) = Broke s p limits names b ended given line fault

-- Lines that were taken add no more to what waits than there were bytes.
abbrev pub IsNoMore : Taken → ℕ → ℕ → ℕ → Type 0
IsNoMore taken.Line most unread waits = unread + waits ≤ most
IsNoMore taken.All most unread waits = waits ≤ most
IsNoMore (taken.Broken fault) most unread waits = waits ≤ most

-- The reader counted the bytes, and knows its limits and whether they have ended.
pub record Counted (r : EventReader) (limits : Limits) (b : List ℕ) (ended : Bool) : Type 0 where
  pub same : r.limits ≡ limits
  pub total : r.total ≡ min (length b) (2 ^ 64 - 1)
  pub told : r.ended ≡ ended

-- It is not known yet how the bytes end.
pub record Going (r : EventReader) (limits : Limits) (names : NameTable) (b : List ℕ) (ended : Bool) (given : ℕ) : Type 0 where
  pub counted : Counted r limits b ended
  pub along : Along r.lines r.standing r.pending limits names b ended given r.line

-- The bytes are broken off with this fault.
pub record BrokenOff (r : EventReader) (limits : Limits) (names : NameTable) (b : List ℕ) (ended : Bool) (given : ℕ) (fault : DocFault) : Type 0 where
  pub broken : break_of limits b ended ≡ Some fault
  pub pends : Pends r.pending names (events_of limits b ended) given r.line

-- The bytes have ended well.
pub record Whole (r : EventReader) (limits : Limits) (names : NameTable) (b : List ℕ) (ended : Bool) (given : ℕ) : Type 0 where
  pub told : ended ≡ true
  pub whole : break_of limits b ended ≡ None
  pub pends : Pends r.pending names (events_of limits b ended) given r.line

abbrev pub StandsAt : Option Ending → EventReader → Limits → NameTable → List ℕ → Bool → ℕ → Type 0
StandsAt None r limits names b ended given = Going r limits names b ended given
StandsAt (Some (ending.Broken fault)) r limits names b ended given = BrokenOff r limits names b ended given fault
StandsAt (Some ending.Whole) r limits names b ended given = Whole r limits names b ended given

-- The reader was fed these bytes, was or was not told of the end, and gave so many of their events, by this table of names.
abbrev pub EventsStand : EventReader → Limits → NameTable → List ℕ → Bool → ℕ → Type 0
EventsStand r limits names b ended given = StandsAt r.ending r limits names b ended given

-- All events of the bytes were given, and they are not broken off.
pub record GaveAllEvents (limits : Limits) (b : List ℕ) (ended : Bool) (given : ℕ) : Type 0 where
  pub all : given ≡ length (events_of limits b ended)
  pub whole : break_of limits b ended ≡ None

-- The reader has read on: where nothing waits and it is not known how the bytes end, all was given.
pub record Rests (r : EventReader) (limits : Limits) (names : NameTable) (b : List ℕ) (ended : Bool) (given : ℕ) : Type 0 where
  pub stands : EventsStand r limits names b ended given
  pub idle : IsIdle r.pending → r.ending ≡ None → GaveAllEvents limits b ended given

-- The reader gave the event behind those given before, or all events were given, or behind them the bytes are broken off.
abbrev pub GivesEvent : Limits → NameTable → List ℕ → Bool → ℕ → EventReader → Option (Result Event DocFault) → Type 0
GivesEvent limits names b ended given new None = (given ≡ length (events_of limits b ended)) × (break_of limits b ended ≡ None) × EventsStand new limits names b ended given
GivesEvent limits names b ended given new (Some (Ok e)) = (slice_get (whats (events_of limits b ended)) given ≡ Some (named names e)) × IsKnown names e × EventsStand new limits names b ended (suc given)
GivesEvent limits names b ended given new (Some (Err fault)) = (given ≡ length (events_of limits b ended)) × (break_of limits b ended ≡ Some fault) × EventsStand new limits names b ended given

-- an answer with an event for which something holds
abbrev pub IfEvent : Option (Result Event DocFault) → (Event → Type 0) → Type 0
IfEvent None P = Unit {0}
IfEvent (Some (Ok e)) P = P e
IfEvent (Some (Err fault)) P = Unit {0}

-- of bytes, the run of text and events that wait, and the close
abbrev pub left_at : Option Ending → ℕ → Run → Pending → ℕ
left_at None unread run pending = suc (unread + events_in run pending)
left_at (Some e) unread run pending = count_held pending

-- no fewer than the events that the reader can give of what it was fed
abbrev pub left : EventReader → ℕ
left r = left_at r.ending (reader.unread r.lines) r.standing.run r.pending

-- the reader wanted memory that it did not get
abbrev pub is_spent : EventReader → Bool
is_spent r = r.spent

-- What the reader stood for it now stands for with these bytes behind it.
abbrev pub TakesBytes : EventReader → EventReader → List ℕ → Type 0
TakesBytes old new piece = (limits : Limits) (names : NameTable) (b : List ℕ) (given : ℕ) →
    EventsStand old limits names b false given → EventsStand new limits names (b ++ piece) false given

-- what it stood for it still stands for
abbrev pub StandsStill : EventReader → EventReader → Type 0
StandsStill old new = (limits : Limits) (names : NameTable) (b : List ℕ) (ended : Bool) (given : ℕ) →
    EventsStand old limits names b ended given → EventsStand new limits names b ended given

-- it is told of the end
abbrev pub TakesEnd : EventReader → EventReader → Type 0
TakesEnd old new = (limits : Limits) (names : NameTable) (b : List ℕ) (given : ℕ) →
    EventsStand old limits names b false given → EventsStand new limits names b true given

-- this is the line of the last event that was given
abbrev pub IsLastLine : EventReader → ℕ → Type 0
IsLastLine r line = (limits : Limits) (names : NameTable) (b : List ℕ) (ended : Bool) (given : ℕ) →
    EventsStand r limits names b ended given → line ≡ line_behind (events_of limits b ended) given

-- it gives this, where the names were in one table before and are in another now
abbrev pub GivesNext : EventReader → EventReader → NameTable → NameTable → Option (Result Event DocFault) → Type 0
GivesNext old new before after answer = (limits : Limits) (b : List ℕ) (ended : Bool) (given : ℕ) →
    EventsStand old limits before b ended given → GivesEvent limits after b ended given new answer
