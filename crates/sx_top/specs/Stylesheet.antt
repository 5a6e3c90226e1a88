-- Reading a stylesheet: nothing is written for its bytes, and they end whole or are broken off.
use Rattle.std.specs.Prelude.{◌≡◌, ℕ, true, IsTrue, List, [], ◌∷◌, Option, Some, None, Result, IfOk, if◌then◌else◌}
use Rattle.sx_desk.specs.Desk.{Seen, bytes_of}
use Rattle.sx_names.specs.Numbering.{NameTable}
use Rattle.sx_named.specs.Named.{named}
use Rattle.sx_limits.specs.declared.limits.Limits.{Limits}
use Rattle.sx_events.specs.Course.{Lined, events_of, break_of, whats}
use Rattle.sx_limits.specs.Limits.{stated}
use Rattle.sx_tree.specs.Tree.{tree_of}
use Rattle.sx_tree.specs.declared.events.Event.{Event}
use Rattle.sx_tree.specs.declared.events.Event.TheVariants as event
use Rattle.sx_sheet.specs.declared.reading.LinedEvent.{LinedEvent}
use Rattle.sx_sheet.specs.Tokens.{AreKnownEvents}
use Rattle.sx_reading.specs.Transforming.{OutcomeFor, Transforms, nothing_written, whole_outcome, status_of_bytes, IsFailure}
use Rattle.sx_reading.specs.declared.consumer.Outcome.{Outcome}
use Rattle.sx_reading.specs.declared.consumer.Outcome.TheVariants as outcomes
use Rattle.sx_reading.specs.declared.status.Input.TheVariants as input
use Rattle.sx_reading.specs.declared.status.Status.{Status}
use Rattle.sx_top.specs.Feeding.{Meaning, AreOrdered}
use Rattle.sx_top.specs.declared.stylesheet.Collector.{Collector}

-- the limits of a stylesheet are those of a document, but for its bytes
abbrev pub sheet_limits : Limits
sheet_limits = record {
  line = stated.line;
  text_run = stated.text_run;
  attrs = stated.attrs;
  depth = stated.depth;
  bytes = 1048576;
  nodes = stated.nodes;
  invocations = stated.invocations;
  range = stated.range;
  string = stated.string;
  list = stated.list;
}

-- where the bytes of a stylesheet end: they are broken off, or have ended whole
abbrev pub sheet_outcome : OutcomeFor
sheet_outcome b ended = whole_outcome input.Sheet (break_of sheet_limits b ended) ended

module _ (names : NameTable) where
  -- events as they are known by this table of names
  abbrev pub lined_at : List LinedEvent → List Lined
  lined_at [] = []
  lined_at (e ∷ es) = record { what = named names e.event; line = e.line } ∷ lined_at es

-- where the events of a stylesheet end whose last event is this one
abbrev pub end_of : Event → Option Outcome
end_of (event.Start label attrs spaces) = None
end_of event.End = None
end_of (event.Text s) = None
end_of (event.Pi target content) = None
end_of event.Close = Some outcomes.Done

-- what the events of a stylesheet mean to what collects them: nothing is written, and they end at the close
abbrev pub collecting : Meaning
collecting = record {
  input = input.Sheet;
  limits = sheet_limits;
  written = λ events. [];
  outcome = λ events. if (tree_of (whats events)).is_open then None else Some outcomes.Done;
}

-- These events, each with its line, were collected, by this table of names.
pub record Collects (c : Collector) (m : Meaning) (names : NameTable) (events : List Lined) (w : List ℕ) : Type 0 where
  pub means : m ≡ collecting
  pub known : AreKnownEvents names c.events
  pub are : lined_at names c.events ≡ events
  pub ordered : AreOrdered events
  pub nothing : w ≡ []

-- These are all events of bytes that are not broken off and have ended, by this table of names.
pub record AreEvents (names : NameTable) (events : List LinedEvent) (bytes : List ℕ) : Type 0 where
  pub known : AreKnownEvents names events
  pub sound : break_of sheet_limits bytes true ≡ None
  pub are : lined_at names events ≡ events_of sheet_limits bytes true

-- What reading the stylesheet of a file did and gave: nothing was written, and where it was read to its end, these are the
-- events of its bytes.
pub record ReadsSheet (file : ℕ) (old new : Seen) (names : NameTable) (result : Result (List LinedEvent) Status) : Type 0 where
  pub transforms : Transforms nothing_written sheet_outcome file old new (status_of_bytes result)
  pub failed : IsFailure result
  pub content : IfOk result (λ events. (bytes : List ℕ) × AreEvents names events bytes × (IsTrue new.told → bytes ≡ bytes_of old file))
