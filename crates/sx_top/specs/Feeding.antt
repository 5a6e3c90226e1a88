-- Bytes whose events are taken one after the other: what they write, where they end, and what a feeder stands for.
use Rattle.std.specs.Prelude.{◌≡◌, ◌≢◌, ◌⊎◌, ℕ, ◌^◌, ◌≤◌, Bool, true, false, List, [], ◌∷◌, ◌++◌, length, Option, Some, None}
use Rattle.sx_events.specs.Course.{Lined, events_of, break_of, whats}
use Rattle.sx_events.specs.Laws.{AllFollow}
use Rattle.sx_events.specs.Reader as reader
use Rattle.sx_limits.specs.declared.faults.DocFault.{DocFault}
use Rattle.sx_limits.specs.declared.limits.Limits.{Limits}
use Rattle.sx_named.specs.Named.{named, IsKnown}
use Rattle.sx_names.specs.Numbering.{NameTable, IsDistinct, KeepsPlaces}
use Rattle.sx_reading.specs.Transforming.{WrittenFor, OutcomeFor}
use Rattle.sx_reading.specs.declared.consumer.Outcome.{Outcome}
use Rattle.sx_reading.specs.declared.consumer.Outcome.TheVariants as outcomes
use Rattle.sx_reading.specs.declared.status.Input.{Input}
use Rattle.sx_tree.specs.Events.{MayFollow}
use Rattle.sx_tree.specs.Tree.{tree_of}
use Rattle.sx_tree.specs.declared.events.Event.{Event}
use Rattle.sx_top.specs.declared.feeding.Feeder.{Feeder}

-- A meaning of the events of an input: which input that is, the limits of its bytes, what is written for events, and where they
-- end by themselves.
pub record Meaning : Type 0 where
  pub input : Input
  pub limits : Limits
  pub written : List Lined → List ℕ
  pub outcome : List Lined → Option Outcome

-- what is written for bytes, and whether the input has ended with them
abbrev pub written_by : Meaning → WrittenFor
written_by m b ended = m.written (events_of m.limits b ended)

-- where events end by themselves, or else where the bytes are broken off
abbrev pub or_broken : Input → Option DocFault → Option Outcome → Option Outcome
or_broken input fault (Some o) = Some o
or_broken input (Some f) None = Some (outcomes.Broken input f)
or_broken input None None = None

-- where bytes end
abbrev pub outcome_by : Meaning → OutcomeFor
outcome_by m b ended = or_broken m.input (break_of m.limits b ended) (m.outcome (events_of m.limits b ended))

-- the close is among the events
abbrev pub AreClosed : List Lined → Type 0
AreClosed events = (tree_of (whats events)).is_open ≡ false

-- the events of a document as far as it has come
abbrev pub AreOrdered : List Lined → Type 0
AreOrdered events = AllFollow [] (whats events)

-- An end of a front of events is the end of all of them, and nothing more is written.
pub record EndIsFinal (m : Meaning) (front all : List Lined) : Type 0 where
  pub outcome : m.outcome all ≡ m.outcome front
  pub written : m.written all ≡ m.written front

-- More events only add to what is written; an end is final; all is done at the close alone, and at the close there is an end.
pub record IsSteady (m : Meaning) : Type 0 where
  pub grows : (front rest : List Lined) → AreOrdered (front ++ rest) → (more : List ℕ) × (m.written (front ++ rest) ≡ m.written front ++ more)
  pub final : (front rest : List Lined) → AreOrdered (front ++ rest) → m.outcome front ≢ None → EndIsFinal m front (front ++ rest)
  pub done : (events : List Lined) → AreOrdered events → m.outcome events ≡ Some outcomes.Done → AreClosed events
  pub ends : (events : List Lined) → AreOrdered events → AreClosed events → m.outcome events ≢ None

-- ---- one event

-- an event with its names written out, on its line
abbrev pub lined : NameTable → Event → ℕ → Lined
lined names event line = record { what = named names event; line = line }

-- This event may happen behind these, and the table has its names.
pub record ComesNext (names : NameTable) (events : List Lined) (event : Event) : Type 0 where
  pub follows : MayFollow (whats events) (named names event)
  pub known : IsKnown names event

module _ {T : Type 0} (Stands : T → Meaning → NameTable → List Lined → List ℕ → Type 0) where
  -- An event on this line was taken, which comes next by this table: the taker stood at the events before it, by a table whose
  -- places this one keeps, and stands at them and this one.
  abbrev pub Takes : T → T → NameTable → Event → ℕ → Type 0
  Takes old new names event line =
      (m : Meaning) (known : NameTable) (events : List Lined) (w : List ℕ)
      → KeepsPlaces known names → IsDistinct names → ComesNext names events event
      → Stands old m known events w → Stands new m names (events ++ lined names event line ∷ []) w

  -- ---- all events of bytes

  module _ (m : Meaning) where
    -- The taker was given a front of the events of the bytes, and w of what is written for it was taken; the table keeps the
    -- numbers by which it knows them.
    pub record Given (taker : T) (names : NameTable) (b : List ℕ) (ended : Bool) (w : List ℕ) : Type 0 where
      pub distinct : IsDistinct names
      pub known : NameTable
      pub keeps : KeepsPlaces known names
      pub front : List Lined
      pub rest : List Lined
      pub parts : front ++ rest ≡ events_of m.limits b ended
      pub stands : Stands taker m known front w

    -- So many of the events were read and given, and they do not end.
    pub record Going (r : Feeder T) (b : List ℕ) (ended : Bool) (w : List ℕ) : Type 0 where
      pub given : Given r.taker r.names b ended w
      pub reads : reader.EventsStand r.reader m.limits r.names b ended (length given.front)
      pub unended : m.outcome given.front ≡ None
      pub outcome : r.outcome ≡ None

    -- All events were given, they do not end, and the bytes are not broken off.
    pub record Waiting (r : Feeder T) (b : List ℕ) (ended : Bool) (w : List ℕ) : Type 0 where
      pub going : Going r b ended w
      pub all : going.given.rest ≡ []
      pub sound : break_of m.limits b ended ≡ None

    -- the bytes are broken off behind all of their events, which do not end
    pub record BreaksOff (o : Outcome) (b : List ℕ) (ended : Bool) (front rest : List Lined) : Type 0 where
      pub all : rest ≡ []
      pub unended : m.outcome front ≡ None
      pub fault : DocFault
      pub broken : break_of m.limits b ended ≡ Some fault
      pub outcome : o ≡ outcomes.Broken m.input fault

    -- The events that were given end so by themselves, or the bytes are broken off behind them.
    pub record Ended (r : Feeder T) (o : Outcome) (b : List ℕ) (ended : Bool) (w : List ℕ) : Type 0 where
      pub given : Given r.taker r.names b ended w
      pub end : (m.outcome given.front ≡ Some o) ⊎ BreaksOff o b ended given.front given.rest

    -- by the outcome
    abbrev pub StandsAt : Option Outcome → Feeder T → List ℕ → Bool → List ℕ → Type 0
    StandsAt None r b ended w = Waiting r b ended w
    StandsAt (Some o) r b ended w = Ended r o b ended w

    -- The feeder was fed these bytes, it was or was not told of the end, and w of what can be written was taken.
    pub record FeederStands (r : Feeder T) (b : List ℕ) (ended : Bool) (w : List ℕ) : Type 0 where
      pub steady : IsSteady m
      pub bounded : m.limits.bytes ≤ 2 ^ 40
      pub at : StandsAt r.outcome r b ended w

  -- The same, where this is the meaning of bytes.
  pub record Feeds (r : Feeder T) (written : WrittenFor) (outcome : OutcomeFor) (b : List ℕ) (ended : Bool) (w : List ℕ) : Type 0 where
    pub meaning : Meaning
    pub writes : (c : List ℕ) (at_end : Bool) → written c at_end ≡ written_by meaning c at_end
    pub ends_at : (c : List ℕ) (at_end : Bool) → outcome c at_end ≡ outcome_by meaning c at_end
    pub stands : FeederStands meaning r b ended w

  -- All events that have come were taken.
  abbrev pub TakesAll : Feeder T → Feeder T → Type 0
  TakesAll old new =
      (m : Meaning) (b w : List ℕ) (ended : Bool) → IsSteady m → m.limits.bytes ≤ 2 ^ 40
      → Going m old b ended w → FeederStands m new b ended w

  -- The feeder was fed these bytes more.
  abbrev pub Continues : Feeder T → List ℕ → Feeder T → Type 0
  Continues old piece new =
      (m : Meaning) (b w : List ℕ)
      → FeederStands m old b false w → FeederStands m new (b ++ piece) false w

  -- The feeder was told of the end.
  abbrev pub Ends : Feeder T → Feeder T → Type 0
  Ends old new =
      (m : Meaning) (b w : List ℕ)
      → FeederStands m old b false w → FeederStands m new b true w
