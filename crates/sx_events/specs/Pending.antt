-- The events that wait to be given.
use Rattle.std.specs.Prelude.{◌≡◌, ℕ, suc, ◌+◌, List, [], ◌∷◌, ◌++◌, length, slice_get, Option, Some, None}
use Rattle.sx_named.specs.Named.{named, IsKnown}
use Rattle.sx_events.specs.Course.{Lined, whats, line_behind}
use Rattle.sx_events.specs.declared.pending.Waiting.{Waiting}
use Rattle.sx_events.specs.declared.pending.Pending.{Pending}
use Rattle.sx_names.specs.Numbering.{NameTable}

-- what an event that waits makes happen, and its line, by this table of names
abbrev pub lined : NameTable → Waiting → Lined
lined names w = record { what = named names w.event; line = w.line }

-- the event that waits, if one does
abbrev pub held_in : NameTable → Option Waiting → List Lined
held_in names None = []
held_in names (Some w) = lined names w ∷ []

-- what waits: a text, and behind it an event
abbrev pub held : NameTable → Pending → List Lined
held names p = held_in names p.text ++ held_in names p.event

-- the table has the names in it
abbrev pub IsKnownIn : NameTable → Option Waiting → Type 0
IsKnownIn names None = Unit {0}
IsKnownIn names (Some w) = IsKnown names w.event

-- the table has the names in what waits
pub record AreKnownWaiting (names : NameTable) (p : Pending) : Type 0 where
  pub text : IsKnownIn names p.text
  pub event : IsKnownIn names p.event

-- nothing waits
pub record IsIdle (p : Pending) : Type 0 where
  pub text : p.text ≡ None
  pub event : p.event ≡ None

-- one where there is something
abbrev pub one_of : {A : Type 0} → Option A → ℕ
one_of None = 0
one_of (Some x) = 1

-- how many events wait
abbrev pub count_held : Pending → ℕ
count_held p = one_of p.text + one_of p.event

-- Of these events so many were given, the last of them on this line, and the others wait.
pub record Pends (p : Pending) (names : NameTable) (events : List Lined) (given line : ℕ) : Type 0 where
  pub front : List Lined
  pub number : length front ≡ given
  pub splits : events ≡ front ++ held names p
  pub known : AreKnownWaiting names p
  pub last : line ≡ line_behind front given

-- The next of these events is this one, and the others wait.
pub record GivesWaiting (new : Pending) (names : NameTable) (events : List Lined) (given : ℕ) (first : Waiting) : Type 0 where
  pub next : slice_get (whats events) given ≡ Some (named names first.event)
  pub known : IsKnown names first.event
  pub pends : Pends new names events (suc given) first.line

-- what waits is this run of text, whatever the table of names is
abbrev pub IsRun : Option Waiting → List Lined → Type 0
IsRun w run = (names : NameTable) → (held_in names w ≡ run) × IsKnownIn names w
