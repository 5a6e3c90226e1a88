-- What was read and written, at each read and at the end, whatever the meaning of the bytes is.
use Rattle.std.specs.Prelude.{◌≡◌, ◌≢◌, ◌⊎◌, ◌↔◌, ℕ, suc, ◌+◌, ◌^◌, ◌<◌, ◌≤◌, Bool, true, false, IsTrue, List, [], ◌∷◌, ◌++◌, length, take, Option, Some, None, if◌then◌else◌, Result, Ok, Err}
use Rattle.sx_atoms.specs.declared.error_codes.Code.{Code}
use Rattle.sx_desk.specs.Desk.{Seen, Rose, bytes_of}
use Rattle.sx_desk.specs.declared.desk.Out.TheVariants as out
use Rattle.sx_limits.specs.Faults.{is_limit}
use Rattle.sx_limits.specs.declared.faults.DocFault.{DocFault}
use Rattle.sx_reading.specs.Frame.{Frame}
use Rattle.sx_reading.specs.declared.status.Input.{Input}
use Rattle.sx_reading.specs.declared.status.Status.{Status}
use Rattle.sx_reading.specs.declared.status.Status.TheVariants as status
use Rattle.sx_reading.specs.declared.consumer.Outcome.{Outcome}
use Rattle.sx_reading.specs.declared.consumer.Outcome.TheVariants as outcomes

-- a list begins with another
abbrev pub BeginsWith : List ℕ → List ℕ → Type 0
BeginsWith xs front = (rest : List ℕ) × (front ++ rest ≡ xs)

-- the first numbers grow strictly, from above a number on, and stay below a limit
abbrev pub RiseFrom : ℕ → List (ℕ × ℕ) → ℕ → Type 0
RiseFrom low [] limit = low < limit
RiseFrom low (mark ∷ marks) limit = (low < mark.0) × RiseFrom mark.0 marks limit

-- the same from any number on
abbrev pub RiseTo : List (ℕ × ℕ) → ℕ → Type 0
RiseTo [] limit = Unit {0}
RiseTo (mark ∷ marks) limit = RiseFrom mark.0 marks limit

-- the most bytes that one read takes
abbrev pub most_read : ℕ
most_read = 65536

-- each first number is at most so many above the one before, from a number on, and so is a last one
abbrev pub StepFrom : ℕ → List (ℕ × ℕ) → ℕ → Type 0
StepFrom low [] last = last ≤ low + most_read
StepFrom low (mark ∷ marks) last = (mark.0 ≤ low + most_read) × StepFrom mark.0 marks last

-- The same, where the first mark stands at the beginning of a file; without a mark nothing was taken.
abbrev pub StepTo : List (ℕ × ℕ) → ℕ → Type 0
StepTo [] last = last ≡ 0
StepTo (mark ∷ marks) last = (mark.0 ≡ 0) × StepFrom mark.0 marks last

-- a read began when so many bytes were taken
abbrev pub HasMark : ℕ → List (ℕ × ℕ) → Type 0
HasMark t [] = ⊥
HasMark t (mark ∷ marks) = (mark.0 ≡ t) ⊎ HasMark t marks

-- the status that an outcome of a document's bytes gives
abbrev pub status_of : Outcome → Status
status_of outcomes.Done = status.Ok
status_of (outcomes.Dynamic c) = status.Dynamic c
status_of (outcomes.Broken i f) = if is_limit f.which then status.Limit i f else status.Malformed i f

-- what is written for bytes, and whether the input has ended with them
abbrev pub WrittenFor : Type 0
WrittenFor = List ℕ → Bool → List ℕ

-- where bytes end, or nothing where more may come
abbrev pub OutcomeFor : Type 0
OutcomeFor = List ℕ → Bool → Option Outcome

-- more bytes only add to what is written
abbrev pub Grows : WrittenFor → Type 0
Grows written = (b d : List ℕ) (ended : Bool) → (more : List ℕ) × (written (b ++ d) ended ≡ written b false ++ more)

-- some bytes have this outcome
abbrev pub Comes : OutcomeFor → Outcome → Type 0
Comes outcome o = (b : List ℕ) × (ended : Bool) × (outcome b ended ≡ Some o)

-- what a status needs, whatever is known of the desk: an outcome that some bytes have, or nothing where it tells of a
-- fault of the desk or of wanting memory
abbrev pub IsCaused : OutcomeFor → Status → Type 0
IsCaused outcome status.Ok = Comes outcome outcomes.Done
IsCaused outcome status.Usage = ⊥
IsCaused outcome (status.Static c l) = ⊥
IsCaused outcome (status.Dynamic c) = Comes outcome (outcomes.Dynamic c)
IsCaused outcome (status.Malformed i f) = Comes outcome (outcomes.Broken i f)
IsCaused outcome status.OpenFault = ⊥
IsCaused outcome status.ReadFault = Unit {0}
IsCaused outcome status.WriteFault = Unit {0}
IsCaused outcome (status.Limit i f) = Comes outcome (outcomes.Broken i f)
IsCaused outcome status.OutOfMemory = Unit {0}

-- A meaning of bytes: more bytes only add to what is written; the whole result is done only where the input has ended;
-- an input that has ended has an outcome, and so have bytes beyond the limit of a document.
pub record IsMeaning (written : WrittenFor) (outcome : OutcomeFor) : Type 0 where
  pub grows : Grows written
  pub done : (b : List ℕ) (ended : Bool) → outcome b ended ≡ Some outcomes.Done → ended ≡ true
  pub ends : (b : List ℕ) → outcome b true ≢ None
  pub bounded : (b : List ℕ) (ended : Bool) → 2 ^ 40 < length b → outcome b ended ≢ None

-- for a stylesheet nothing is written
abbrev pub nothing_written : WrittenFor
nothing_written b ended = []

-- where bytes end that are read whole before anything comes of them: they are broken off, or have ended
abbrev pub whole_outcome : Input → Option DocFault → Bool → Option Outcome
whole_outcome input (Some fault) ended = Some (outcomes.Broken input fault)
whole_outcome input None true = Some outcomes.Done
whole_outcome input None false = None

-- the status of reading bytes or failing
abbrev pub status_of_bytes : {Y : Type 0} → Result Y Status → Status
status_of_bytes (Ok bytes) = status.Ok
status_of_bytes (Err s) = s

-- a failure has a status other than Ok
abbrev pub IsFailure : {Y : Type 0} → Result Y Status → Type 0
IsFailure (Ok bytes) = Unit {0}
IsFailure (Err s) = s ≢ status.Ok

-- Where the desk tells: a consumer was fed exactly the bytes that were taken of the file, and what was taken from it
-- stands at the front of what was written.
pub record ToldLeft (file : ℕ) (old new : Seen) (input : List ℕ) (ended : Bool) (taken : List ℕ) : Type 0 where
  pub input_is : input ≡ take (new.taken file) (bytes_of old file)
  pub end : IsTrue ended → new.taken file ≡ length (bytes_of old file)
  pub wrote : List ℕ
  pub front : BeginsWith wrote taken
  pub written_length : new.written_length out.Result ≡ old.written_length out.Result + length wrote
  pub written : IsTrue new.shown → new.written out.Result ≡ old.written out.Result ++ wrote

module _ (written : WrittenFor) (outcome : OutcomeFor) where
  -- What a mark says where the content is c, the result had so many bytes before, and these were written in the call:
  -- the bytes taken by then have no outcome yet, and exactly what they determine was written.
  pub record MarkStands (c : List ℕ) (before : ℕ) (w : List ℕ) (mark : ℕ × ℕ) : Type 0 where
    pub count : mark.1 ≡ before + length (written (take mark.0 c) false)
    pub front : BeginsWith w (written (take mark.0 c) false)
    pub going : outcome (take mark.0 c) false ≡ None

  -- each mark does
  abbrev pub MarksStand : List ℕ → ℕ → List ℕ → List (ℕ × ℕ) → Type 0
  MarksStand c before w [] = Unit {0}
  MarksStand c before w (mark ∷ marks) = MarkStands c before w mark × MarksStand c before w marks

  -- bytes have this outcome, and exactly what they determine was written
  abbrev pub Determined : Outcome → List ℕ → Bool → List ℕ → Type 0
  Determined o b ended w = (outcome b ended ≡ Some o) × (w ≡ written b ended)

  -- what a status says of the bytes taken, of whether the input has ended, and of the bytes written
  abbrev pub Answers : Status → List ℕ → Bool → List ℕ → Type 0
  Answers status.Ok b ended w = IsTrue ended × Determined outcomes.Done b ended w
  Answers status.Usage b ended w = ⊥
  Answers (status.Static c l) b ended w = ⊥
  Answers (status.Dynamic c) b ended w = Determined (outcomes.Dynamic c) b ended w
  Answers (status.Malformed i f) b ended w = (is_limit f.which ≡ false) × Determined (outcomes.Broken i f) b ended w
  Answers status.OpenFault b ended w = ⊥
  Answers status.ReadFault b ended w = w ≡ written b false
  Answers status.WriteFault b ended w = BeginsWith (written b ended) w
  Answers (status.Limit i f) b ended w = (is_limit f.which ≡ true) × Determined (outcomes.Broken i f) b ended w
  Answers status.OutOfMemory b ended w = BeginsWith (written b ended) w

  -- the marks that a call added, which has taken so many bytes
  pub record Marked (c : List ℕ) (before : ℕ) (w : List ℕ) (old new added : List (ℕ × ℕ)) (taken limit : ℕ) : Type 0 where
    pub all : new ≡ old ++ added
    pub stand : MarksStand c before w added
    pub rise : RiseTo added limit
    pub steps : StepTo added taken

  -- The input has ended where a read began when all was taken, and that read did not fail.
  pub record ShownEnd (file : ℕ) (old new : Seen) (s : Status) (ended : Bool) (w : List ℕ) : Type 0 where
    pub bytes : new.written out.Result ≡ old.written out.Result ++ w
    pub marks : (added : List (ℕ × ℕ)) × Marked (bytes_of old file) (old.written_length out.Result) w (old.marks file) (new.marks file)
        added (new.taken file) (suc (new.taken file))
        × (IsTrue ended ↔ ((s ≢ status.ReadFault) × HasMark (length (bytes_of old file)) added))

  -- at the end of a call w was written, as the bytes taken say
  pub record ToldEnd (file : ℕ) (old new : Seen) (s : Status) (ended : Bool) (w : List ℕ) : Type 0 where
    pub within : new.taken file ≤ length (bytes_of old file)
    pub end : IsTrue ended → new.taken file ≡ length (bytes_of old file)
    pub written_length : new.written_length out.Result ≡ old.written_length out.Result + length w
    pub answer : Answers s (take (new.taken file) (bytes_of old file)) ended w
    pub shown : IsTrue new.shown → ShownEnd file old new s ended w

  -- What a transformation did to a desk: it read this file, of which nothing was taken, and wrote to the result.
  pub record Transforms (file : ℕ) (old new : Seen) (s : Status) : Type 0 where
    pub frame : Frame file out.Result old new
    pub kind : (s ≢ status.Usage) × (s ≢ status.OpenFault) × ((c : Code) (l : ℕ) → s ≢ status.Static c l)
    pub cause : IsCaused outcome s
    pub read_fault : s ≡ status.ReadFault → Rose old.read_faults new.read_faults
    pub write_fault : s ≡ status.WriteFault → Rose (old.write_faults out.Result) (new.write_faults out.Result)
    pub told : IsTrue new.told → (ended : Bool) × (w : List ℕ) × ToldEnd file old new s ended w

  -- A consumer, of which it is said what it stands for, is left so: it was fed this input, it was or was not told of the end,
  -- and this was taken from it: all that is written for the input, or where a write failed a front of that.
  pub record Left (Stands : List ℕ → Bool → List ℕ → Type 0) (file : ℕ) (old new : Seen) (s : Status) : Type 0 where
    pub input : List ℕ
    pub ended : Bool
    pub taken : List ℕ
    pub stands : Stands input ended taken
    pub answer : Answers s input ended taken
    pub not_ended : s ≡ status.ReadFault → ended ≡ false
    pub told : IsTrue new.told → ToldLeft file old new input ended taken

-- What a consumer stands for is how it is left, for each meaning of bytes for which it stood at the beginning, unless memory
-- was wanting.
abbrev pub LeavesFor : (WrittenFor → OutcomeFor → List ℕ → Bool → List ℕ → Type 0) → (WrittenFor → OutcomeFor → List ℕ → Bool → List ℕ → Type 0) → ℕ → Seen → Seen → Status → Type 0
LeavesFor Stood Stands file old new s =
    (written : WrittenFor) (outcome : OutcomeFor) → Stood written outcome [] false [] → s ≢ status.OutOfMemory → Left written outcome (Stands written outcome) file old new s

-- This is a transformation by each meaning of bytes for which the consumer stood at the beginning.
abbrev pub TransformsFor : (WrittenFor → OutcomeFor → List ℕ → Bool → List ℕ → Type 0) → ℕ → Seen → Seen → Status → Type 0
TransformsFor Stood file old new s =
    (written : WrittenFor) (outcome : OutcomeFor) → Stood written outcome [] false [] → Transforms written outcome file old new s
