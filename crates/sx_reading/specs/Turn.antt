-- What a transformation keeps from read to read.
use Rattle.std.specs.Prelude.{◌≡◌, ◌≢◌, ◌↔◌, ℕ, suc, ◌+◌, ◌^◌, ◌≤◌, Bool, true, false, IsTrue, if◌then◌else◌, List, [], ◌∷◌, ◌++◌, length, take, Option, Some, None}
use Rattle.sx_desk.specs.Desk.{Seen, bytes_of}
use Rattle.sx_desk.specs.declared.desk.Out.TheVariants as out
use Rattle.sx_reading.specs.Frame.{Frame}
use Rattle.sx_reading.specs.Transforming.{WrittenFor, OutcomeFor, IsMeaning, Marked, HasMark, Transforms, Left}
use Rattle.sx_reading.specs.declared.status.Status.{Status}
use Rattle.sx_reading.specs.declared.status.Status.TheVariants as status

-- no bytes say that the input has ended
abbrev pub is_end : List ℕ → Bool
is_end [] = true
is_end (x ∷ xs) = false

module _ (written : WrittenFor) (outcome : OutcomeFor) where
  pub record ShownMid (file : ℕ) (start now : Seen) (ended : Bool) (w : List ℕ) : Type 0 where
    pub bytes : now.written out.Result ≡ start.written out.Result ++ w
    pub marks : (added : List (ℕ × ℕ)) × Marked written outcome (bytes_of start file) (start.written_length out.Result) w (start.marks file) (now.marks file) added
        (now.taken file) (if ended then suc (now.taken file) else now.taken file)
        × (IsTrue ended ↔ HasMark (length (bytes_of start file)) added)

  -- these bytes were written so far
  pub record ToldMid (file : ℕ) (start now : Seen) (ended : Bool) (w : List ℕ) : Type 0 where
    pub within : now.taken file ≤ length (bytes_of start file)
    pub end : IsTrue ended → now.taken file ≡ length (bytes_of start file)
    pub written_length : now.written_length out.Result ≡ start.written_length out.Result + length w
    pub shown : IsTrue now.shown → ShownMid file start now ended w

  -- Bytes b were taken, the input has or has not ended with them, and w was written so far.
  pub record Fed (file : ℕ) (start now : Seen) (b : List ℕ) (ended : Bool) (w : List ℕ) : Type 0 where
    pub frame : Frame file out.Result start now
    pub taken : IsTrue now.told → b ≡ take (now.taken file) (bytes_of start file)
    pub told : IsTrue now.told → ToldMid file start now ended w

  -- Before a read: bytes b were taken, they have no outcome, and all that can be written for them was written.
  pub record Running (file : ℕ) (start now : Seen) (b : List ℕ) : Type 0 where
    pub meaning : IsMeaning written outcome
    pub fed : Fed file start now b false (written b false)
    pub going : outcome b false ≡ None
    pub within : length b ≤ 2 ^ 40

  module _ (Stands : List ℕ → Bool → List ℕ → Type 0) (file : ℕ) (start now : Seen) where
    -- the call ends with this status, and unless memory was wanting, the consumer is left as the status says
    pub record Stops (s : Status) : Type 0 where
      pub transforms : Transforms written outcome file start now s
      pub left : s ≢ status.OutOfMemory → Left written outcome Stands file start now s

    -- after writing: the loop goes on, or there is an outcome or a fault
    abbrev pub AfterFlush : List ℕ → Bool → Option Status → Type 0
    AfterFlush b ended None = (ended ≡ false) × Running file start now b × Stands b false (written b false)
    AfterFlush b ended (Some s) = Stops s

    -- after a turn: the loop goes on with the bytes that it took, or ends
    abbrev pub AfterTurn : List ℕ → Option Status → Type 0
    AfterTurn b None = (piece : List ℕ) × (1 ≤ length piece) × Running file start now (b ++ piece) × Stands (b ++ piece) false (written (b ++ piece) false)
    AfterTurn b (Some s) = Stops s

module _ (Old New : WrittenFor → OutcomeFor → List ℕ → Bool → List ℕ → Type 0) where
  -- A consumer was fed these bytes more, or told of the end where there are none.
  abbrev pub FedMoreFor : List ℕ → Type 0
  FedMoreFor piece = (written : WrittenFor) (outcome : OutcomeFor) (b w : List ℕ) →
      Old written outcome b false w → New written outcome (b ++ piece) (is_end piece) w

  -- All that can be written was written, and this is how the loop ends, if it does.
  abbrev pub FlushesFor : Seen → Seen → Option Status → Type 0
  FlushesFor old new result =
      (written : WrittenFor) (outcome : OutcomeFor) (file : ℕ) (start : Seen) (b w : List ℕ) (ended : Bool) →
      Fed written outcome file start old b ended w → Old written outcome b ended w →
      AfterFlush written outcome (New written outcome) file start new b ended result

  -- The file was read once, and all that can be written then was written.
  abbrev pub TurnsFor : ℕ → Seen → Seen → Option Status → Type 0
  TurnsFor file old new result =
      (written : WrittenFor) (outcome : OutcomeFor) (start : Seen) (b : List ℕ) →
      Running written outcome file start old b → Old written outcome b false (written b false) →
      AfterTurn written outcome (New written outcome) file start new b result
