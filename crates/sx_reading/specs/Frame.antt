-- What a call leaves as it was that reads one file and writes to one output.
use Rattle.std.specs.Prelude.{◌≡◌, ◌≢◌, ℕ, ◌+◌, ◌≤◌, IsTrue, List, [], ◌++◌, length, Result, OnOk, OnErr}
use Rattle.sx_desk.specs.Desk.{Seen, Rose, StaysKnown}
use Rattle.sx_desk.specs.declared.desk.Failed.{Failed}
use Rattle.sx_desk.specs.declared.desk.Out.{Out}

-- where the desk tells: it has the same files, and of others than these nothing was taken or written
pub record ToldFrame (file : ℕ) (out : Out) (old new : Seen) : Type 0 where
  pub content : (n : List ℕ) → new.content n ≡ old.content n
  pub opened : new.opened ≡ old.opened
  pub asked : new.asked ≡ old.asked
  pub others : (f : ℕ) → f ≢ file → new.taken f ≡ old.taken f
  pub other_length : (o : Out) → o ≢ out → new.written_length o ≡ old.written_length o

-- where it also shows: no other marks and no other bytes were added
pub record ShownFrame (file : ℕ) (out : Out) (old new : Seen) : Type 0 where
  pub others : (f : ℕ) → f ≢ file → new.marks f ≡ old.marks f
  pub other_written : (o : Out) → o ≢ out → new.written o ≡ old.written o

-- nothing changed but this file, this output and the counts of their faults
pub record Frame (file : ℕ) (out : Out) (old new : Seen) : Type 0 where
  pub known : StaysKnown old new
  pub count : length new.opened ≡ length old.opened
  pub open_faults : new.open_faults ≡ old.open_faults
  pub other_faults : (o : Out) → o ≢ out → new.write_faults o ≡ old.write_faults o
  pub read_later : old.read_faults ≤ new.read_faults
  pub write_later : old.write_faults out ≤ new.write_faults out
  pub told : IsTrue new.told → ToldFrame file out old new
  pub shown : IsTrue new.told → IsTrue new.shown → ShownFrame file out old new

-- the front of a piece was written to an output, and this rest is left
pub record Sent (out : Out) (piece front rest : List ℕ) (old new : Seen) : Type 0 where
  pub parts : front ++ rest ≡ piece
  pub written_length : new.written_length out ≡ old.written_length out + length front
  pub taken : (f : ℕ) → new.taken f ≡ old.taken f
  pub written : IsTrue new.shown → new.written out ≡ old.written out ++ front
  pub marks : IsTrue new.shown → (f : ℕ) → new.marks f ≡ old.marks f

-- writing went on to this rest of the piece
pub record Sending (out : Out) (piece rest : List ℕ) (old new : Seen) : Type 0 where
  pub frame : (file : ℕ) → Frame file out old new
  pub read_faults : new.read_faults ≡ old.read_faults
  pub told : IsTrue new.told → (front : List ℕ) × Sent out piece front rest old new

-- a piece was written, or a front of it and then the desk failed
pub record Sends (out : Out) (piece : List ℕ) (old new : Seen) (result : Result (Unit {0}) Failed) : Type 0 where
  pub some : (rest : List ℕ) × Sending out piece rest old new × OnOk result (rest ≡ [])
  pub failed : OnErr result (Rose (old.write_faults out) (new.write_faults out))
