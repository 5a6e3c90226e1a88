-- What a call of the whole program does to a desk beside the run of a file.
use Rattle.std.specs.Prelude.{◌≡◌, ◌⊎◌, ℕ, ◌+◌, IsTrue, List, ◌++◌, length}
use Rattle.sx_desk.specs.Desk.{Seen, Rose, StaysKnown}
use Rattle.sx_desk.specs.declared.desk.Out.TheVariants as out
use Rattle.sx_reading.specs.Transforming.{BeginsWith}

-- A line was written to the diagnostic output, or a front of it where writing it failed.
pub record Says (line : List ℕ) (old new : Seen) : Type 0 where
  pub told : IsTrue new.told → (said : List ℕ) × BeginsWith line said
      × (new.written_length out.Diagnostic ≡ old.written_length out.Diagnostic + length said)
      × ((said ≡ line) ⊎ Rose (old.write_faults out.Diagnostic) (new.write_faults out.Diagnostic))
      × (IsTrue new.shown → new.written out.Diagnostic ≡ old.written out.Diagnostic ++ said)

-- The diagnostic output is as before.
pub record IsSilent (old new : Seen) : Type 0 where
  pub known : StaysKnown old new
  pub write_faults : new.write_faults out.Diagnostic ≡ old.write_faults out.Diagnostic
  pub written_length : IsTrue new.told → new.written_length out.Diagnostic ≡ old.written_length out.Diagnostic
  pub written : IsTrue new.told → IsTrue new.shown → new.written out.Diagnostic ≡ old.written out.Diagnostic

-- where the desk tells: it has the same files, and nothing was taken or written to the result
pub record ToldUntouched (old new : Seen) : Type 0 where
  pub content : (n : List ℕ) → new.content n ≡ old.content n
  pub opened : new.opened ≡ old.opened
  pub asked : new.asked ≡ old.asked
  pub taken : (f : ℕ) → new.taken f ≡ old.taken f
  pub written_length : new.written_length out.Result ≡ old.written_length out.Result

-- where it also shows: no mark and no byte of the result was added
pub record ShownUntouched (old new : Seen) : Type 0 where
  pub marks : (f : ℕ) → new.marks f ≡ old.marks f
  pub written : new.written out.Result ≡ old.written out.Result

-- No file was asked for, opened or read, and nothing was written to the result.
pub record Untouched (old new : Seen) : Type 0 where
  pub known : StaysKnown old new
  pub count : length new.opened ≡ length old.opened
  pub open_faults : new.open_faults ≡ old.open_faults
  pub read_faults : new.read_faults ≡ old.read_faults
  pub write_faults : new.write_faults out.Result ≡ old.write_faults out.Result
  pub told : IsTrue new.told → ToldUntouched old new
  pub shown : IsTrue new.told → IsTrue new.shown → ShownUntouched old new
