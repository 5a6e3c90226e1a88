-- What the real desk answers, by what the one call of the system answered.
use Rattle.std.specs.Prelude.{◌≡◌, ℕ, ◌<◌, ◌≤◌, nat_lt, if◌then◌else◌, List, [], ◌∷◌, ◌++◌, length, take, slice_get, slice_set, Some, Result, Ok, Err}
use Rattle.std.specs.Str.Lossy.{utf8_valid_len}
use Rattle.std.specs.declared.io.Error.{Error}
use Rattle.sx_desk.specs.declared.desk.Failed.{Failed}
use Rattle.sx_desk.specs.declared.desk.Out.{Out}
use Rattle.sx_desk.specs.declared.desk.Out.TheVariants as out

-- the failure that a desk answers
abbrev pub failed : Failed
failed = record {}

-- the number of bytes that a read gave, and a failure exactly where the read failed
abbrev pub of_read : Result ℕ Error → Result ℕ Failed
of_read (Ok n) = Ok n
of_read (Err e) = Err failed

-- the number of bytes that a write took, and a failure exactly where the write failed or took none
abbrev pub of_write : Result ℕ Error → Result ℕ Failed
of_write (Ok n) = if nat_lt 0 n then Ok n else Err failed
of_write (Err e) = Err failed

-- the number of bytes of a text that was printed, and a failure exactly where printing failed
abbrev pub of_print : List ℕ → Result (Unit {0}) Error → Result ℕ Failed
of_print text (Ok u) = Ok (length text)
of_print text (Err e) = Err failed

-- the longest front of the bytes that is text
abbrev pub utf8_front : List ℕ → List ℕ
utf8_front bytes = take (utf8_valid_len bytes) bytes

-- the file is the next one exactly where opening gave it
abbrev pub KeepsFiles : {File : Type 0} → Result File Error → List File → List File → Result ℕ Failed → Type 0
KeepsFiles (Ok file) old new result = (new ≡ old ++ file ∷ []) × (result ≡ Ok (length old))
KeepsFiles (Err e) old new result = (new ≡ old) × (result ≡ Err failed)

-- one open, where fewer than 66 files are open; none behind that, and a failure
pub record OpensOne {File : Type 0} (Opens : Result File Error → Type 0) (old new : List File) (result : Result ℕ Failed) : Type 0 where
  pub asked : length old < 66 → (answer : Result File Error) × Opens answer × KeepsFiles answer old new result
  pub full : 66 ≤ length old → (new ≡ old) × (result ≡ Err failed)

-- one read of the file, whose answer is the desk's
pub record ReadsOne {File : Type 0} (Reads : File → File → Result ℕ Error → List ℕ → Type 0) (file : ℕ) (old new : List File) (buf : List ℕ) (result : Result ℕ Failed) : Type 0 where
  pub before : File
  pub after : File
  pub answer : Result ℕ Error
  pub given : slice_get old file ≡ Some before
  pub others : new ≡ slice_set old file after
  pub asked : Reads before after answer buf
  pub same : result ≡ of_read answer

-- one write of the piece, whose answer is the desk's
pub record WroteOne (Writes : List ℕ → Result ℕ Error → Type 0) (piece : List ℕ) (result : Result ℕ Failed) : Type 0 where
  pub answer : Result ℕ Error
  pub asked : Writes piece answer
  pub same : result ≡ of_write answer

-- one print of the text of the piece, whose answer is the desk's
pub record PrintedOne (Prints : List ℕ → Result (Unit {0}) Error → Type 0) (text : List ℕ) (result : Result ℕ Failed) : Type 0 where
  pub answer : Result (Unit {0}) Error
  pub asked : Prints text answer
  pub same : result ≡ of_print text answer

-- a piece is written to the result; of one for the diagnostic output the text is printed, and without text it fails
pub record WritesOne (Writes : List ℕ → Result ℕ Error → Type 0) (Prints : List ℕ → Result (Unit {0}) Error → Type 0) (o : Out) (piece : List ℕ) (result : Result ℕ Failed) : Type 0 where
  pub wrote : o ≡ out.Result → WroteOne Writes piece result
  pub printed : o ≡ out.Diagnostic → 0 < length (utf8_front piece) → PrintedOne Prints (utf8_front piece) result
  pub no_text : o ≡ out.Diagnostic → length (utf8_front piece) ≡ 0 → result ≡ Err failed
