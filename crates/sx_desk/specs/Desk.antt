-- What a desk tells, and what each of its calls does to that.
use Rattle.std.specs.Prelude.{◌≡◌, ◌≢◌, ℕ, ◌+◌, ◌-◌, ◌^◌, ◌<◌, ◌≤◌, min, Bool, false, IsTrue, List, [], ◌∷◌, ◌++◌, length, take, drop, replicate, slice_get, Option, None, option_and_then, unwrap_or, IsSome, Result, OnOk, OnErr, IfOk}
use Rattle.sx_desk.specs.declared.desk.Failed.{Failed}
use Rattle.sx_desk.specs.declared.desk.Out.{Out}
use Rattle.sx_desk.specs.declared.desk.Out.TheVariants as out

-- What is known of a desk at a moment. What is said of content, names, bytes taken and lengths holds where it tells;
-- what is said of bytes written and of marks holds where it also shows. The number of opened files is always known.
pub record Seen : Type 0 where
  pub told : Bool
  pub shown : Bool
  -- the bytes of a name, or nothing
  pub content : List ℕ → Option (List ℕ)
  -- the names of the files that were opened; a file's number is its place
  pub opened : List (List ℕ)
  -- the names that were asked for, those that failed too
  pub asked : List (List ℕ)
  -- how many bytes of a file were taken
  pub taken : ℕ → ℕ
  -- how many bytes were written to an output
  pub written_length : Out → ℕ
  -- these bytes
  pub written : Out → List ℕ
  -- at the beginning of each read of a file: the bytes taken from it, and those that the result had
  pub marks : ℕ → List (ℕ × ℕ)
  pub open_faults : ℕ
  pub read_faults : ℕ
  pub write_faults : Out → ℕ

-- the bytes of a file: those of the name that it was opened with
abbrev pub bytes_of : Seen → ℕ → List ℕ
bytes_of s file = unwrap_or (option_and_then s.content (slice_get s.opened file)) []

-- a count is greater than before, or stands at the greatest number of 64 bits
abbrev pub Rose : ℕ → ℕ → Type 0
Rose before now = min (before + 1) (2 ^ 64 - 1) ≤ now

-- a count of faults never falls, and rose where the call failed
pub record HasCause {T E : Type 0} (before now : ℕ) (result : Result T E) : Type 0 where
  pub later : before ≤ now
  pub failed : OnErr result (Rose before now)

-- a desk that tells after a call told before it, and one that shows showed before it
pub record StaysKnown (old new : Seen) : Type 0 where
  pub told : IsTrue new.told → IsTrue old.told
  pub shown : IsTrue new.shown → IsTrue old.shown

-- the length of what was written is the number of its bytes
pub record IsWhole (s : Seen) : Type 0 where
  pub written_length : IsTrue s.told → IsTrue s.shown → (o : Out) → s.written_length o ≡ length (s.written o)

pub record ToldOpen (name : List ℕ) (old new : Seen) (result : Result ℕ Failed) : Type 0 where
  pub content : (n : List ℕ) → new.content n ≡ old.content n
  -- only a name with content is opened
  pub found : OnOk result (IsSome (old.content name))
  pub opened : OnOk result (new.opened ≡ old.opened ++ name ∷ [])
  pub refused : OnErr result (new.opened ≡ old.opened)
  pub asked : new.asked ≡ old.asked ++ name ∷ []
  pub fresh : IfOk result (λ file. new.taken file ≡ 0)
  pub taken : (f : ℕ) → f < length old.opened → new.taken f ≡ old.taken f
  pub written_length : (o : Out) → new.written_length o ≡ old.written_length o

pub record ShownOpen (old new : Seen) (result : Result ℕ Failed) : Type 0 where
  pub fresh : IfOk result (λ file. new.marks file ≡ [])
  pub marks : (f : ℕ) → f < length old.opened → new.marks f ≡ old.marks f
  pub written : (o : Out) → new.written o ≡ old.written o

-- a name was asked for, and became the next file or was refused
pub record Opens (name : List ℕ) (old new : Seen) (result : Result ℕ Failed) : Type 0 where
  pub known : StaysKnown old new
  pub number : IfOk result (λ file. file ≡ length old.opened)
  pub count : OnOk result (length new.opened ≡ length old.opened + 1)
  pub same_count : OnErr result (length new.opened ≡ length old.opened)
  pub cause : HasCause old.open_faults new.open_faults result
  pub read_faults : new.read_faults ≡ old.read_faults
  pub write_faults : (o : Out) → new.write_faults o ≡ old.write_faults o
  pub told : IsTrue new.told → ToldOpen name old new result
  pub shown : IsTrue new.told → IsTrue new.shown → ShownOpen old new result

-- the next n bytes of the file are in the front of the buffer
pub record TookNext (file : ℕ) (old new : Seen) (buf : List ℕ) (n : ℕ) : Type 0 where
  pub taken : new.taken file ≡ old.taken file + n
  pub within : n ≤ length (drop (old.taken file) (bytes_of old file))
  pub bytes : take n buf ≡ take n (drop (old.taken file) (bytes_of old file))
  -- none come only where all was taken
  pub end : n ≡ 0 → length (bytes_of old file) ≤ old.taken file

pub record ToldRead (file : ℕ) (old new : Seen) (buf : List ℕ) (result : Result ℕ Failed) : Type 0 where
  pub content : (n : List ℕ) → new.content n ≡ old.content n
  pub opened : new.opened ≡ old.opened
  pub asked : new.asked ≡ old.asked
  pub next : IfOk result (TookNext file old new buf)
  pub nothing : OnErr result (new.taken file ≡ old.taken file)
  pub others : (f : ℕ) → f ≢ file → new.taken f ≡ old.taken f
  pub written_length : (o : Out) → new.written_length o ≡ old.written_length o

pub record ShownRead (file : ℕ) (old new : Seen) : Type 0 where
  pub marked : new.marks file ≡ old.marks file ++ (old.taken file, old.written_length out.Result) ∷ []
  pub others : (f : ℕ) → f ≢ file → new.marks f ≡ old.marks f
  pub written : (o : Out) → new.written o ≡ old.written o

-- a file was read once
pub record Reads (file : ℕ) (old new : Seen) (buf : List ℕ) (result : Result ℕ Failed) : Type 0 where
  pub known : StaysKnown old new
  pub at_most : IfOk result (λ n. n ≤ length buf)
  pub count : length new.opened ≡ length old.opened
  pub cause : HasCause old.read_faults new.read_faults result
  pub open_faults : new.open_faults ≡ old.open_faults
  pub write_faults : (o : Out) → new.write_faults o ≡ old.write_faults o
  pub told : IsTrue new.told → ToldRead file old new buf result
  pub shown : IsTrue new.told → IsTrue new.shown → ShownRead file old new

pub record ToldWrite (out : Out) (old new : Seen) (result : Result ℕ Failed) : Type 0 where
  pub content : (n : List ℕ) → new.content n ≡ old.content n
  pub opened : new.opened ≡ old.opened
  pub asked : new.asked ≡ old.asked
  pub taken : (f : ℕ) → new.taken f ≡ old.taken f
  pub written_length : IfOk result (λ n. new.written_length out ≡ old.written_length out + n)
  pub nothing : OnErr result (new.written_length out ≡ old.written_length out)
  pub others : (o : Out) → o ≢ out → new.written_length o ≡ old.written_length o

pub record ShownWrite (out : Out) (piece : List ℕ) (old new : Seen) (result : Result ℕ Failed) : Type 0 where
  pub appended : IfOk result (λ n. new.written out ≡ old.written out ++ take n piece)
  pub nothing : OnErr result (new.written out ≡ old.written out)
  pub others : (o : Out) → o ≢ out → new.written o ≡ old.written o
  pub marks : (f : ℕ) → new.marks f ≡ old.marks f

-- the front of a piece was written, at least a byte of it, or nothing
pub record Writes (out : Out) (piece : List ℕ) (old new : Seen) (result : Result ℕ Failed) : Type 0 where
  pub known : StaysKnown old new
  pub some : IfOk result (λ n. 1 ≤ n)
  pub at_most : IfOk result (λ n. n ≤ length piece)
  pub count : length new.opened ≡ length old.opened
  pub cause : HasCause (old.write_faults out) (new.write_faults out) result
  pub other_faults : (o : Out) → o ≢ out → new.write_faults o ≡ old.write_faults o
  pub open_faults : new.open_faults ≡ old.open_faults
  pub read_faults : new.read_faults ≡ old.read_faults
  pub told : IsTrue new.told → ToldWrite out old new result
  pub shown : IsTrue new.told → IsTrue new.shown → ShownWrite out piece old new result

-- a number for each output
abbrev pub by_output : ℕ → ℕ → Out → ℕ
by_output result diagnostic out.Result = result
by_output result diagnostic out.Diagnostic = diagnostic

-- a desk that tells nothing but how many files are open and how often it failed
abbrev pub untold : ℕ → ℕ → ℕ → ℕ → ℕ → Seen
untold opened open_faults read_faults result_faults diagnostic_faults = record {
  told = false;
  shown = false;
  content = λ _. None;
  opened = replicate opened [];
  asked = [];
  taken = λ _. 0;
  written_length = λ _. 0;
  written = λ _. [];
  marks = λ _. [];
  open_faults = open_faults;
  read_faults = read_faults;
  write_faults = by_output result_faults diagnostic_faults;
}
