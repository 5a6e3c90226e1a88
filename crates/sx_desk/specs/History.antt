-- What a desk in memory records of the calls to it, and what it tells by that.
use Rattle.std.specs.Prelude.{◌≡◌, IsTrue, ℕ, Bool, ◌&&◌, nat_eq, if◌then◌else◌, List, [], ◌++◌, map, take, length, replicate, slice_index_or, slice_index, slice_get, string_bytes, Option, None, option_and_then, unwrap_or}
use Rattle.sx_desk.specs.Desk.{Seen}
use Rattle.sx_desk.specs.Files.{content_in, bytes_in}
use Rattle.sx_desk.specs.Opened.{names_of_opened, places_of, taken_of, marks_of}
use Rattle.sx_desk.specs.declared.files.MemFile.{MemFile}
use Rattle.sx_desk.specs.declared.desk.Out.{Out}
use Rattle.sx_desk.specs.declared.desk.Out.TheVariants as out
use Rattle.sx_desk.specs.declared.history.CallHistory.{CallHistory}

-- the names, and after them empty names up to a number of files
abbrev pub padded : List (List ℕ) → ℕ → List (List ℕ)
padded names count = take count (names ++ replicate count [])

-- whether every call was recorded, and every opened file
abbrev pub tells : CallHistory → Bool
tells h = h.complete && nat_eq h.opened (length h.files.items)

-- the names of the opened files: empty ones for those that were not recorded
abbrev pub opened_names : CallHistory → List (List ℕ)
opened_names h = padded (names_of_opened h.files.items) h.opened

-- the names that were asked for
abbrev pub asked_names : CallHistory → List (List ℕ)
asked_names h = map string_bytes h.asked.items

-- the bytes that were written to an output
abbrev pub written_to : CallHistory → Out → List ℕ
written_to h out.Result = h.result.items
written_to h out.Diagnostic = h.diagnostic.items

-- the files that were opened are as before
pub record KeepsFiles (old new : CallHistory) : Type 0 where
  pub opened : new.opened ≡ old.opened
  pub files : new.files.items ≡ old.files.items

-- what was written is as before
pub record KeepsOutputs (old new : CallHistory) : Type 0 where
  pub result : new.result.items ≡ old.result.items
  pub diagnostic : new.diagnostic.items ≡ old.diagnostic.items

-- the bytes of an opened file: those of its name, or where not every call was recorded, those at its place
abbrev pub source_of : List MemFile → CallHistory → ℕ → List ℕ
source_of files h at =
    if tells h then unwrap_or (option_and_then (content_in files) (slice_get (opened_names h) at)) []
    else unwrap_or (option_and_then (bytes_in files) (slice_index_or (places_of h.files.items) at None)) []

-- what a desk with this content, history and counts of faults tells
abbrev pub seen_by : (List ℕ → Option (List ℕ)) → CallHistory → ℕ → ℕ → (Out → ℕ) → Seen
seen_by content h open_faults read_faults write_faults = record {
  told = tells h;
  shown = tells h;
  content = content;
  opened = opened_names h;
  asked = asked_names h;
  taken = slice_index (taken_of h.files.items);
  written_length = λ o. length (written_to h o);
  written = written_to h;
  marks = λ file. slice_index_or (marks_of h.files.items) file [];
  open_faults = open_faults;
  read_faults = read_faults;
  write_faults = write_faults;
}

-- a desk that tells and shows, and has done nothing yet
pub record IsUnused (s : Seen) : Type 0 where
  pub told : IsTrue s.told
  pub shown : IsTrue s.shown
  pub opened : s.opened ≡ []
  pub asked : s.asked ≡ []
  pub written_length : (o : Out) → s.written_length o ≡ 0
  pub written : (o : Out) → s.written o ≡ []
  pub open_faults : s.open_faults ≡ 0
  pub read_faults : s.read_faults ≡ 0
  pub write_faults : (o : Out) → s.write_faults o ≡ 0
