-- What a desk in memory that never fails tells.
use Rattle.std.specs.Prelude.{◌≡◌, ℕ, List, [], Option, Some, unwrap_or, Result, Ok, Err, IsOk, refl}
use Rattle.sx_desk.specs.Desk.{Seen, HasCause}
use Rattle.sx_desk.specs.Files.{content_in}
use Rattle.sx_desk.specs.History.{seen_by, source_of}
use Rattle.sx_desk.specs.declared.files.MemFile.{MemFile}
use Rattle.sx_desk.specs.declared.steady.SteadyDesk.{SteadyDesk}

-- the bytes of the first file of a name: none where there is no such file
abbrev pub content_or_none : List MemFile → List ℕ → Option (List ℕ)
content_or_none files name = Some (unwrap_or (content_in files name) [])

-- what is known of a desk in memory that never fails
abbrev pub steady_seen : SteadyDesk → Seen
steady_seen d = seen_by (content_or_none d.files) d.history 0 0 (λ _. 0)

-- the bytes that reads of a file give: where the desk tells, those of the file's name
abbrev pub steady_served : SteadyDesk → ℕ → List ℕ
steady_served d file = source_of d.files d.history file

-- the files and the pieces are as before
pub record SameFiles (old new : SteadyDesk) : Type 0 where
  pub files : new.files ≡ old.files
  pub read_piece : new.read_piece ≡ old.read_piece
  pub write_piece : new.write_piece ≡ old.write_piece

-- a call of a desk whose counts of faults stay 0 does not fail
pub never_fails : {T E : Type 0} (result : Result T E) → HasCause 0 0 result → IsOk result
never_fails (Ok x) c = refl
never_fails (Err e) c = absurd (elim c.failed [ ])
