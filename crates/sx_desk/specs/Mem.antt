-- What a desk in memory tells, which of its calls fail, and how much the others move.
use Rattle.std.specs.Prelude.{◌≡◌, ℕ, ◌+◌, ◌-◌, ◌^◌, min, nat_eq, Bool, if◌then◌else◌, List, Result, is_err}
use Rattle.std.specs.List.{list_any}
use Rattle.sx_desk.specs.Desk.{Seen, by_output}
use Rattle.sx_desk.specs.Files.{content_in}
use Rattle.sx_desk.specs.History.{seen_by, source_of}
use Rattle.sx_desk.specs.declared.desk.Failed.{Failed}
use Rattle.sx_desk.specs.declared.mem.MemDesk.{MemDesk}

-- what is known of a desk in memory
abbrev pub mem_seen : MemDesk → Seen
mem_seen d = seen_by (content_in d.files) d.history d.open_faults d.read_faults (by_output d.result_faults d.diagnostic_faults)

-- the bytes that reads of a file give: where the desk tells, those of the file's name
abbrev pub mem_served : MemDesk → ℕ → List ℕ
mem_served d file = source_of d.files d.history file

-- how often each method was called: reads of all files together, writes to both outputs together
pub record Calls : Type 0 where
  pub opens : ℕ
  pub reads : ℕ
  pub writes : ℕ

-- the calls of a desk in memory so far
abbrev pub calls_of : MemDesk → Calls
calls_of d = record { opens = d.opens; reads = d.reads; writes = d.writes }

-- no calls
abbrev pub no_calls : Calls
no_calls = record { opens = 0; reads = 0; writes = 0 }

-- a count, one higher; it stays at the greatest number of 64 bits
abbrev pub one_more : ℕ → ℕ
one_more count = min (count + 1) (2 ^ 64 - 1)

-- whether the call behind so many calls is listed, by its number from 1
abbrev pub is_listed : List ℕ → ℕ → Bool
is_listed numbers count = list_any (λ number. nat_eq number (one_more count)) numbers

-- a count of faults, one higher where the call failed
abbrev pub with_fault : ℕ → Result ℕ Failed → ℕ
with_fault count result = if is_err result then one_more count else count

-- the files, the pieces and the lists of calls that fail are as before
pub record SameSettings (old new : MemDesk) : Type 0 where
  pub files : new.files ≡ old.files
  pub read_piece : new.read_piece ≡ old.read_piece
  pub write_piece : new.write_piece ≡ old.write_piece
  pub open_fails : new.open_fails ≡ old.open_fails
  pub read_fails : new.read_fails ≡ old.read_fails
  pub write_fails : new.write_fails ≡ old.write_fails
