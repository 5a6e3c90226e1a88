-- What the program does for the words of its call.
use Rattle.std.specs.Prelude.{◌≡◌, ◌⊎◌, ℕ, List, Option, Some, None}
use Rattle.sx_desk.specs.Desk.{Seen}
use Rattle.sx_kinds.specs.declared.sheets.Sheet.{Sheet}
use Rattle.sx_limits.specs.Limits.{stated}
use Rattle.sx_reading.specs.Headline.{Headline}
use Rattle.sx_reading.specs.Program.{Untouched}
use Rattle.sx_reading.specs.declared.status.Status.{Status}
use Rattle.sx_reading.specs.declared.status.Status.TheVariants as status
use Rattle.sx_top.specs.Loading.{Loaded, NotLoaded}
use Rattle.sx_top.specs.Run.{run_written, run_outcome}
use Rattle.sx_top.specs.Copy.{copy_written, copy_outcome}
use Rattle.sx_top.specs.Words.{Requested, copies, runs}
use Rattle.sx_names.specs.Numbering.{NameTable}

-- the stylesheet of a name was loaded, and then it was run on the document of a name
pub record LoadedAndRan (sheet_name document_name : List ℕ) (old new : Seen) (s : Status) : Type 0 where
  pub mid : Seen
  pub names : NameTable
  pub sheet : Sheet
  pub loaded : Loaded sheet_name old mid names sheet
  pub ran : Headline (run_written sheet names stated) (run_outcome sheet names stated) document_name mid new s

-- The stylesheet of a name was run on the document of a name, or there is none to run, and then no other file than the
-- stylesheet's was asked for.
abbrev pub RunsSheet : List ℕ → List ℕ → Seen → Seen → Status → Type 0
RunsSheet sheet_name document_name old new s = NotLoaded sheet_name old new s ⊎ LoadedAndRan sheet_name document_name old new s

-- what the program does for what is asked
abbrev pub Does : Requested → Seen → Seen → Status → Type 0
Does (copies document) old new s = Headline copy_written copy_outcome document old new s
Does (runs sheet document) old new s = RunsSheet sheet document old new s

-- What the program does for what the words ask for, or for words that ask for nothing.
abbrev pub Runs : Option Requested → Seen → Seen → Status → Type 0
Runs None old new s = (s ≡ status.Usage) × Untouched old new
Runs (Some a) old new s = Does a old new s
