-- What it means that a stylesheet was loaded, or was not.
use Rattle.std.specs.Prelude.{◌≡◌, ◌≢◌, ◌⊎◌, ℕ, Bool, true, false, IsTrue, List, [], ◌∷◌, Some, None, Result, Ok, Err}
use Rattle.sx_atoms.specs.declared.error_codes.Code.{Code}
use Rattle.sx_atoms.specs.declared.error_codes.Code.TheVariants.{Xtse0010, Xtse3430}
use Rattle.sx_desk.specs.Desk.{Seen}
use Rattle.sx_events.specs.Course.{Lined, events_of, break_of}
use Rattle.sx_kinds.specs.declared.sheets.Sheet.{Sheet}
use Rattle.sx_machine.specs.Body.{culprit}
use Rattle.sx_sheet.specs.Numbers.{IsSheetOf}
use Rattle.sx_sheet.specs.Syntax.{BreaksOn}
use Rattle.sx_sheet.specs.Tokens.{LinedToken, token_of, put_said}
use Rattle.sx_reading.specs.Headline.{Headline}
use Rattle.sx_reading.specs.declared.status.Status.{Status}
use Rattle.sx_reading.specs.declared.status.Status.TheVariants as status
use Rattle.sx_reading.specs.Transforming.{nothing_written}
use Rattle.sx_top.specs.Stylesheet.{sheet_outcome, sheet_limits}
use Rattle.sx_names.specs.Numbering.{NameTable}

-- what events say of a stylesheet, where the content of an `xsl:text` may or may not stand at the front
abbrev pub said_by : List Lined → Bool → List LinedToken
said_by [] inside = []
said_by (l ∷ ls) inside = put_said inside (token_of l.what) l.line (said_by ls)

-- what the bytes of a stylesheet say
abbrev pub said_in : List ℕ → List LinedToken
said_in bytes = said_by (events_of sheet_limits bytes true) false

-- the bytes are this stylesheet, where names have these numbers, and it can be streamed
pub record IsAccepted (bytes : List ℕ) (names : NameTable) (sheet : Sheet) : Type 0 where
  pub sound : break_of sheet_limits bytes true ≡ None
  pub reads : IsSheetOf (said_in bytes) names sheet
  pub streamable : culprit sheet.templates ≡ None

-- the bytes are a stylesheet that cannot be streamed, since of the element on this line two parts consume
pub record IsRoaming (bytes : List ℕ) (line : ℕ) : Type 0 where
  pub names : NameTable
  pub sheet : Sheet
  pub reads : IsSheetOf (said_in bytes) names sheet
  pub culprit_is : culprit sheet.templates ≡ Some line

-- the stylesheet has this error on this line: an event there is none that a thin stylesheet has at its place (XTSE0010), or of the
-- element that starts there two parts consume, so that it cannot be streamed (XTSE3430; XSLT 3.0, 19.8.3)
abbrev pub IsStaticFault : List ℕ → Code → ℕ → Type 0
IsStaticFault bytes code line = ((code ≡ Xtse0010) × BreaksOn (said_in bytes) line) ⊎ ((code ≡ Xtse3430) × IsRoaming bytes line)

-- why the bytes of a stylesheet that are not broken off were not accepted: an error in them, or memory was wanting
abbrev pub Rejects : List ℕ → Status → Type 0
Rejects bytes status.Ok = ⊥
Rejects bytes status.Usage = ⊥
Rejects bytes (status.Static code line) = IsStaticFault bytes code line
Rejects bytes (status.Dynamic code) = ⊥
Rejects bytes (status.Malformed input fault) = ⊥
Rejects bytes (status.Limit input fault) = ⊥
Rejects bytes status.OpenFault = ⊥
Rejects bytes status.ReadFault = ⊥
Rejects bytes status.WriteFault = ⊥
Rejects bytes status.OutOfMemory = Unit {0}

-- what is answered for these bytes: the stylesheet that they are, or why they were not accepted
abbrev pub Judged : List ℕ → NameTable → Result Sheet Status → Type 0
Judged bytes names (Ok sheet) = IsAccepted bytes names sheet
Judged bytes names (Err s) = Rejects bytes s

-- the file of a name was read to its end, nothing was written, and these are its bytes, which are not broken off
pub record ReadWhole (name : List ℕ) (old new : Seen) (bytes : List ℕ) : Type 0 where
  pub run : Headline nothing_written sheet_outcome name old new status.Ok
  pub sound : break_of sheet_limits bytes true ≡ None
  pub content : IsTrue new.told → old.content name ≡ Some bytes

-- the file of a name was read to its end, and its bytes were not accepted
pub record Rejected (name : List ℕ) (old new : Seen) (s : Status) : Type 0 where
  pub bytes : List ℕ
  pub read : ReadWhole name old new bytes
  pub rejects : Rejects bytes s

-- the file of a name was not opened or not read to its end, or its bytes are broken off
pub record NotRead (name : List ℕ) (old new : Seen) (s : Status) : Type 0 where
  pub not_ok : s ≢ status.Ok
  pub run : Headline nothing_written sheet_outcome name old new s

-- there is no stylesheet to run
abbrev pub NotLoaded : List ℕ → Seen → Seen → Status → Type 0
NotLoaded name old new s = NotRead name old new s ⊎ Rejected name old new s

-- the file of a name was read to its end, and its bytes are this stylesheet
pub record Loaded (name : List ℕ) (old new : Seen) (names : NameTable) (sheet : Sheet) : Type 0 where
  pub bytes : List ℕ
  pub read : ReadWhole name old new bytes
  pub accepted : IsAccepted bytes names sheet

-- what loading the stylesheet of a name answers
abbrev pub Loads : List ℕ → NameTable → Seen → Seen → Result Sheet Status → Type 0
Loads name names old new (Ok sheet) = Loaded name old new names sheet
Loads name names old new (Err s) = NotLoaded name old new s
