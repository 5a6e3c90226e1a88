-- What a reader of lines answers.
use Rattle.std.specs.Prelude.{◌≡◌, ℕ, ◌+◌, ◌-◌, ◌^◌, ◌<◌, min, Bool, List, length, Option, Some, None, Result, Ok, Err}
use Rattle.std.specs.List.{slice_get}
use Rattle.sx_esis.specs.declared.faults.LineFault.{LineFault}
use Rattle.sx_esis.specs.declared.reader.LineReader.{LineReader}
use Rattle.sx_esis.specs.declared.reader.LineView.{LineView}
use Rattle.sx_esis.specs.declared.reader.LineView.TheVariants.{Start, End, Attr, Implied, Text, Pi, Skipped, Conforming}
use Rattle.sx_esis.specs.Lines.{Line, starts, ends, has, lacks, says, instructs, skips, conforms, Fault, Reading, lines_of, line_within}
use Rattle.sx_esis.specs.Buffered.{taken_line, waiting}
use Rattle.sx_esis.specs.LineReader.{IsLineShown, LinesStand, line_shown, unread}

-- the line that a view shows
abbrev pub view_line : LineView → Line
view_line (Start name) = starts name.now
view_line (End name) = ends name.now
view_line (Attr name value) = has name.now value.now
view_line (Implied name) = lacks name.now
view_line (Text text) = says text.now
view_line (Pi text) = instructs text.now
view_line Skipped = skips
view_line Conforming = conforms

-- All that can be read was given, and it is not at fault.
pub record GaveAllLines (reading : Reading) (given : ℕ) : Type 0 where
  pub all : given ≡ length reading.lines
  pub sound : reading.fault ≡ None

-- Behind the lines given comes the one at fault: the fault given says the same is wrong with it, and names it by its number.
pub record GivesFault (reading : Reading) (bytes : List ℕ) (given : ℕ) (f : LineFault) : Type 0 where
  pub all : given ≡ length reading.lines
  pub fault : Fault
  pub met : reading.fault ≡ Some fault
  pub next : fault.line ≡ given + 1
  pub which : f.which ≡ fault.which
  pub line : length bytes < 2 ^ 62 → f.line ≡ fault.line

-- The reader went on to the line behind those given and shows it, or it gave all, or it met the fault.
abbrev pub AdvancesLine : ℕ → List ℕ → Bool → ℕ → LineReader → Option (Result Unit LineFault) → Type 0
AdvancesLine limit bytes ended given new None = GaveAllLines (lines_of limit bytes ended) given × LinesStand new limit bytes ended given
AdvancesLine limit bytes ended given new (Some (Ok done)) = (slice_get (lines_of limit bytes ended).lines given ≡ Some (line_shown new)) × LinesStand new limit bytes ended (given + 1)
AdvancesLine limit bytes ended given new (Some (Err f)) = GivesFault (lines_of limit bytes ended) bytes given f × LinesStand new limit bytes ended given

-- The reader gave the line behind those given before, or it gave all, or it met the fault.
abbrev pub GivesLine : ℕ → List ℕ → Bool → ℕ → LineReader → Option (Result LineView LineFault) → Type 0
GivesLine limit bytes ended given new None = GaveAllLines (lines_of limit bytes ended) given × LinesStand new limit bytes ended given
GivesLine limit bytes ended given new (Some (Ok view)) = (slice_get (lines_of limit bytes ended).lines given ≡ Some (view_line view)) × LinesStand new limit bytes ended (given + 1)
GivesLine limit bytes ended given new (Some (Err f)) = GivesFault (lines_of limit bytes ended) bytes given f × LinesStand new limit bytes ended given

-- An answer with a line.
abbrev pub IsLineGiven : {T : Type 0} → Option (Result T LineFault) → Type 0
IsLineGiven None = ⊥
IsLineGiven (Some (Ok done)) = Unit {0}
IsLineGiven (Some (Err f)) = ⊥

-- What a reader becomes that gave this answer.
pub record Follows (old : LineReader) (result : Option (Result LineView LineFault)) (new : LineReader) : Type 0 where
  pub gives : (limit : ℕ) (bytes : List ℕ) (ended : Bool) (given : ℕ) → LinesStand old limit bytes ended given → GivesLine limit bytes ended given new result
  pub progress : IsLineGiven result → unread new < unread old

-- What was fed, and how it is to be read, stays.
pub record Keeps (old new : LineReader) : Type 0 where
  pub rest : waiting new.buffer ≡ waiting old.buffer
  pub limit : new.limit ≡ old.limit
  pub ended : new.ended ≡ old.ended

-- The line that was taken can be shown, and counts.
pub record Counts (old new : LineReader) : Type 0 where
  pub keeps : Keeps old new
  pub line : line_within old.limit (taken_line old.buffer) ≡ Ok (line_shown new)
  pub shown : IsLineShown new
  pub number : new.number ≡ min (old.number + 1) (2 ^ 64 - 1)
  pub fault : new.fault ≡ old.fault

-- There is a fault, which stays known, and bears the number of the next line.
pub record Fails (old new : LineReader) (f : LineFault) : Type 0 where
  pub keeps : Keeps old new
  pub number : new.number ≡ old.number
  pub fault : new.fault ≡ Some f.which
  pub line : f.line ≡ min (old.number + 1) (2 ^ 64 - 1)

-- The line that was taken counts, or it is at fault.
abbrev pub Judges : LineReader → LineReader → Result Unit LineFault → Type 0
Judges old new (Ok done) = Counts old new
Judges old new (Err f) = Fails old new f × (line_within old.limit (taken_line old.buffer) ≡ Err f.which)
