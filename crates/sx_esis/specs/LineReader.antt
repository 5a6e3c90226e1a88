-- What a reader of lines stands for.
use Rattle.std.specs.Prelude.{◌≡◌, ℕ, ◌+◌, ◌-◌, ◌^◌, ◌≤◌, min, Bool, true, false, ⊤, List, [], ◌∷◌, ◌++◌, length, Option, Some, None, Ok}
use Rattle.sx_esis.specs.declared.faults.LineWhich.{LineWhich}
use Rattle.sx_esis.specs.declared.reader.LineReader.{LineReader}
use Rattle.sx_esis.specs.Forms.{Fits, says_in}
use Rattle.sx_esis.specs.Lines.{Line, Reading, in_front, fault_here, lines_of}
use Rattle.sx_esis.specs.Buffered.{taken_line, waiting}

-- these lines, and behind_lines them what is read there
abbrev pub behind_lines : List Line → Reading → Reading
behind_lines [] r = r
behind_lines (line ∷ lines) r = in_front (Ok line) (behind_lines lines r)

-- the fault that was met, or what is read where none was
abbrev pub fault_or : Option LineWhich → Reading → Reading
fault_or None r = r
fault_or (Some w) r = fault_here w

-- what comes behind_lines the lines given, where these bytes follow those that wait: nothing but a fault once one was met
abbrev pub to_come : LineReader → List ℕ → Bool → Reading
to_come r more at_end = fault_or r.fault (lines_of r.limit (waiting r.buffer ++ more) at_end)

-- behind_lines the end no bytes follow
abbrev pub MayComeBehind : Bool → List ℕ → Bool → Type 0
MayComeBehind false more at_end = ⊤
MayComeBehind true more at_end = (more ≡ []) × (at_end ≡ true)

-- The reader was made with that limit, was fed these bytes, was or was not told of the end, and gave that many lines.
pub record LinesStand (r : LineReader) (limit : ℕ) (bytes : List ℕ) (ended : Bool) (given : ℕ) : Type 0 where
  pub most : r.limit ≡ limit
  pub told : r.ended ≡ ended
  pub number : r.number ≡ min given (2 ^ 64 - 1)
  pub room : given + length (waiting r.buffer) ≤ length bytes
  pub passed : List Line
  pub count : length passed ≡ given
  pub reading : (more : List ℕ) (at_end : Bool) → MayComeBehind ended more at_end → lines_of limit (bytes ++ more) at_end ≡ behind_lines passed (to_come r more at_end)

-- the line that is shown
abbrev pub line_shown : LineReader → Line
line_shown r = says_in r.form (taken_line r.buffer)

-- the line that was taken can be shown
abbrev pub IsLineShown : LineReader → Type 0
IsLineShown r = Fits r.form (taken_line r.buffer)

-- how many bytes were fed and belong to no line given so far
abbrev pub unread : LineReader → ℕ
unread r = length (waiting r.buffer)
