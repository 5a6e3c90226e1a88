-- What a buffer of lines holds.
use Rattle.std.specs.Prelude.{◌≡◌, ℕ, List, ◌++◌, Ok, take, drop}
use Rattle.std.specs.List.{slice_range}
use Rattle.sx_esis.specs.Escapes.{unescape}
use Rattle.sx_esis.specs.declared.line_buffer.LineBuffer.{LineBuffer}

-- the line that was taken last
abbrev pub taken_line : LineBuffer → List ℕ
taken_line b = slice_range b.bytes.items b.line_start b.line_end

-- the bytes behind it, which wait
abbrev pub waiting : LineBuffer → List ℕ
waiting b = drop b.start b.bytes.items

-- The new line is the old one up to this place, and behind it the text of the old one without its escapes.
pub record HasUnescaped (old : List ℕ) (start : ℕ) (new : List ℕ) : Type 0 where
  pub text : List ℕ
  pub unescaped : unescape (drop start old) ≡ Ok text
  pub line : new ≡ take start old ++ text
