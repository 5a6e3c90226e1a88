-- What a line says by its form.
use Rattle.std.specs.Prelude.{◌≡◌, ℕ, ◌≤◌, ⊤, true, false, List, ◌++◌, bytes_eq, codes, length, take, drop, Option, Some, None, Result, Ok}
use Rattle.std.specs.List.{slice_range}
use Rattle.std.specs.Str.{IsUtf8}
use Rattle.sx_chars.specs.Names.{before, behind}
use Rattle.sx_esis.specs.Escapes.{unescape}
use Rattle.sx_esis.specs.Lines as line
use Rattle.sx_esis.specs.declared.faults.LineWhich.{LineWhich}
use Rattle.sx_esis.specs.declared.form.Form.{Form}
use Rattle.sx_esis.specs.declared.form.Form.TheVariants.{Start, End, Text, Pi, Attr, Implied, Conforming, Skipped}

-- what a line of this form says whose escapes were replaced
abbrev pub says_in : Form → List ℕ → line.Line
says_in Start s = line.starts (drop 1 s)
says_in End s = line.ends (drop 1 s)
says_in Text s = line.says (drop 1 s)
says_in Pi s = line.instructs (drop 1 s)
says_in (Attr name_end value_start) s = line.has (slice_range s 1 name_end) (drop value_start s)
says_in (Implied name_end) s = line.lacks (slice_range s 1 name_end)
says_in Conforming s = line.conforms
says_in Skipped s = line.skips

-- where the text of a line of this form begins, if it may have escapes
abbrev pub text_start : Form → Option ℕ
text_start Start = None
text_start End = None
text_start Text = Some 1
text_start Pi = Some 1
text_start (Attr name_end value_start) = Some value_start
text_start (Implied name_end) = None
text_start Conforming = None
text_start Skipped = None

-- what a line of this form says, where the escapes of the text that begins here, if any, are still to be replaced
abbrev pub says_with : Form → List ℕ → Option ℕ → Result line.Line LineWhich
says_with form s None = Ok (says_in form s)
says_with form s (Some start) = line.with_text (λ text. says_in form (take start s ++ text)) (unescape (drop start s))

-- A line has the form: each part of it that is shown lies within it, and is UTF-8.
abbrev pub Fits : Form → List ℕ → Type 0
Fits Start s = (1 ≤ length s) × IsUtf8 (drop 1 s)
Fits End s = (1 ≤ length s) × IsUtf8 (drop 1 s)
Fits Text s = (1 ≤ length s) × IsUtf8 (drop 1 s)
Fits Pi s = (1 ≤ length s) × IsUtf8 (drop 1 s)
Fits (Attr name_end value_start) s = (1 ≤ name_end) × (name_end ≤ value_start) × (value_start ≤ length s) × IsUtf8 (slice_range s 1 name_end) × IsUtf8 (drop value_start s)
Fits (Implied name_end) s = (1 ≤ name_end) × (name_end ≤ length s) × IsUtf8 (slice_range s 1 name_end)
Fits Conforming s = ⊤
Fits Skipped s = ⊤

-- what stands behind the name of an attribute says that it has no value
abbrev pub IsImplied : List ℕ → Type 0
IsImplied rest = bytes_eq rest (codes "IMPLIED") ≡ true

-- What stands behind the name of an attribute is a type and, from this place on, a value.
pub record HasValueAt (rest : List ℕ) (place : ℕ) : Type 0 where
  pub some : bytes_eq rest (codes "IMPLIED") ≡ false
  pub kind : line.is_type (before 32 rest) ≡ true
  pub within : place ≤ length rest
  pub value : drop place rest ≡ line.or_empty (behind 32 rest)
