-- What a function on texts answers (XPath functions and operators 3.1, 5 and 2.3). Texts are the characters of their bytes.
use Rattle.std.specs.Prelude.{ℕ, Bool, nat_eq, List, [], ◌∷◌, ◌++◌, map, length, slice_get, Result, Ok, Err, pos}
use Rattle.std.specs.List.{starts_with, ends_with}
use Rattle.std.specs.Str.{chars, encode_utf8_all}
use Rattle.sx_atoms.specs.Arguments.{argument, text_argument}
use Rattle.sx_atoms.specs.Positions.{selects, span_of, at_positions}
use Rattle.sx_atoms.specs.Numbers.{◌>>=◌}
use Rattle.sx_atoms.specs.Printing.{text_of}
use Rattle.sx_atoms.specs.declared.atoms.Atom.{Atom}
use Rattle.sx_atoms.specs.declared.atoms.Atom.TheVariants as atom
use Rattle.sx_atoms.specs.declared.error_codes.Code.{Code}
use Rattle.sx_atoms.specs.declared.error_codes.Code.TheVariants as code
use Rattle.sx_atoms.specs.declared.functions.TextFn.{TextFn}
use Rattle.sx_atoms.specs.declared.functions.TextFn.TheVariants as fn
use Rattle.sx_fn_text.specs.Characters.{joined_by, normalized, is_within, text_before, text_after, translated}

-- the characters of an argument that is a text
abbrev pub text_of_argument : List (List Atom) → ℕ → Result (List ℕ) Code
text_of_argument args n = do
  bytes ← text_argument (argument args n)
  Ok (chars bytes)

-- what is printed_atoms of an argument of one atom at most (2.3)
abbrev pub printed_atoms : List Atom → Result (List ℕ) Code
printed_atoms [] = Ok []
printed_atoms (a ∷ []) = Ok (text_of a)
printed_atoms (a ∷ b ∷ more) = Err code.Xpty0004

-- the characters that are printed_atoms of each argument, one behind another (5.4.1)
abbrev pub concatenated : List (List Atom) → Result (List ℕ) Code
concatenated [] = Ok []
concatenated (x ∷ xs) = do
  bytes ← printed_atoms x
  more ← concatenated xs
  Ok (chars bytes ++ more)

-- the characters that are printed_atoms of atoms, with a separator between two (5.4.2)
abbrev pub prints_joined : List ℕ → List Atom → List ℕ
prints_joined separator atoms = joined_by separator (map (λ a. chars (text_of a)) atoms)

-- the text of characters as an answer
abbrev pub string : List ℕ → List Atom
string cs = atom.Str (encode_utf8_all cs) ∷ []

-- a truth value as an answer
abbrev pub truth : Bool → List Atom
truth b = atom.Bool b ∷ []

-- what a function makes of its first argument, or the code where that is no text
abbrev pub on_text : (List ℕ → List Atom) → List (List Atom) → Result (List Atom) Code
on_text f args = do
  s ← text_of_argument args 0
  Ok (f s)

-- the first two arguments as texts; the first one that is none gives the code
abbrev pub two_texts : List (List Atom) → Result (List ℕ × List ℕ) Code
two_texts args = do
  s ← text_of_argument args 0
  t ← text_of_argument args 1
  Ok (s, t)

-- what a function makes of two arguments
abbrev pub with_two : (List ℕ → List ℕ → List Atom) → List (List Atom) → Result (List Atom) Code
with_two f args = do
  p ← two_texts args
  Ok (f p.0 p.1)

-- what a function makes of three arguments; the first one that is no text gives the code
abbrev pub with_three : (List ℕ → List ℕ → List ℕ → List Atom) → List (List Atom) → Result (List Atom) Code
with_three f args = do
  p ← two_texts args
  t ← text_of_argument args 2
  Ok (f p.0 p.1 t)

-- the answer of a function
abbrev pub text_call : TextFn → List (List Atom) → Result (List Atom) Code
text_call fn.String args = do
  bytes ← printed_atoms (argument args 0)
  Ok (atom.Str bytes ∷ [])
text_call fn.StringLength args = on_text (λ s. atom.Int (pos (length s)) ∷ []) args
text_call fn.NormalizeSpace args = on_text (λ s. string (normalized s)) args
text_call fn.Concat args = do
  s ← concatenated args
  Ok (string s)
text_call fn.StringJoin args = do
  separator ← text_of_argument args 1
  Ok (string (prints_joined separator (argument args 0)))
text_call fn.Contains args = with_two (λ s t. truth (is_within t s)) args
text_call fn.StartsWith args = with_two (λ s t. truth (starts_with nat_eq s t)) args
text_call fn.EndsWith args = with_two (λ s t. truth (ends_with nat_eq s t)) args
text_call fn.SubstringBefore args = with_two (λ s t. string (text_before s t)) args
text_call fn.SubstringAfter args = with_two (λ s t. string (text_after s t)) args
text_call fn.Substring args = do
  s ← text_of_argument args 0
  span ← span_of (argument args 1) (slice_get args 2)
  Ok (string (at_positions (selects span) 1 s))
text_call fn.Translate args = with_three (λ s m t. string (translated m t s)) args
