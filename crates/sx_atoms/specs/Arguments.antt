-- Arguments, as texts and as numbers (XPath 3.1, 3.1.5.2).
use Rattle.std.specs.Prelude.{ℕ, List, [], ◌∷◌, Option, Some, None, Result, Ok, Err, slice_get, unwrap_or}
use Rattle.std.specs.Option.{option_map}
use Rattle.sx_atoms.specs.Arithmetic.{number_of}
use Rattle.sx_atoms.specs.Laws.{atom_of}
use Rattle.sx_atoms.specs.Numbers.{◌>>=◌}
use Rattle.sx_atoms.specs.declared.atoms.Atom.{Atom}
use Rattle.sx_atoms.specs.declared.atoms.Atom.TheVariants as atom
use Rattle.sx_atoms.specs.declared.error_codes.Code.{Code}
use Rattle.sx_atoms.specs.declared.error_codes.Code.TheVariants as code
use Rattle.sx_atoms.specs.declared.numbers.Number.{Number}

-- the argument at a place, counted from 0; one that is missing is empty
abbrev pub argument : List (List Atom) → ℕ → List Atom
argument args place = unwrap_or (slice_get args place) []

-- the text that an atom is: a string, or text without a type
abbrev pub text_in : Atom → Result (List ℕ) Code
text_in (atom.Int n) = Err code.Xpty0004
text_in (atom.Dec d) = Err code.Xpty0004
text_in (atom.Str s) = Ok s
text_in (atom.Bool b) = Err code.Xpty0004
text_in (atom.Untyped s) = Ok s

-- the text that an argument is: the empty one where it is empty (XPath functions and operators 3.1, 5.4)
abbrev pub text_argument : List Atom → Result (List ℕ) Code
text_argument [] = Ok []
text_argument (a ∷ []) = text_in a
text_argument (a ∷ b ∷ more) = Err code.Xpty0004

-- the number that an argument is: none where it is empty (XPath functions and operators 3.1, 4.4)
abbrev pub number_argument : List Atom → Result (Option Number) Code
number_argument [] = Ok None
number_argument (a ∷ []) = do
  n ← number_of a
  Ok (Some n)
number_argument (a ∷ b ∷ more) = Err code.Xpty0004

-- the number that an atom is, as an atom
abbrev pub number_atom : Atom → Result Atom Code
number_atom a = do
  n ← number_of a
  Ok (atom_of n)

-- the number that an argument is, as an atom
abbrev pub number_answer : List Atom → Result (Option Atom) Code
number_answer atoms = do
  n ← number_argument atoms
  Ok (option_map atom_of n)
