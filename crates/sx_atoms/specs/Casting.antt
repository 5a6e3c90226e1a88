-- Casts from type to type (XPath functions and operators 3.1, 19).
use Rattle.std.specs.Prelude.{Bool, not, if◌then◌else◌, Result, Ok, ℤ, pos, ◌*ℤ◌, int_div}
use Rattle.sx_atoms.specs.Arithmetic.{dec}
use Rattle.sx_atoms.specs.Lexical.{integer_in, decimal_in, truth_in}
use Rattle.sx_atoms.specs.Numbers.{◌>>=◌, held_in_range, one_unit, is_zero}
use Rattle.sx_atoms.specs.Printing.{text_of}
use Rattle.sx_atoms.specs.declared.atoms.Atom.{Atom}
use Rattle.sx_atoms.specs.declared.atoms.Atom.TheVariants as atom
use Rattle.sx_atoms.specs.declared.atoms.AtomType.{AtomType}
use Rattle.sx_atoms.specs.declared.atoms.AtomType.TheVariants as type
use Rattle.sx_atoms.specs.declared.error_codes.Code.{Code}
use Rattle.sx_atoms.specs.declared.numbers.Number.TheVariants as number

-- as an integer: a decimal is cut toward zero
abbrev pub integer_from : Atom → Result ℤ Code
integer_from (atom.Int n) = Ok n
integer_from (atom.Dec d) = Ok (int_div d.0 one_unit)
integer_from (atom.Str s) = integer_in s
integer_from (atom.Bool b) = Ok (if b then pos 1 else pos 0)
integer_from (atom.Untyped s) = integer_in s

-- as a decimal, in units of 10^-9
abbrev pub decimal_from : Atom → Result ℤ Code
decimal_from (atom.Int n) = held_in_range (n *ℤ one_unit)
decimal_from (atom.Dec d) = Ok d.0
decimal_from (atom.Str s) = decimal_in s
decimal_from (atom.Bool b) = Ok (if b then one_unit else pos 0)
decimal_from (atom.Untyped s) = decimal_in s

-- as a truth value: a number is whether it is not zero
abbrev pub truth_from : Atom → Result Bool Code
truth_from (atom.Int n) = Ok (not (is_zero (number.Int n)))
truth_from (atom.Dec d) = Ok (not (is_zero (number.Dec d)))
truth_from (atom.Str s) = truth_in s
truth_from (atom.Bool b) = Ok b
truth_from (atom.Untyped s) = truth_in s

-- an atom as one_unit of another type
abbrev pub cast_of : Atom → AtomType → Result Atom Code
cast_of a type.Integer = do
  n ← integer_from a
  Ok (atom.Int n)
cast_of a type.Decimal = do
  z ← decimal_from a
  Ok (atom.Dec (dec z))
cast_of a type.Str = Ok (atom.Str (text_of a))
cast_of a type.Boolean = do
  b ← truth_from a
  Ok (atom.Bool b)
cast_of a type.Untyped = Ok (atom.Untyped (text_of a))
