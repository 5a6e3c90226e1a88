-- Functions on numbers (XPath functions and operators 3.1, 4.4).
use Rattle.std.specs.Prelude.{List, [], ◌∷◌, Option, Some, None, Result, Ok, ℤ, pos, ◌*ℤ◌, unsigned_abs}
use Rattle.sx_atoms.specs.Arguments.{number_argument}
use Rattle.sx_atoms.specs.Positions.{floor_of, ceiling_of, rounded}
use Rattle.sx_atoms.specs.Arithmetic.{dec}
use Rattle.sx_atoms.specs.Numbers.{◌>>=◌, by_way_of, one_unit}
use Rattle.sx_atoms.specs.declared.atoms.Atom.{Atom}
use Rattle.sx_atoms.specs.declared.atoms.Atom.TheVariants as atom
use Rattle.sx_atoms.specs.declared.error_codes.Code.{Code}
use Rattle.sx_atoms.specs.declared.numbers.Number.{Number}
use Rattle.sx_atoms.specs.declared.numbers.Number.TheVariants as number
use Rattle.sx_fn_seq.specs.declared.rounding.Rounding.{Rounding}
use Rattle.sx_fn_seq.specs.declared.rounding.Rounding.TheVariants as by

-- a number without its sign (4.4.1)
abbrev pub absolute_of : Number → Result Atom Code
absolute_of (number.Int n) = let m = pos (unsigned_abs n) in by_way_of (m ∷ []) (atom.Int m)
absolute_of (number.Dec d) = let m = pos (unsigned_abs d.0) in by_way_of (m ∷ []) (atom.Dec (dec m))

-- an integer as a decimal
abbrev pub decimal_of : ℤ → Result Atom Code
decimal_of z = by_way_of ((z *ℤ one_unit) ∷ []) (atom.Dec (dec (z *ℤ one_unit)))

-- an integer in the type of a number (4.4)
abbrev pub whole_as : Number → ℤ → Result Atom Code
whole_as (number.Int n) z = by_way_of (z ∷ []) (atom.Int z)
whole_as (number.Dec d) z = decimal_of z

-- a number without its sign, and the integers below it, above it and nearest to it, each in its type (4.4.1 to 4.4.4)
abbrev pub number_by : Rounding → Number → Result Atom Code
number_by by.Abs n = absolute_of n
number_by by.Floor n = whole_as n (floor_of n)
number_by by.Ceiling n = whole_as n (ceiling_of n)
number_by by.Round n = whole_as n (rounded n)

-- the same where there is a number (4.4)
abbrev pub maybe_number_by : Rounding → Option Number → Result (List Atom) Code
maybe_number_by rounding None = Ok []
maybe_number_by rounding (Some n) = do
  a ← number_by rounding n
  Ok (a ∷ [])

-- the same of an argument (4.4)
abbrev pub rounding_of : Rounding → List Atom → Result (List Atom) Code
rounding_of rounding atoms = do
  n ← number_argument atoms
  maybe_number_by rounding n
