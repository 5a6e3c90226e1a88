-- Sequences as truth values.
use Rattle.std.specs.Prelude.{Bool, true, false, not, nat_lt, List, [], ◌∷◌, length, Option, Some, None, Result, Ok, Err}
use Rattle.sx_atoms.specs.Numbers.{is_zero}
use Rattle.sx_atoms.specs.declared.atoms.Atom.{Atom}
use Rattle.sx_atoms.specs.declared.atoms.Atom.TheVariants as atom
use Rattle.sx_atoms.specs.declared.error_codes.Code.{Code}
use Rattle.sx_atoms.specs.declared.error_codes.Code.TheVariants as code
use Rattle.sx_atoms.specs.declared.numbers.Number.TheVariants as number

-- whether one atom counts as true (XPath 3.1, 2.4.3): a number that is not zero, a text that is not empty
abbrev pub counts_as_true : Atom → Bool
counts_as_true (atom.Int n) = not (is_zero (number.Int n))
counts_as_true (atom.Dec d) = not (is_zero (number.Dec d))
counts_as_true (atom.Str s) = nat_lt 0 (length s)
counts_as_true (atom.Bool b) = b
counts_as_true (atom.Untyped s) = nat_lt 0 (length s)

-- the effective boolean value of items, each by the atom that it is, which a node is not (XPath 3.1, 2.4.3): none is false,
-- a node first is true, one atom counts by itself, and an atom before others has no such value
abbrev pub effective_truth : List (Option Atom) → Result Bool Code
effective_truth [] = Ok false
effective_truth (None ∷ rest) = Ok true
effective_truth (Some a ∷ []) = Ok (counts_as_true a)
effective_truth (Some a ∷ other ∷ rest) = Err code.Forg0006
