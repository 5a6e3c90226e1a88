-- The words of the laws.
use Rattle.std.specs.Prelude.{◌≡◌, ◌<◌, ℤ, pos, ◌+ℤ◌, ◌*ℤ◌, ◌≤ℤ◌, unsigned_abs}
use Rattle.std.specs.declared.cmp.Ordering.{Ordering}
use Rattle.std.specs.Ordering.{int_cmp}
use Rattle.sx_atoms.specs.Numbers.{units}
use Rattle.sx_atoms.specs.declared.atoms.Atom.{Atom}
use Rattle.sx_atoms.specs.declared.atoms.Atom.TheVariants as atom
use Rattle.sx_atoms.specs.declared.atoms.AtomType.{AtomType}
use Rattle.sx_atoms.specs.declared.atoms.AtomType.TheVariants as type
use Rattle.sx_atoms.specs.declared.numbers.Number.{Number}
use Rattle.sx_atoms.specs.declared.numbers.Number.TheVariants as number

-- a number as an atom, the type of that, and what an i128 holds of it
abbrev pub atom_of : Number → Atom
atom_of (number.Int n) = atom.Int n
atom_of (number.Dec d) = atom.Dec d

abbrev pub number_type : Number → AtomType
number_type (number.Int n) = type.Integer
number_type (number.Dec d) = type.Decimal

abbrev pub exact_content : Number → ℤ
exact_content (number.Int n) = n
exact_content (number.Dec d) = d.0

-- the order of numbers by their exact values
abbrev pub order_of_numbers : Number → Number → Ordering
order_of_numbers x y = int_cmp (units x) (units y)

-- q is x divided by y and cut toward zero, and r is what that leaves: less than y, and on the side of zero on which x is
pub record IsQuotient (x y q r : ℤ) : Type 0 where
  pub exact : (q *ℤ y) +ℤ r ≡ x
  pub less : unsigned_abs r < unsigned_abs y
  pub above : pos 0 ≤ℤ x → pos 0 ≤ℤ r
  pub below : x ≤ℤ pos 0 → r ≤ℤ pos 0
