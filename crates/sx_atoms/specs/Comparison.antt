-- Comparison (XPath 3.1, 3.7).
use Rattle.std.specs.Prelude.{ℕ, Bool, true, false, List, Result, Ok, Err, ℤ}
use Rattle.std.specs.Cmp.Lexicographic.{slice_cmp}
use Rattle.std.specs.declared.cmp.Ordering.{Ordering}
use Rattle.std.specs.Ordering.{nat_cmp, int_cmp, bool_cmp, is_eq, is_ne, is_lt, is_le, is_gt, is_ge}
use Rattle.sx_atoms.specs.Lexical.{decimal_in, truth_in}
use Rattle.sx_atoms.specs.Numbers.{◌>>=◌, units}
use Rattle.sx_atoms.specs.declared.atoms.Atom.{Atom}
use Rattle.sx_atoms.specs.declared.atoms.Atom.TheVariants as atom
use Rattle.sx_atoms.specs.declared.comparison.CmpOp.{CmpOp}
use Rattle.sx_atoms.specs.declared.comparison.CmpOp.TheVariants as op
use Rattle.sx_atoms.specs.declared.comparison.Comparable.{Comparable}
use Rattle.sx_atoms.specs.declared.comparison.Comparable.TheVariants as comparable
use Rattle.sx_atoms.specs.declared.error_codes.Code.{Code}
use Rattle.sx_atoms.specs.declared.error_codes.Code.TheVariants as code
use Rattle.sx_atoms.specs.declared.numbers.Number.TheVariants as number

-- what is compared: numbers by their exact values in units of 10^-9, texts, and truth values
pub data Value : Type 0 where
  quantity : ℤ → Value
  text : List ℕ → Value
  truth : Bool → Value

-- Two values of one kind have an order. Texts are ordered by their bytes, which is the order of their characters (a law
-- says so); false comes before true.
abbrev pub order_of : Value → Value → Result Ordering Code
order_of (quantity x) (quantity y) = Ok (int_cmp x y)
order_of (text s) (text t) = Ok (slice_cmp nat_cmp s t)
order_of (truth b) (truth c) = Ok (bool_cmp b c)
order_of (quantity x) (text t) = Err code.Xpty0004
order_of (quantity x) (truth c) = Err code.Xpty0004
order_of (text s) (quantity y) = Err code.Xpty0004
order_of (text s) (truth c) = Err code.Xpty0004
order_of (truth b) (quantity y) = Err code.Xpty0004
order_of (truth b) (text t) = Err code.Xpty0004

-- whether an operator holds of values in this order
abbrev pub holds : CmpOp → Ordering → Bool
holds op.Eq o = is_eq o
holds op.Ne o = is_ne o
holds op.Lt o = is_lt o
holds op.Le o = is_le o
holds op.Gt o = is_gt o
holds op.Ge o = is_ge o

-- an atom as a value: what has no type is text
abbrev pub value_of : Atom → Value
value_of (atom.Int n) = quantity (units (number.Int n))
value_of (atom.Dec d) = quantity (units (number.Dec d))
value_of (atom.Str s) = text s
value_of (atom.Bool b) = truth b
value_of (atom.Untyped s) = text s

-- text without a type beside another atom, in a general comparison: it is read as what stands beside it
abbrev pub read_beside : List ℕ → Value → Result Value Code
read_beside s (quantity y) = do
  x ← decimal_in s
  Ok (quantity x)
read_beside s (text t) = Ok (text s)
read_beside s (truth c) = do
  b ← truth_in s
  Ok (truth b)

-- an operand of a comparison, general or not, beside the other one
abbrev pub value_beside : Bool → Atom → Atom → Result Value Code
value_beside false a other = Ok (value_of a)
value_beside true (atom.Int n) other = Ok (value_of (atom.Int n))
value_beside true (atom.Dec d) other = Ok (value_of (atom.Dec d))
value_beside true (atom.Str s) other = Ok (value_of (atom.Str s))
value_beside true (atom.Bool b) other = Ok (value_of (atom.Bool b))
value_beside true (atom.Untyped s) other = read_beside s (value_of other)

-- whether an operator holds of two atoms
abbrev pub comparison_of : CmpOp → Bool → Atom → Atom → Result Bool Code
comparison_of operator general a b = do
  x ← value_beside general a b
  y ← value_beside general b a
  o ← order_of x y
  Ok (holds operator o)

-- the value that the code compares
abbrev pub seen_value : Comparable → Value
seen_value (comparable.Quantity n) = quantity (units n)
seen_value (comparable.Text s) = text s.now
seen_value (comparable.Truth b) = truth b
