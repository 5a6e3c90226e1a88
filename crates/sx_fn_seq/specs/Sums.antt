-- Sums and averages (XPath functions and operators 3.1, 14.4).
use Rattle.std.specs.Prelude.{List, [], ◌∷◌, length, Result, Ok, Err, pos}
use Rattle.sx_atoms.specs.Arithmetic.{with_operands, with_divisor, sum_of, quotient_of}
use Rattle.sx_atoms.specs.Numbers.{◌>>=◌}
use Rattle.sx_atoms.specs.declared.atoms.Atom.{Atom}
use Rattle.sx_atoms.specs.declared.atoms.Atom.TheVariants as atom
use Rattle.sx_atoms.specs.declared.error_codes.Code.{Code}
use Rattle.sx_atoms.specs.declared.error_codes.Code.TheVariants as code

-- a sum and one item more; a string and a truth value are no items of a sum (14.4.5)
abbrev pub with_item : Atom → Atom → Result Atom Code
with_item sum (atom.Int n) = with_operands sum_of sum (atom.Int n)
with_item sum (atom.Dec d) = with_operands sum_of sum (atom.Dec d)
with_item sum (atom.Str s) = Err code.Forg0006
with_item sum (atom.Bool b) = Err code.Forg0006
with_item sum (atom.Untyped s) = with_operands sum_of sum (atom.Untyped s)

-- a sum and these items, added to it from left to right (14.4.5)
abbrev pub sum_from : Atom → List Atom → Result Atom Code
sum_from sum [] = Ok sum
sum_from sum (item ∷ rest) = do
  next ← with_item sum item
  sum_from next rest

-- the same, begun with a sum that may have failed (14.4.5)
abbrev pub sum_after : Result Atom Code → List Atom → Result Atom Code
sum_after sum items = do
  start ← sum
  sum_from start items

-- the sum: that of nothing is the integer 0 (14.4.5)
abbrev pub total_of : List Atom → Result Atom Code
total_of items = sum_from (atom.Int (pos 0)) items

-- the sum divided by how many items there are (14.4.2)
abbrev pub mean_of : List Atom → Result Atom Code
mean_of items = do
  total ← total_of items
  with_divisor quotient_of total (atom.Int (pos (length items)))

-- the same, where there are any (14.4.2)
abbrev pub average_of : List Atom → Result (List Atom) Code
average_of [] = Ok []
average_of (item ∷ rest) = do
  mean ← mean_of (item ∷ rest)
  Ok (mean ∷ [])
