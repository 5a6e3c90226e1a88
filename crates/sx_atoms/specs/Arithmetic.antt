-- Arithmetic (XPath 3.1, 3.5), over all integers. A decimal is a number of units of 10^-9.
use Rattle.std.specs.Prelude.{Bool, if◌then◌else◌, [], ◌∷◌, Result, Ok, Err, ℤ, neg_ℤ, ◌+ℤ◌, ◌-ℤ◌, ◌*ℤ◌, int_div, int_rem}
use Rattle.sx_atoms.specs.Numbers.{◌>>=◌, by_way_of, one_unit, is_zero, paired}
use Rattle.sx_atoms.specs.Laws.{atom_of}
use Rattle.sx_atoms.specs.Lexical.{decimal_in}
use Rattle.sx_atoms.specs.declared.arithmetic.ArithOp.{ArithOp}
use Rattle.sx_atoms.specs.declared.arithmetic.ArithOp.TheVariants as op
use Rattle.sx_atoms.specs.declared.atoms.Atom.{Atom}
use Rattle.sx_atoms.specs.declared.atoms.Atom.TheVariants as atom
use Rattle.sx_atoms.specs.declared.atoms.Dec.{Dec}
use Rattle.sx_atoms.specs.declared.error_codes.Code.{Code}
use Rattle.sx_atoms.specs.declared.error_codes.Code.TheVariants as code
use Rattle.sx_atoms.specs.declared.numbers.Number.{Number}
use Rattle.sx_atoms.specs.declared.numbers.Number.TheVariants as number
use Rattle.sx_atoms.specs.declared.numbers.Operands.{Operands}
use Rattle.sx_atoms.specs.declared.numbers.Operands.TheVariants.{Ints, Units}

-- this many units
abbrev pub dec : ℤ → Dec
dec z = record { 0 = z }

-- the number that an atom is as an operand: text without a type is read as a decimal; a string and a truth value are none
abbrev pub number_of : Atom → Result Number Code
number_of (atom.Int n) = Ok (number.Int n)
number_of (atom.Dec d) = Ok (number.Dec d)
number_of (atom.Str s) = Err code.Xpty0004
number_of (atom.Bool b) = Err code.Xpty0004
number_of (atom.Untyped text) = do
  z ← decimal_in text
  Ok (number.Dec (dec z))

-- two atoms as operands; the left one_unit is looked at first
abbrev pub operands_of : Atom → Atom → Result Operands Code
operands_of a b = do
  x ← number_of a
  y ← number_of b
  paired x y

-- the same, where the right one_unit is a divisor, which must not be zero
abbrev pub dividend_and_divisor_of : Atom → Atom → Result Operands Code
dividend_and_divisor_of a b = do
  x ← number_of a
  y ← number_of b
  if is_zero y then Err code.Foar0001 else paired x y

-- what f makes of two operands, and of a dividend and a divisor
abbrev pub with_operands : (Operands → Result Atom Code) → Atom → Atom → Result Atom Code
with_operands f a b = do
  pair ← operands_of a b
  f pair

abbrev pub with_divisor : (Operands → Result Atom Code) → Atom → Atom → Result Atom Code
with_divisor f a b = do
  pair ← dividend_and_divisor_of a b
  f pair

-- the sum
abbrev pub sum_of : Operands → Result Atom Code
sum_of (Ints a b) = by_way_of ((a +ℤ b) ∷ []) (atom.Int (a +ℤ b))
sum_of (Units a b) = by_way_of ((a +ℤ b) ∷ []) (atom.Dec (dec (a +ℤ b)))

-- the difference
abbrev pub difference_of : Operands → Result Atom Code
difference_of (Ints a b) = by_way_of ((a -ℤ b) ∷ []) (atom.Int (a -ℤ b))
difference_of (Units a b) = by_way_of ((a -ℤ b) ∷ []) (atom.Dec (dec (a -ℤ b)))

-- the product: that of decimals is the product of their units, divided by 10^9 and cut toward zero
abbrev pub product_of : Operands → Result Atom Code
product_of (Ints a b) = by_way_of ((a *ℤ b) ∷ []) (atom.Int (a *ℤ b))
product_of (Units a b) = let cut = int_div (a *ℤ b) one_unit in
    by_way_of ((a *ℤ b) ∷ cut ∷ []) (atom.Dec (dec cut))

-- the quotient of two integers, or of two numbers of units, as a decimal: 10^9 times the first, divided and cut toward zero
abbrev pub decimal_quotient : ℤ → ℤ → Result Atom Code
decimal_quotient a b = let cut = int_div (a *ℤ one_unit) b in
    by_way_of ((a *ℤ one_unit) ∷ cut ∷ []) (atom.Dec (dec cut))

-- the quotient, which is always a decimal
abbrev pub quotient_of : Operands → Result Atom Code
quotient_of (Ints a b) = decimal_quotient a b
quotient_of (Units a b) = decimal_quotient a b

-- the whole quotient, which is always an integer, cut toward zero
abbrev pub whole_quotient_of : Operands → Result Atom Code
whole_quotient_of (Ints a b) = by_way_of (int_div a b ∷ []) (atom.Int (int_div a b))
whole_quotient_of (Units a b) = by_way_of (int_div a b ∷ []) (atom.Int (int_div a b))

-- what the whole quotient leaves, with the sign of the dividend
abbrev pub remainder_of : Operands → Result Atom Code
remainder_of (Ints a b) = by_way_of (int_rem a b ∷ []) (atom.Int (int_rem a b))
remainder_of (Units a b) = by_way_of (int_rem a b ∷ []) (atom.Dec (dec (int_rem a b)))

-- what an operator makes of two atoms
abbrev pub calculation_of : ArithOp → Atom → Atom → Result Atom Code
calculation_of op.Add a b = with_operands sum_of a b
calculation_of op.Sub a b = with_operands difference_of a b
calculation_of op.Mul a b = with_operands product_of a b
calculation_of op.Div a b = with_divisor quotient_of a b
calculation_of op.Idiv a b = with_divisor whole_quotient_of a b
calculation_of op.Mod a b = with_divisor remainder_of a b

-- the opposite of a number
abbrev pub opposite_of : Number → Result Atom Code
opposite_of (number.Int n) = by_way_of (neg_ℤ n ∷ []) (atom.Int (neg_ℤ n))
opposite_of (number.Dec d) = by_way_of (neg_ℤ d.0 ∷ []) (atom.Dec (dec (neg_ℤ d.0)))

-- the number that an atom is, behind a sign: a minus makes the opposite of it, and a plus changes nothing
abbrev pub signed_of : Bool → Atom → Result Atom Code
signed_of is_minus a = do
  n ← number_of a
  if is_minus then opposite_of n else Ok (atom_of n)
