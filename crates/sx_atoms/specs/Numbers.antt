-- Numbers as operands, and the integers that an i128 holds.
use Rattle.std.specs.Prelude.{◌^◌, Bool, if◌then◌else◌, nat_lt, List, [], ◌∷◌, Result, Ok, Err, ℤ, pos, negsuc, ◌*ℤ◌}
use Rattle.std.specs.Ordering.{int_eq}
use Rattle.sx_atoms.specs.declared.error_codes.Code.{Code}
use Rattle.sx_atoms.specs.declared.error_codes.Code.TheVariants as code
use Rattle.sx_atoms.specs.declared.numbers.Number.{Number}
use Rattle.sx_atoms.specs.declared.numbers.Number.TheVariants as number
use Rattle.sx_atoms.specs.declared.numbers.Operands.{Operands}
use Rattle.sx_atoms.specs.declared.numbers.Operands.TheVariants as operands

infixl 10 ◌>>=◌
-- a step that may answer a code, and the next one_unit where it does not
abbrev pub ◌>>=◌ : {A B : Type 0} → Result A Code → (A → Result B Code) → Result B Code
(Ok x) >>= f = f x
(Err e) >>= f = Err e

-- whether an i128 holds this integer
abbrev pub fits : ℤ → Bool
fits (pos n) = nat_lt n (2 ^ 127)
fits (negsuc n) = nat_lt n (2 ^ 127)

-- an integer that an i128 is to hold: it is an overflow where that is not so
abbrev pub held_in_range : ℤ → Result ℤ Code
held_in_range z = if fits z then Ok z else Err code.Foar0002

-- an answer that is made by way of these integers, each of which an i128 is to hold
abbrev pub by_way_of : {A : Type 0} → List ℤ → A → Result A Code
by_way_of [] answer = Ok answer
by_way_of (z ∷ zs) answer = do
  n ← held_in_range z
  by_way_of zs answer

-- how many units of 10^-9 make one_unit
abbrev pub one_unit : ℤ
one_unit = pos 1000000000

-- the value of a number in units of 10^-9, whether an i128 holds it or not
abbrev pub units : Number → ℤ
units (number.Int n) = n *ℤ one_unit
units (number.Dec d) = d.0

-- whether a number is zero
abbrev pub is_zero : Number → Bool
is_zero (number.Int n) = int_eq n (pos 0)
is_zero (number.Dec d) = int_eq d.0 (pos 0)

-- two numbers as operands: two integers stay integers, and otherwise both are taken in units
abbrev pub paired : Number → Number → Result Operands Code
paired (number.Int a) (number.Int b) = Ok (operands.Ints a b)
paired x y = by_way_of (units x ∷ units y ∷ []) (operands.Units (units x) (units y))

-- the second of two operands
abbrev pub divisor_of : Operands → ℤ
divisor_of (operands.Ints a b) = b
divisor_of (operands.Units a b) = b
