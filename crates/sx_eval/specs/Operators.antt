-- Operators on the atoms of their operands (XPath 3.1, 3.4 to 3.8 and 3.12).
use Rattle.std.specs.Prelude.{ℕ, zero, suc, Bool, true, false, nat_lt, List, [], ◌∷◌, ◌++◌, Result, Ok, Err, ℤ, pos, negsuc, ◌-ℤ◌, ◌+ℤ◌, is_ok, if◌then◌else◌}
use Rattle.sx_atoms.specs.Arithmetic.{calculation_of, signed_of}
use Rattle.sx_atoms.specs.Casting.{cast_of, integer_from}
use Rattle.sx_atoms.specs.Comparison.{comparison_of}
use Rattle.sx_atoms.specs.Numbers.{◌>>=◌}
use Rattle.sx_atoms.specs.Printing.{text_of}
use Rattle.sx_atoms.specs.declared.arithmetic.ArithOp.{ArithOp}
use Rattle.sx_atoms.specs.declared.atoms.Atom.{Atom}
use Rattle.sx_atoms.specs.declared.atoms.Atom.TheVariants as atoms
use Rattle.sx_atoms.specs.declared.atoms.AtomType.{AtomType}
use Rattle.sx_atoms.specs.declared.comparison.CmpOp.{CmpOp}
use Rattle.sx_atoms.specs.declared.error_codes.Code.{Code}
use Rattle.sx_atoms.specs.declared.error_codes.Code.TheVariants as code

-- what an operator gives, or its code
abbrev pub Answer : Type 0
Answer = Result (List Atom) Code

-- one atom
abbrev pub one : Result Atom Code → Answer
one answer = do
  a ← answer
  Ok (a ∷ [])

-- one truth value
abbrev pub truth : Result Bool Code → Answer
truth answer = do
  b ← answer
  Ok (atoms.Bool b ∷ [])

-- ---- one operand, two operands

-- nothing for an empty operand; more than one atom are of a wrong type
abbrev pub of_one : (Atom → Answer) → List Atom → Answer
of_one f [] = Ok []
of_one f (a ∷ []) = f a
of_one f (a ∷ b ∷ more) = Err code.Xpty0004

-- nothing where an operand is empty; else one atom of each
abbrev pub of_two : (Atom → Atom → Answer) → List Atom → List Atom → Answer
of_two f [] bs = Ok []
of_two f (a ∷ as') [] = Ok []
of_two f (a ∷ []) (b ∷ []) = f a b
of_two f (a ∷ c ∷ as') (b ∷ bs) = Err code.Xpty0004
of_two f (a ∷ []) (b ∷ c ∷ bs) = Err code.Xpty0004

-- ---- arithmetic (3.5)

abbrev pub calculated : ArithOp → List Atom → List Atom → Answer
calculated op = of_two (λ a b. one (calculation_of op a b))

abbrev pub signed : Bool → List Atom → Answer
signed minus = of_one (λ a. one (signed_of minus a))

-- ---- comparisons (3.7)

-- one atom of each
abbrev pub value_compared : CmpOp → List Atom → List Atom → Answer
value_compared op = of_two (λ a b. truth (comparison_of op false a b))

-- some pair with this left atom: the first one that holds or has a code decides
abbrev pub some_holds : CmpOp → Atom → List Atom → Result Bool Code
some_holds op a [] = Ok false
some_holds op a (b ∷ bs) = do
  holds ← comparison_of op true a b
  if holds then Ok true else some_holds op a bs

-- some pair, for each left atom all right ones
abbrev pub some_pair_holds : CmpOp → List Atom → List Atom → Result Bool Code
some_pair_holds op [] bs = Ok false
some_pair_holds op (a ∷ as') bs = do
  holds ← some_holds op a bs
  if holds then Ok true else some_pair_holds op as' bs

abbrev pub compared : CmpOp → Bool → List Atom → List Atom → Answer
compared op true as' bs = truth (some_pair_holds op as' bs)
compared op false as' bs = value_compared op as' bs

-- ---- strings (3.6)

-- an operand as a string: an empty one is the empty string
abbrev pub printed : List Atom → Result (List ℕ) Code
printed [] = Ok []
printed (a ∷ []) = Ok (text_of a)
printed (a ∷ b ∷ more) = Err code.Xpty0004

abbrev pub concatenated : List Atom → List Atom → Answer
concatenated as' bs = do
  s ← printed as'
  t ← printed bs
  Ok (atoms.Str (s ++ t) ∷ [])

-- ---- ranges (3.4.1)

-- an integer, or text without a type that is cast to one
abbrev pub integer_in : Atom → Result ℤ Code
integer_in (atoms.Int n) = Ok n
integer_in (atoms.Untyped s) = integer_from (atoms.Untyped s)
integer_in a = Err code.Xpty0004

-- so many integers, from this one on
abbrev pub integers_from : ℤ → ℕ → List Atom
integers_from n zero = []
integers_from n (suc k) = atoms.Int n ∷ integers_from (n +ℤ pos 1) k

-- how many integers there are where the last is so much greater than the first
abbrev pub count_for : ℤ → ℕ
count_for (pos n) = suc n
count_for (negsuc n) = 0

-- so many as the limit at most
abbrev pub counted_integers : ℕ → ℤ → ℕ → Answer
counted_integers limit first count = if nat_lt limit count then Err code.Sxli0002 else Ok (integers_from first count)

abbrev pub range_of : ℕ → Atom → Atom → Answer
range_of limit a b = do
  first ← integer_in a
  last ← integer_in b
  counted_integers limit first (count_for (last -ℤ first))

abbrev pub ranged : ℕ → List Atom → List Atom → Answer
ranged limit = of_two (range_of limit)

-- ---- casts (3.12.2 and 3.12.3)

abbrev pub cast_to : AtomType → Bool → List Atom → Answer
cast_to type true [] = Ok []
cast_to type false [] = Err code.Xpty0004
cast_to type optional (a ∷ []) = one (cast_of a type)
cast_to type optional (a ∷ b ∷ more) = Err code.Xpty0004

abbrev pub is_castable : AtomType → Bool → List Atom → Bool
is_castable type optional [] = optional
is_castable type optional (a ∷ []) = is_ok (cast_of a type)
is_castable type optional (a ∷ b ∷ more) = false
