-- The positions that numbers select (XPath functions and operators 3.1, 5.4.3 and 14.1.8).
use Rattle.std.specs.Prelude.{ℕ, suc, Bool, false, ◌&&◌, if◌then◌else◌, List, [], ◌∷◌, Option, Some, None, Result, Ok, ℤ, pos, neg_ℤ, ◌+ℤ◌, int_le, int_lt}
use Rattle.std.specs.Int.{int_div_euclid}
use Rattle.std.specs.Option.{option_map}
use Rattle.sx_atoms.specs.Arguments.{number_argument}
use Rattle.sx_atoms.specs.declared.span.Chosen.{Chosen}
use Rattle.sx_atoms.specs.declared.span.Chosen.TheVariants as chosen
use Rattle.sx_atoms.specs.Numbers.{◌>>=◌, one_unit, units}
use Rattle.sx_atoms.specs.declared.atoms.Atom.{Atom}
use Rattle.sx_atoms.specs.declared.error_codes.Code.{Code}
use Rattle.sx_atoms.specs.declared.numbers.Number.{Number}

-- half of one_unit, in units of 10^-9
abbrev pub half : ℤ
half = pos 500000000

-- the greatest integer that is no greater than a number (XPath functions and operators 3.1, 4.4.3)
abbrev pub floor_of : Number → ℤ
floor_of x = int_div_euclid (units x) one_unit

-- the least integer that is no less than a number (4.4.2)
abbrev pub ceiling_of : Number → ℤ
ceiling_of x = neg_ℤ (int_div_euclid (neg_ℤ (units x)) one_unit)

-- the integer nearest to a number, and of two that are as near the greater one_unit (4.4.4)
abbrev pub rounded : Number → ℤ
rounded x = int_div_euclid (units x +ℤ half) one_unit

-- what numbers select of positions: none, those from a place on, or those from a place on and before another one_unit
pub data Span : Type 0 where
  nowhere : Span
  from : ℤ → Span
  between : ℤ → ℤ → Span

-- whether a position, counted from 1, is selected (5.4.3)
abbrev pub selects : Span → ℕ → Bool
selects nowhere p = false
selects (from a) p = int_le a (pos p)
selects (between a b) p = int_le a (pos p) && int_lt (pos p) b

-- from the first number on (14.1.8)
abbrev pub span_from : Option Number → Span
span_from None = nowhere
span_from (Some a) = from (rounded a)

-- from the first number on as many as the second one_unit says (14.1.8)
abbrev pub span_between : Option Number → Option Number → Span
span_between None n = nowhere
span_between (Some a) None = nowhere
span_between (Some a) (Some n) = between (rounded a) (rounded a +ℤ rounded n)

-- what the arguments of a function select, the second one_unit of which may be missing (5.4.3, 14.1.8)
abbrev pub span_of : List Atom → Option (List Atom) → Result Span Code
span_of start None = do
  a ← number_argument start
  Ok (span_from a)
span_of start (Some count) = do
  a ← number_argument start
  n ← number_argument count
  Ok (span_between a n)

-- the items at the positions that pass, where the first one_unit has position p (14.1.8)
abbrev pub at_positions : {X : Type 0} → (ℕ → Bool) → ℕ → List X → List X
at_positions keep p [] = []
at_positions keep p (x ∷ xs) =
    if keep p then x ∷ at_positions keep (suc p) xs else at_positions keep (suc p) xs

-- the span that the code keeps
abbrev pub span_in : Chosen → Span
span_in chosen.Nowhere = nowhere
span_in (chosen.From first) = from first
span_in (chosen.Counted first count) = between first (first +ℤ count)

-- the integer nearest to the number that an argument is (4.4.4)
abbrev pub rounded_answer : List Atom → Result (Option ℤ) Code
rounded_answer atoms = do
  n ← number_argument atoms
  Ok (option_map rounded n)

-- from such an integer on
abbrev pub span_after : Option ℤ → Span
span_after None = nowhere
span_after (Some a) = from a

-- from such an integer on as many as another one_unit says
abbrev pub span_counted : Option ℤ → Option ℤ → Span
span_counted None n = nowhere
span_counted (Some a) None = nowhere
span_counted (Some a) (Some n) = between a (a +ℤ n)
