-- Which values were seen.
use Rattle.std.specs.Prelude.{◌≡◌, ℕ, Bool, true, false, not, ◌||◌, List, Ok, ℤ, ◌*ℤ◌}
use Rattle.std.specs.BTreeSet.{contains}
use Rattle.std.specs.Borrow.{Bor}
use Rattle.std.specs.List.{list_any}
use Rattle.std.specs.Cmp.Lexicographic.{slice_cmp}
use Rattle.std.specs.Ordering.{nat_cmp, int_cmp, bool_cmp}
use Rattle.std.specs.Result.{result_unwrap_or}
use Rattle.sx_atoms.specs.Comparison as value
use Rattle.sx_atoms.specs.Comparison.{Value, order_of, holds, value_of}
use Rattle.sx_atoms.specs.Numbers.{◌>>=◌, fits, one_unit}
use Rattle.sx_atoms.specs.declared.atoms.Atom.{Atom}
use Rattle.sx_atoms.specs.declared.comparison.CmpOp.TheVariants as op
use Rattle.sx_fn_seq.specs.declared.seen.Seen.{Seen}

-- whether two values are equal
abbrev pub same : Value → Value → Bool
same v w = result_unwrap_or (order_of v w >>= (λ o. Ok (holds op.Eq o))) false

-- these values were seen: numbers are kept by their units where these are a decimal's, and as integers elsewhere
pub record Shows (s : Seen) (has : Value → Bool) : Type 0 where
  pub decimals : (z : ℤ) → fits z ≡ true → contains int_cmp s.decimals z ≡ has (value.quantity z)
  pub integers : (n : ℤ) → fits (n *ℤ one_unit) ≡ false
      → contains int_cmp s.integers n ≡ has (value.quantity (n *ℤ one_unit))
  pub texts : (k : Bor (List ℕ))
      → contains (λ x y. slice_cmp nat_cmp x.now y.now) s.texts k ≡ has (value.text k.now)
  pub truths : (b : Bool) → contains bool_cmp s.truths b ≡ has (value.truth b)

-- no values were seen
abbrev pub IsEmpty : Seen → Type 0
IsEmpty s = Shows s (λ v. false)

-- a value is seen from now on, and added says whether it is new
pub record AddsValue (old new : Seen) (v : Value) (added : Bool) : Type 0 where
  pub answer : (has : Value → Bool) → Shows old has → added ≡ not (has v)
  pub shown : (has : Value → Bool) → Shows old has → Shows new (λ w. has w || same v w)

-- the values of some atoms
abbrev pub has_value : List Atom → Value → Bool
has_value atoms v = list_any (λ x. same (value_of x) v) atoms
