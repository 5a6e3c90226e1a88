-- What tests of numbers say.
use Rattle.std.proofs.Common.{◌≡◌, ℕ, suc, ◌<◌, ◌≤◌, Bool, true, false, nat_lt, nat_eq, refl, subst, arith}
use Rattle.std.proofs.lemmas.Bool.Decides.{nat_tests}

-- a number that is less is found so
pub is-less : (a b : ℕ) → a < b → nat_lt a b ≡ true
is-less a b less = grind (arith, nat_tests)

-- and is so where it is found so
pub less-of : (a b : ℕ) → nat_lt a b ≡ true → a < b
less-of a b is = grind (arith, nat_tests)

-- a number that is not less is found so
pub not-less : (a b : ℕ) → b ≤ a → nat_lt a b ≡ false
not-less a b within = grind (arith, nat_tests)

-- and is so where it is found so
pub at-least : (a b : ℕ) → nat_lt a b ≡ false → b ≤ a
at-least a b is = grind (arith, nat_tests)

-- numbers that are found equal are
pub same-number : (a b : ℕ) → nat_eq a b ≡ true → a ≡ b
same-number a b is = grind (arith, nat_tests)

-- a number is itself
pub is-itself : (n : ℕ) → nat_eq n n ≡ true
is-itself n = grind (arith, nat_tests)

-- a greater one is another
pub is-not : (a b : ℕ) → a < b → nat_eq a b ≡ false
is-not a b less = grind (arith, nat_tests)

-- so is a smaller one
pub is-not_above : (a b : ℕ) → b < a → nat_eq a b ≡ false
is-not_above a b less = grind (arith, nat_tests)

-- of numbers up to this one, one that is found another is less
pub less-other : (a b : ℕ) → nat_eq a b ≡ false → a < suc b → a < b
less-other a b is within = grind (arith, nat_tests)

-- what is so of each before this one, and of this one, is so of each before the next
by-last : (P : ℕ → Type 0) (j k : ℕ) (b : Bool) → nat_eq j k ≡ b → j < suc k → (j < k → P j) → P k → P j
by-last P j k true is within before here = subst P (let same : k ≡ j = grind (arith, nat_tests) in same) here
by-last P j k false is within before here = before (less-other j k is within)

-- so is it without a test
pub last-or : (P : ℕ → Type 0) (j k : ℕ) → j < suc k → (j < k → P j) → P k → P j
last-or P j k within before here = by-last P j k (nat_eq j k) refl within before here
