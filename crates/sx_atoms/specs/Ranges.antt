-- Positions that follow one another are a part that is cut out of a list.
use Rattle.std.specs.Prelude.{◌≡◌, ℕ, zero, suc, ◌+◌, ◌-◌, ◌<◌, ◌≤◌, Bool, true, false, ◌&&◌, if◌then◌else◌, nat_le, nat_lt, List, [], ◌∷◌, length, take, drop, slice_range}
use Rattle.std.proofs.Common.{ap, sym, ◌∙◌, arith, add-zero}
use Rattle.std.proofs.lemmas.Bool.Decides.{nat_tests}
use Rattle.std.proofs.Math.Seq.{drop-nil, take-nil}
use Rattle.sx_atoms.specs.Positions.{at_positions}

-- a test of positions from k on, at the first place and at those behind it
first_place : {X : Type 0} (keep within : ℕ → Bool) (k : ℕ) (x : X) (xs : List X)
    → ((p : ℕ) → p < length (x ∷ xs) → keep (k + p) ≡ within p) → keep k ≡ within 0
first_place keep within k x xs f = ap keep (sym (add-zero k)) ∙ f 0 (omega arith)

next_place : {X : Type 0} (keep within : ℕ → Bool) (k : ℕ) (x : X) (xs : List X)
    → ((p : ℕ) → p < length (x ∷ xs) → keep (k + p) ≡ within p)
    → (p : ℕ) → p < length xs → keep (suc k + p) ≡ within (suc p)
next_place keep within k x xs f p g = ap keep (omega arith) ∙ f (suc p) (omega arith)

-- what the first item becomes
kept : {X : Type 0} (keep : ℕ → Bool) (k : ℕ) (x : X) (xs : List X)
    → keep k ≡ true → at_positions keep k (x ∷ xs) ≡ x ∷ at_positions keep (suc k) xs
kept keep k x xs e = let rest = at_positions keep (suc k) xs in
    ap (λ (t : Bool). if t then x ∷ rest else rest) e

dropped : {X : Type 0} (keep : ℕ → Bool) (k : ℕ) (x : X) (xs : List X)
    → keep k ≡ false → at_positions keep k (x ∷ xs) ≡ at_positions keep (suc k) xs
dropped keep k x xs e = let rest = at_positions keep (suc k) xs in
    ap (λ (t : Bool). if t then x ∷ rest else rest) e

shorter : (a b p : ℕ) → (nat_le (suc a) (suc p) && nat_lt (suc p) (suc b)) ≡ (nat_le a p && nat_lt p b)
shorter a b p = grind (arith, nat_tests)

shorter_end : (b p : ℕ) → (nat_le 0 (suc p) && nat_lt (suc p) (suc b)) ≡ (nat_le 0 p && nat_lt p b)
shorter_end b p = grind (arith, nat_tests)

first_kept : (b : ℕ) → (nat_le 0 0 && nat_lt 0 (suc b)) ≡ true
first_kept b = grind (arith, nat_tests)

first_dropped : (a b : ℕ) → (nat_le (suc a) 0 && nat_lt 0 (suc b)) ≡ false
first_dropped a b = grind (arith, nat_tests)

none_before : (p : ℕ) → (nat_le 0 (suc p) && nat_lt (suc p) 0) ≡ (nat_le 0 p && nat_lt p 0)
none_before p = grind (arith, nat_tests)

cut_longer : {X : Type 0} (b : ℕ) (x : X) (xs : List X)
    → x ∷ slice_range xs 0 b ≡ slice_range (x ∷ xs) 0 (suc b)
cut_longer b x xs =
    let e : b - 0 ≡ b = omega arith in
    let f : suc b ≡ suc b - 0 = omega arith in
    ap (λ n. x ∷ take n xs) e ∙ ap (λ n. take n (x ∷ xs)) f

cut_later : {X : Type 0} (a b : ℕ) (xs : List X) → slice_range xs a b ≡ take (suc b - suc a) (drop a xs)
cut_later a b xs = let e : b - a ≡ suc b - suc a = omega arith in ap (λ n. take n (drop a xs)) e

-- those at places from a on and before b, where the first place has position k
pub range_at : {X : Type 0} (keep : ℕ → Bool) (k a b : ℕ) (xs : List X)
    → a ≤ b → ((p : ℕ) → p < length xs → keep (k + p) ≡ (nat_le a p && nat_lt p b))
    → at_positions keep k xs ≡ slice_range xs a b
range_at keep k a b [] h f = sym (ap (take (b - a)) (drop-nil a) ∙ take-nil (b - a))
range_at keep k zero zero (x ∷ xs) h f =
    let within : ℕ → Bool = λ p. nat_le 0 p && nat_lt p 0 in
    dropped keep k x xs (first_place keep within k x xs f)
    ∙ range_at keep (suc k) zero zero xs h (λ p g. next_place keep within k x xs f p g ∙ none_before p)
range_at keep k zero (suc b) (x ∷ xs) h f =
    let within : ℕ → Bool = λ p. nat_le 0 p && nat_lt p (suc b) in
    kept keep k x xs (first_place keep within k x xs f ∙ first_kept b)
    ∙ ap (λ ys. x ∷ ys)
    (range_at keep (suc k) zero b xs (omega arith)
    (λ p g. next_place keep within k x xs f p g ∙ shorter_end b p))
    ∙ cut_longer b x xs
range_at keep k (suc a) zero (x ∷ xs) h f = absurd (omega arith)
range_at keep k (suc a) (suc b) (x ∷ xs) h f =
    let within : ℕ → Bool = λ p. nat_le (suc a) p && nat_lt p (suc b) in
    dropped keep k x xs (first_place keep within k x xs f ∙ first_dropped a b)
    ∙ range_at keep (suc k) a b xs (omega arith) (λ p g. next_place keep within k x xs f p g ∙ shorter a b p)
    ∙ cut_later a b xs

pub range_cut : {X : Type 0} (keep : ℕ → Bool) (a b : ℕ) (xs : List X)
    → a ≤ b → ((p : ℕ) → p < length xs → keep (p + 1) ≡ (nat_le a p && nat_lt p b))
    → at_positions keep 1 xs ≡ slice_range xs a b
range_cut keep a b xs h f = range_at keep 1 a b xs h (λ p g. ap keep (omega arith) ∙ f p g)
