-- To stop at the greatest number of 128 bits changes nothing that is asked of a number.
use Rattle.std.proofs.Common.{◌≡◌, ℕ, zero, suc, Bool, true, false, ◌&&◌, nat_lt, nat_le, Err, pos, negsuc, ◌++◌, lit<, length-append, ◌+◌, ◌*◌, ◌-◌, ◌^◌, ◌<◌, ◌≤◌, min, List, [], ◌∷◌, length, get_or, drop, refl, ap, sym, ◌∙◌, arith, inl, inr, pow-add}
use Rattle.std.proofs.Math.Nat.{min-eq_left, min-eq_right, le-mul_of_pos_right, add-mul, mul_assoc, pow-succ', one-le-pow}
use Rattle.std.proofs.lemmas.Bool.{cases_lt}
use Rattle.std.proofs.lemmas.Bool.Decides.{nat_tests}
use Rattle.std.specs.Char.{is_ascii_digit}
use Rattle.std.specs.List.{list_all}
use Rattle.std.proofs.lemmas.List.{drop_more}
use Rattle.std.proofs.Math.ListN.{drop_of_length-le}
use Rattle.sx_atoms.specs.Numbers.{fits, held_in_range}
use Rattle.sx_atoms.specs.Lexical.{digits_value, with_sign, units_value, units_of}
use Rattle.sx_atoms.specs.declared.error_codes.Code.TheVariants as code

abbrev pub most : ℕ
most = 2 ^ 128 - 1

-- digits behind a number that is too great
pub cut_before : (n p v : ℕ) → 0 < p → min (min n most * p + v) most ≡ min (n * p + v) most
cut_before n p v h = elim (cases_lt most n) [
  | inl over ↦
      let a : min n most ≡ most = min-eq_right (omega arith) in
      let b : most ≤ most * p = le-mul_of_pos_right most h in
      let d : n ≤ n * p = le-mul_of_pos_right n h in
      let e : min (most * p + v) most ≡ most = min-eq_right (omega arith) in
      let f : min (n * p + v) most ≡ most = min-eq_right (omega arith) in
      rw a (e ∙ sym f)
  | inr under ↦
      let a : min n most ≡ n = min-eq_left under in
      rw a refl
]

-- one digit more
pub appended : (xs : List ℕ) (i n m : ℕ) → i < length xs → m ≡ min (n * 10 + (get_or xs i 0 - 48)) most
    → min (m * 10 ^ length (drop (i + 1) xs) + digits_value (drop (i + 1) xs)) most ≡ min (n * 10 ^ length (drop i xs) + digits_value (drop i xs)) most
appended xs i n m h e =
    let rest = drop (i + 1) xs in
    let d = get_or xs i 0 - 48 in
    let p = 10 ^ length rest in
    let q : 10 ^ suc (length rest) ≡ 10 * p = pow-succ' 10 (length rest) in
    let s : n * (10 * p) + (d * p + digits_value rest) ≡ (n * 10 + d) * p + digits_value rest = rw (add-mul, mul_assoc) (omega arith) in
    rw (e, drop_more xs i 0 h, q, s) (cut_before (n * 10 + d) p (digits_value rest) (one-le-pow (length rest) 10 (omega arith)))

-- no digit is left
pub all_appended : (xs : List ℕ) (i n r : ℕ) → length xs ≤ i → n ≤ most → min (n * 10 ^ length (drop i xs) + digits_value (drop i xs)) most ≡ r → n ≡ r
all_appended xs i n r h low e =
    let f : min (n * 1 + 0) most ≡ r = rw (drop_of_length-le xs h) at e in
    omega arith

-- a power of ten cut into two
pow_parts : (k : ℕ) → k ≤ 9 → 10 ^ k * 10 ^ (9 - k) ≡ 10 ^ 9
pow_parts k h = let e : k + (9 - k) ≡ 9 = omega arith in sym (pow-add 10 k (9 - k)) ∙ ap (λ (j : ℕ). 10 ^ j) e

-- the digits before a point and behind it, and zeros behind these
pub scaled : (w k n v m a b : ℕ) → k ≤ 9 → a ≡ min (0 * w + n) most → b ≡ min (a * 10 ^ k + v) most → m ≡ min (b * 10 ^ (9 - k)) most
    → m ≡ min (n * 10 ^ 9 + v * 10 ^ (9 - k)) most
scaled w k n v m a b low ea eb em =
    let p = 10 ^ k in
    let q = 10 ^ (9 - k) in
    let first : a ≡ min n most = omega arith in
    let second : b ≡ min (n * p + v) most = rw (eb, first) (cut_before n p v (one-le-pow k 10 (omega arith))) in
    let zero : min (b * q + 0) most ≡ min ((n * p + v) * q + 0) most = rw second (cut_before (n * p + v) q 0 (one-le-pow (9 - k) 10 (omega arith))) in
    let parts : (n * p + v) * q ≡ n * 10 ^ 9 + v * q = add-mul (n * p) v q ∙ ap (λ (x : ℕ). x + v * q) (mul_assoc n p q ∙ ap (λ (x : ℕ). n * x) (pow_parts k low)) in
    omega (arith, em, zero, parts)

-- a number past the range of an i128, whatever its sign
held_over : (minus : Bool) (n : ℕ) → 2 ^ 127 < n → held_in_range (with_sign minus n) ≡ Err code.Foar0002
held_over minus zero h = absurd (omega arith)
held_over true (suc n) h = let e : fits (negsuc n) ≡ false = grind (arith, nat_tests) in rw e refl
held_over false (suc n) h = let e : fits (pos (suc n)) ≡ false = grind (arith, nat_tests) in rw e refl

pub held_cut : (minus : Bool) (n : ℕ) → held_in_range (with_sign minus (min n most)) ≡ held_in_range (with_sign minus n)
held_cut minus n = elim (cases_lt most n) [
  | inl over ↦
      let a : min n most ≡ most = min-eq_right (omega arith) in
      rw a (held_over minus most (lit< tt) ∙ sym (held_over minus n (omega arith)))
  | inr under ↦ let a : min n most ≡ n = min-eq_left under in rw a refl
]

all_append : (p : ℕ → Bool) (xs ys : List ℕ) → list_all p xs ≡ true → list_all p ys ≡ true → list_all p (xs ++ ys) ≡ true
all_append p [] ys h g = g
all_append p (x ∷ xs) ys h g = by (p x) (list_all p xs) h (λ k. all_append p xs ys k g)
  where
    by : (b c : Bool) → (b && c) ≡ true → (c ≡ true → list_all p (xs ++ ys) ≡ true) → (b && list_all p (xs ++ ys)) ≡ true
    by true c k f = f k
    by false c k f = k

-- the units of digits before a point and behind it
pub written : (minus : Bool) (whole fraction : List ℕ) (m : ℕ) → list_all is_ascii_digit whole ≡ true → list_all is_ascii_digit fraction ≡ true
    → 0 < length whole + length fraction → length fraction ≤ 9 → m ≡ min (units_value whole fraction) most
    → held_in_range (with_sign minus m) ≡ units_of minus whole fraction
written minus whole fraction m w f some low e =
    let all : list_all is_ascii_digit (whole ++ fraction) ≡ true = all_append is_ascii_digit whole fraction w f in
    let l : length (whole ++ fraction) ≡ length whole + length fraction = length-append whole fraction in
    let a : nat_lt 0 (length (whole ++ fraction)) ≡ true = grind (arith, nat_tests) in
    let b : nat_le (length fraction) 9 ≡ true = grind (arith, nat_tests) in
    rw (e, all, a, b) (held_cut minus (units_value whole fraction))
