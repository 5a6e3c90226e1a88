-- The digits of the places of a number, from the highest on.
use Rattle.std.proofs.Common.{◌≡◌, ℕ, zero, suc, ◌+◌, ◌*◌, ◌-◌, ◌/◌, ◌%◌, ◌^◌, ◌<◌, ◌≤◌, Bool, true, false, cond, eqb, List, [], ◌∷◌, refl, ap, sym, ◌∙◌, arith, pow-add}
use Rattle.std.proofs.Math.Nat.{mul_assoc, mul_comm, pow-succ', one-le-pow, add-mul-div_left, add-mul-mod_self_left, mod-eq_of_lt, zero-div, zero-mul, add-mul}
use Rattle.std.proofs.lemmas.Nat.{div-add-mod', div_below, mod-mul-add, mod_below, mul-add-lt}
use Rattle.sx_atoms.specs.Printing.{places, onto, without_zeros}
use Rattle.std.proofs.lemmas.Bool.{eqb-true}

-- a power of ten is more than nothing
pub ten_pos : (k : ℕ) → 0 < 10 ^ k
ten_pos k = one-le-pow k 10 (omega arith)

-- the digit at place j says nothing of the places from m on
pub place_mod : (m j n : ℕ) → j < m → n % 10 ^ m / 10 ^ j % 10 ≡ n / 10 ^ j % 10
place_mod m j n h =
    let c = 10 ^ (m - j - 1) in
    let q = n / 10 ^ m in
    let r = n % 10 ^ m in
    let s : j + suc (m - j - 1) ≡ m = omega arith in
    let w : 10 ^ m ≡ 10 ^ j * (10 * c) = ap (λ (x : ℕ). 10 ^ x) (sym s) ∙ pow-add 10 j (suc (m - j - 1)) ∙ ap (λ (x : ℕ). 10 ^ j * x) (pow-succ' 10 (m - j - 1)) in
    let a : q * 10 ^ m ≡ 10 ^ j * (10 * (c * q)) = mul_comm q (10 ^ m) ∙ ap (λ (x : ℕ). x * q) w ∙ mul_assoc (10 ^ j) (10 * c) q ∙ ap (λ (x : ℕ). 10 ^ j * x) (mul_assoc 10 c q) in
    let b : q * 10 ^ m + r ≡ n = div-add-mod' n (10 ^ m) in
    let e : n ≡ r + 10 ^ j * (10 * (c * q)) = omega arith in
    let f : n / 10 ^ j ≡ r / 10 ^ j + 10 * (c * q) = ap (λ (x : ℕ). x / 10 ^ j) e ∙ add-mul-div_left r (10 * (c * q)) (ten_pos j) in
    sym (ap (λ (x : ℕ). x % 10) f ∙ add-mul-mod_self_left (r / 10 ^ j) 10 (c * q))

pub places_mod : (k m n : ℕ) → k ≤ m → places k (n % 10 ^ m) ≡ places k n
unfolding places
places_mod zero m n h = refl
places_mod (suc k) m n h = cc (place_mod m k n (omega arith), places_mod k m n (omega arith))

-- the first digit is one
first_below : (k n : ℕ) → n < 10 ^ suc k → n / 10 ^ k < 10
first_below k n h = div_below n (10 ^ k) 10 (ten_pos k) (rw (← pow-succ' 10 k) h)

-- the first digit, and the others
pub first_place : (k n : ℕ) → n < 10 ^ suc k → places (suc k) n ≡ (48 + n / 10 ^ k) ∷ places k (n % 10 ^ k)
unfolding places
first_place k n h =
    let p = 10 ^ k in
    let d : n / p % 10 ≡ n / p = mod-eq_of_lt (first_below k n h) in
    rw (d, places_mod k k n (omega arith)) refl

-- one place more
pub mod_step : (k n : ℕ) → n % 10 ^ suc k ≡ n / 10 ^ k % 10 * 10 ^ k + n % 10 ^ k
mod_step k n =
    let p = 10 ^ k in
    let q = n / p / 10 in
    let d = n / p % 10 in
    let r = n % p in
    let a : n / p * p + r ≡ n = div-add-mod' n p in
    let b : q * 10 + d ≡ n / p = div-add-mod' (n / p) 10 in
    let e : (q * 10 + d) * p ≡ q * (10 * p) + d * p = add-mul (q * 10) d p ∙ ap (λ (x : ℕ). x + d * p) (mul_assoc q 10 p) in
    let f : n / p * p ≡ (q * 10 + d) * p = ap (λ (x : ℕ). x * p) (sym b) in
    let g : n ≡ q * (10 * p) + (d * p + r) = omega (arith, a, e, f) in
    let h : d * p + r < p * 10 = mul-add-lt d p r 10 (mod_below (n / p) 10 (omega arith)) (mod_below n p (ten_pos k)) in
    let low : d * p + r < 10 * p = omega arith in
    ap (λ (x : ℕ). n % x) (pow-succ' 10 k) ∙ ap (λ (x : ℕ). x % (10 * p)) g ∙ mod-mul-add q (10 * p) (d * p + r) low

-- of zero no digit is left
pub zero_left : (k : ℕ) → without_zeros (places k 0) ≡ []
unfolding places
zero_left zero = refl
zero_left (suc k) =
    let d : 0 / 10 ^ k % 10 ≡ 0 = ap (λ (x : ℕ). x % 10) (zero-div (10 ^ k)) in
    rw (zero_left k, d) refl

-- where no digit is left of a digit and others, they are zero
none_onto : (c : ℕ) (w : List ℕ) → onto c w ≡ [] → (w ≡ []) × (c ≡ 48)
none_onto c [] h = by (eqb c 48) (eqb-true c 48) h
  where
    by : (b : Bool) → (b ≡ true → c ≡ 48) → cond b [] (c ∷ []) ≡ [] → (◌≡◌ {A = List ℕ} [] []) × (c ≡ 48)
    by true f g = (refl, f refl)
    by false f g = absurd (cc)
none_onto c (d ∷ ds) h = absurd (cc)

pub none_left : (k n : ℕ) → without_zeros (places k n) ≡ [] → n % 10 ^ k ≡ 0
unfolding places
none_left zero n h = omega (arith, mod_below n 1)
none_left (suc k) n h =
    let p = none_onto (48 + n / 10 ^ k % 10) (without_zeros (places k n)) h in
    let d : n / 10 ^ k % 10 ≡ 0 = omega (arith, p.1) in
    let r : n % 10 ^ k ≡ 0 = none_left k n p.0 in
    rw (mod_step k n, d, r) (omega arith)

-- a digit stays where the number is not zero
onto_some : (c : ℕ) (w : List ℕ) → (w ≡ [] → c ≡ 48 → ⊥) → onto c w ≡ c ∷ w
onto_some c [] f = by (eqb c 48) (eqb-true c 48)
  where
    by : (b : Bool) → (b ≡ true → c ≡ 48) → cond b [] (c ∷ []) ≡ c ∷ []
    by true g = absurd (f refl (g refl))
    by false g = refl
onto_some c (d ∷ ds) f = refl

-- the first digit that is left, and the others
pub first_left : (k n : ℕ) → 0 < n → n < 10 ^ suc k → without_zeros (places (suc k) n) ≡ (48 + n / 10 ^ k) ∷ without_zeros (places k (n % 10 ^ k))
first_left k n some low =
    let p = 10 ^ k in
    let w = without_zeros (places k (n % p)) in
    let f : w ≡ [] → 48 + n / p ≡ 48 → ⊥ = λ e g.
    let r : n % p % p ≡ 0 = none_left k (n % p) e in
    let s : n % p % p ≡ n % p = mod-eq_of_lt (mod_below n p (ten_pos k)) in
    let a : n / p * p + n % p ≡ n = div-add-mod' n p in
    let z : n / p ≡ 0 = omega arith in
    let b : n / p * p ≡ 0 = ap (λ (x : ℕ). x * p) z ∙ zero-mul p in
    omega arith in
    rw (first_place k n low) (onto_some (48 + n / p) w f)

-- the same, by the number of places
pub next_left : (m n : ℕ) → 0 < n → n < 10 ^ m
    → (0 < m) × (n / 10 ^ (m - 1) < 10) × (without_zeros (places m n) ≡ (48 + n / 10 ^ (m - 1)) ∷ without_zeros (places (m - 1) (n % 10 ^ (m - 1))))
next_left zero n some low = absurd (omega arith)
next_left (suc k) n some low = let e : suc k - 1 ≡ k = omega arith in rw e (omega arith, first_below k n low, first_left k n some low)
