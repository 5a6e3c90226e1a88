-- The numbers that digits write.
use Rattle.std.proofs.Common.{◌≡◌, ℕ, ◌+◌, ◌-◌, ◌*◌, ◌^◌, ◌<◌, ◌≤◌, min, true, List, [], ◌∷◌, length, drop, get_or, ap, sym, ◌∙◌, arith}
use Rattle.std.proofs.lemmas.List.{drop_more, drop_all}
use Rattle.std.proofs.lemmas.Bool.Decides.{nat_tests}
use Rattle.sx_esis.specs.Escapes.{is_character, number_behind}

-- the greatest number that is told apart
abbrev pub most : ℕ
most = 2 ^ 32 - 1

pub saturated : (n m : ℕ) (ds : List ℕ) → min n most ≡ min m most → min (number_behind 10 n ds) most ≡ min (number_behind 10 m ds) most
saturated n m [] same = same
saturated n m (d ∷ ds) same = saturated (n * 10 + (d - 48)) (m * 10 + (d - 48)) ds (omega arith)

pub next_digit : (n : ℕ) (ds : List ℕ) (i : ℕ) (m : ℕ) → i < length ds → m ≡ min (min (n * 10) most + (get_or ds i 0 - 48)) most →
    min (number_behind 10 m (drop (i + 1) ds)) most ≡ min (number_behind 10 n (drop i ds)) most
next_digit n ds i m within is =
    saturated m (n * 10 + (get_or ds i 0 - 48)) (drop (i + 1) ds) (omega arith)
    ∙ ap (λ (s : List ℕ). min (number_behind 10 n s) most) (sym (drop_more ds i 0 within))

pub last_digit : (n : ℕ) (ds : List ℕ) (i : ℕ) → length ds ≤ i → n ≤ most → n ≡ min (number_behind 10 n (drop i ds)) most
last_digit n ds i past small = let e : n ≡ min n most = omega arith in e ∙ ap (λ (s : List ℕ). min (number_behind 10 n s) most) (sym (drop_all i ds past))

-- a number that is too great is no character's either way
pub saturated_character : (n : ℕ) → is_character (min n most) ≡ is_character n
saturated_character n = grind (arith, nat_tests)

pub exact_character : (n : ℕ) → is_character (min n most) ≡ true → (is_character n ≡ true) × (min n most ≡ n)
exact_character n is = grind (arith, nat_tests)
