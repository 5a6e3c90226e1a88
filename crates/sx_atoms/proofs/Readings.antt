-- Numerals that are read: digits, a sign before them, a point among them.
use Rattle.std.proofs.Common.{◌≡◌, ℕ, ◌+◌, ◌-◌, ◌<◌, ◌≤◌, Bool, true, false, not, cond, ◌&&◌, nat_lt, nat_le, nat_eq, List, [], ◌∷◌, ◌++◌, length, drop, get_or, refl, ap, subst, ◌∙◌, arith, rules, length-append, append-nil}
use Rattle.std.proofs.lemmas.List.{take_all}
use Rattle.std.proofs.Math.Seq.{take-append_seam, take-length, drop-append-add}
use Rattle.std.proofs.Math.ListN.{drop_of_length-le}
use Rattle.std.proofs.lemmas.Bool.Decides.{nat_tests}
use Rattle.std.proofs.lemmas.List.Folds.{list_all-append}
use Rattle.std.proofs.lemmas.List.Sums.{suffix_len_is, AllPass-from_list_all}
use Rattle.std.proofs.lemmas.Str.Parse.{IsNumeralModel, numerals_by_weight}
use Rattle.std.specs.Char.{is_ascii_digit}
use Rattle.std.specs.List.{list_all, prefix_len, suffix_len, position_or_len, before_first, after_first}
use Rattle.std.specs.Str.Parse.{starts_with_minus, without_leading_sign}
use Rattle.sx_atoms.specs.Numbers.{held_in_range}
use Rattle.sx_atoms.specs.Lexical.{is_blank, trimmed, digits_value, are_digits, with_sign, integer_of, integer_in, is_point, units_value, units_of, decimal_in}

abbrev pub AreDigits : List ℕ → Type 0
AreDigits ds = list_all is_ascii_digit ds ≡ true

-- std's numerals are these
pub own : IsNumeralModel AreDigits digits_value
own = numerals_by_weight AreDigits (search rules) digits_value (search rules)

-- not white space
abbrev pub is_black : ℕ → Bool
is_black c = not (is_blank c)

all_weaker : (p q : ℕ → Bool) → ((c : ℕ) → p c ≡ true → q c ≡ true) → (xs : List ℕ) → list_all p xs ≡ true → list_all q xs ≡ true
all_weaker p q f [] h = refl
all_weaker p q f (x ∷ xs) h = by (p x) (q x) (f x) (list_all p xs) (list_all q xs) (all_weaker p q f xs) h
  where
    by : (a b : Bool) → (a ≡ true → b ≡ true) → (c d : Bool) → (c ≡ true → d ≡ true) → (a && c) ≡ true → (b && d) ≡ true
    by true b f c d g h = rw (f refl) (g h)
    by false b f c d g h = absurd (cc)

pub digits_black : (ds : List ℕ) → AreDigits ds → list_all is_black ds ≡ true
digits_black ds h = all_weaker is_ascii_digit is_black (λ c g. grind (arith, nat_tests)) ds h

-- a text without white space stays as it is
front_black : (xs : List ℕ) → list_all is_black xs ≡ true → prefix_len is_blank xs ≡ 0
front_black [] h = refl
front_black (c ∷ cs) h = by (is_blank c) h
  where
    by : (b : Bool) → (not b && list_all is_black cs) ≡ true → cond b (1 + prefix_len is_blank cs) 0 ≡ 0
    by true h = absurd (cc)
    by false h = refl

pub trimmed_black : (xs : List ℕ) → list_all is_black xs ≡ true → trimmed xs ≡ xs
trimmed_black xs h =
    let a : prefix_len is_blank xs ≡ 0 = front_black xs h in
    let last : 0 < length xs → is_blank (get_or xs (length xs - 1) 0) ≡ false = λ some. black (is_blank (get_or xs (length xs - 1) 0)) (AllPass-from_list_all is_black xs h (length xs - 1) 0 (omega arith)) in
    let s : suffix_len is_blank xs ≡ length xs - length xs = suffix_len_is is_blank xs (length xs) 0 (omega arith) (λ k l m. absurd (omega arith)) last in
    let z : suffix_len is_blank xs ≡ 0 = omega arith in
    rw (a, z) (take_all (length xs - 0) xs (omega arith))
  where
    black : (b : Bool) → not b ≡ true → b ≡ false
    black true h = absurd (cc)
    black false h = refl

-- the first of some digits is one
pub first_digit : (c : ℕ) (cs : List ℕ) → AreDigits (c ∷ cs) → (is_ascii_digit c ≡ true) × AreDigits cs
first_digit c cs h = by (is_ascii_digit c) (list_all is_ascii_digit cs) h
  where
    by : (a b : Bool) → (a && b) ≡ true → (a ≡ true) × (b ≡ true)
    by true b h = (refl, h)
    by false b h = absurd (cc)

-- a numeral without a sign
pub plain : (ds rest : List ℕ) → AreDigits ds → 0 < length ds → (starts_with_minus (ds ++ rest) ≡ false) × (without_leading_sign (ds ++ rest) ≡ ds ++ rest)
plain [] rest h some = absurd (omega arith)
plain (c ∷ cs) rest h some =
    let d = (first_digit c cs h).0 in
    let low : nat_eq c 45 ≡ false = grind (arith, nat_tests) in
    let plus : nat_eq c 43 ≡ false = grind (arith, nat_tests) in
    by (nat_eq c 45) (nat_eq c 43) low plus
  where
    by : (a b : Bool) → a ≡ false → b ≡ false → (a ≡ false) × (cond a (drop 1 (c ∷ (cs ++ rest))) (drop (cond b 1 0) (c ∷ (cs ++ rest))) ≡ c ∷ (cs ++ rest))
    by true b e f = absurd (cc)
    by false true e f = absurd (cc)
    by false false e f = (refl, refl)

pub plain_alone : (ds : List ℕ) → AreDigits ds → 0 < length ds → (starts_with_minus ds ≡ false) × (without_leading_sign ds ≡ ds)
plain_alone ds h some = subst (λ (xs : List ℕ). (starts_with_minus xs ≡ false) × (without_leading_sign xs ≡ xs)) (append-nil ds) (plain ds [] h some)

-- digits have no point
no_point : (ds rest : List ℕ) → AreDigits ds → position_or_len is_point (ds ++ rest) ≡ length ds + position_or_len is_point rest
no_point [] rest h = omega arith
no_point (c ∷ cs) rest h =
    let d = first_digit c cs h in
    let p : is_point c ≡ false = grind (arith, nat_tests) in
    let more = no_point cs rest d.1 in
    rw p (omega arith)

pub before_point : (ds rest : List ℕ) → AreDigits ds → before_first is_point (ds ++ 46 ∷ rest) ≡ ds
before_point ds rest h = let e : position_or_len is_point (ds ++ 46 ∷ rest) ≡ length ds = omega (arith, no_point ds (46 ∷ rest) h) in rw e (take-append_seam ds (46 ∷ rest))

pub after_point : (ds rest : List ℕ) → AreDigits ds → after_first is_point (ds ++ 46 ∷ rest) ≡ rest
after_point ds rest h = let e : position_or_len is_point (ds ++ 46 ∷ rest) ≡ length ds = omega (arith, no_point ds (46 ∷ rest) h) in rw e (drop-append-add ds (46 ∷ rest) 1)

without_point : (ds : List ℕ) → AreDigits ds → position_or_len is_point ds ≡ length ds
without_point ds h = let e = no_point ds [] h in let f : ds ++ [] ≡ ds = append-nil ds in let g : position_or_len is_point ds ≡ length ds + 0 = rw f at e in omega (arith, g)

pub all_before : (ds : List ℕ) → AreDigits ds → before_first is_point ds ≡ ds
all_before ds h = rw (without_point ds h) (take-length ds)

pub none_after : (ds : List ℕ) → AreDigits ds → after_first is_point ds ≡ []
none_after ds h = rw (without_point ds h) (drop_of_length-le ds (omega arith))

-- a numeral of digits alone
pub integer_read : (minus : Bool) (text ds : List ℕ) (n : ℕ) → list_all is_black text ≡ true → starts_with_minus text ≡ minus → without_leading_sign text ≡ ds
    → AreDigits ds → 0 < length ds → digits_value ds ≡ n → integer_in text ≡ held_in_range (with_sign minus n)
integer_read minus text ds n t m d h some e =
    let a : are_digits ds ≡ true = let l : nat_lt 0 (length ds) ≡ true = grind (arith, nat_tests) in rw (h, l) refl in
    ap (λ (x : List ℕ). integer_of (starts_with_minus x) (without_leading_sign x)) (trimmed_black text t)
    ∙ ap (λ (b : Bool). integer_of b (without_leading_sign text)) m ∙ ap (integer_of minus) d
    ∙ rw (a, e) refl

-- digits, and behind a point further ones
pub record IsUnits (ds : List ℕ) (n : ℕ) : Type 0 where
  pub whole : List ℕ
  pub fraction : List ℕ
  pub before : before_first is_point ds ≡ whole
  pub after : after_first is_point ds ≡ fraction
  pub whole_digits : AreDigits whole
  pub fraction_digits : AreDigits fraction
  pub some : 0 < length whole
  pub few : length fraction ≤ 9
  pub value : units_value whole fraction ≡ n
  pub black : list_all is_black ds ≡ true
  pub no_minus : starts_with_minus ds ≡ false
  pub no_sign : without_leading_sign ds ≡ ds

pub decimal_read : (minus : Bool) (text ds : List ℕ) (n : ℕ) → list_all is_black text ≡ true → starts_with_minus text ≡ minus → without_leading_sign text ≡ ds
    → IsUnits ds n → decimal_in text ≡ held_in_range (with_sign minus n)
decimal_read minus text ds n t m d u =
    let w = u.whole in
    let f = u.fraction in
    let of = λ (b : Bool) (x : List ℕ). units_of b (before_first is_point x) (after_first is_point x) in
    let all : list_all is_ascii_digit (w ++ f) ≡ true = list_all-append is_ascii_digit w f ∙ both (list_all is_ascii_digit w) (list_all is_ascii_digit f) u.whole_digits u.fraction_digits in
    let l : length (w ++ f) ≡ length w + length f = length-append w f in
    let some : nat_lt 0 (length (w ++ f)) ≡ true = grind (arith, nat_tests, u.some) in
    let few : nat_le (length f) 9 ≡ true = grind (arith, nat_tests, u.few) in
    ap (λ (x : List ℕ). of (starts_with_minus x) (without_leading_sign x)) (trimmed_black text t)
    ∙ ap (λ (b : Bool). of b (without_leading_sign text)) m ∙ ap (of minus) d
    ∙ ap (λ (x : List ℕ). units_of minus x (after_first is_point ds)) u.before ∙ ap (units_of minus w) u.after
    ∙ rw (all, some, few, u.value) refl
  where
    both : (a b : Bool) → a ≡ true → b ≡ true → (a && b) ≡ true
    both a b e f = rw (e, f) refl
