-- Numbers, by the digits and points in a text.
use Rattle.std.proofs.Common.{◌≡◌, ◌≢◌, ℕ, zero, suc, ◌+◌, ◌-◌, ◌<◌, ◌≤◌, Bool, true, false, ◌&&◌, ◌||◌, not, cond, eqb, ltb, List, [], ◌∷◌, ◌++◌, length, take, drop, get_or, Some, ◌⊎◌, refl, ap, sym, ◌∙◌, inl, inr, arith, length-drop, get_or-drop, get_or-take}
use Rattle.std.proofs.lemmas.Bool.{eq-eqb, ne_eqb, lt-ltb, and_parts, both_ways, false≢true, eqb-true, and_from, and_left, and_right, or_left, or_right, or_from, or_cases, not_from_true, cases_lt, cases_Bool}
use Rattle.std.proofs.lemmas.Bool.Decides.{nat_tests}
use Rattle.std.proofs.lemmas.List.{length-take-le, get_or_past}
use Rattle.std.proofs.lemmas.List.Folds.{list_all-append, list_all_at}
use Rattle.std.proofs.lemmas.List.Sums.{sum_by-append, sum_by-cons, prefix_len_passes, prefix_len_stops, prefix_len-le-length, prefix_len-drop_yes}
use Rattle.std.specs.Char.{is_ascii_digit}
use Rattle.std.specs.List.{list_all, count_by, prefix_len}
use Rattle.std.specs.Prelude.{is_some}
use Rattle.std.specs.Str.{IsUtf8}
use Rattle.sx_lex.specs.Fronts.{IsToken, begins_name, begins_number}
use Rattle.sx_lex.specs.Tokens.{is_quote, is_point, is_integer, is_decimal_literal, kind_of}
use Rattle.sx_lex.specs.declared.kinds.TokenKind.TheVariants as kind
use Rattle.sx_lex.proofs.Firsts.{kind_by, kind_is, no_name, no_wild, no_literal}
use Rattle.sx_lex.proofs.Fronts.{boundary_behind, all_pass}
use Rattle.sx_lex.proofs.Table.{unmarked}

abbrev digits : List ℕ → ℕ
digits s = prefix_len is_ascii_digit s

abbrev in_number : ℕ → Bool
in_number c = is_ascii_digit c || is_point c

-- the digits in front are digits, and have no point
all_digits : (s : List ℕ) → list_all is_ascii_digit (take (digits s) s) ≡ true
all_digits s = all_pass is_ascii_digit s (digits s) (omega arith)

digits_in_number : (s : List ℕ) → list_all is_ascii_digit s ≡ true → list_all in_number s ≡ true
digits_in_number [] all = refl
digits_in_number (b ∷ bs) all =
    let parts = and_parts (is_ascii_digit b) (list_all is_ascii_digit bs) all in
    and_from (in_number b) (list_all in_number bs) (or_left (is_ascii_digit b) (is_point b) parts.0) (digits_in_number bs parts.1)

digit_no_point : (b : ℕ) → is_ascii_digit b ≡ true → is_point b ≡ false
digit_no_point b digit = grind (arith, nat_tests)

no_points : (s : List ℕ) → list_all is_ascii_digit s ≡ true → count_by is_point s ≡ 0
no_points [] all = refl
no_points (b ∷ bs) all =
    let parts = and_parts (is_ascii_digit b) (list_all is_ascii_digit bs) all in
    let e = sum_by-cons (λ (x : ℕ). cond (is_point x) 1 0) b bs in
    let none : ◌≡◌ {A = ℕ} (cond (is_point b) 1 0) 0 = ap {B = ℕ} (λ (v : Bool). cond v 1 0) (digit_no_point b parts.0) in
    omega (arith, e, none, no_points bs parts.1)

one_point : (b : ℕ) (bs : List ℕ) → is_point b ≡ true → count_by is_point (b ∷ bs) ≡ 1 + count_by is_point bs
one_point b bs point =
    let e = sum_by-cons (λ (x : ℕ). cond (is_point x) 1 0) b bs in
    let one : ◌≡◌ {A = ℕ} (cond (is_point b) 1 0) 1 = ap {B = ℕ} (λ (v : Bool). cond v 1 0) point in
    omega (arith, e, one)

-- the kind of a text that begins with a number
number_kind : (s : List ℕ) (m : ℕ) (integer decimal : Bool) → begins_number s ≡ true → 0 < m → (is_ascii_digit (get_or s 0 0) ≡ false → 1 < m)
    → is_integer (take m s) ≡ integer → is_decimal_literal (take m s) ≡ decimal → kind_of (take m s) ≡ kind_by false false integer decimal false false
number_kind s m integer decimal begins some more i d =
    let first = get_or-take m s 0 0 some in
    let b = get_or (take m s) 0 0 in
    let here : begins_number (take m s) ≡ true = begins_front (cases_Bool (is_ascii_digit (get_or s 0 0))) in
    let low : in_number b ≡ true = ap in_number first ∙ first_in begins in
    let name : begins_name b ≡ false = not_name b low in
    kind_is (take m s) false false integer decimal false false
    (no_name (take m s) name)
    (no_wild (take m s) name (λ star. absurd (not_star b low star)))
    i
    d
    (no_literal (take m s) (not_quote b low))
    (unmarked (λ t. not (begins_number t)) refl (take m s) (not_from_true (begins_number (take m s)) here))
  where
    begins_front : (is_ascii_digit (get_or s 0 0) ≡ true) ⊎ (is_ascii_digit (get_or s 0 0) ≡ false) → begins_number (take m s) ≡ true
    begins_front (inl digit) =
        or_left (is_ascii_digit (get_or (take m s) 0 0)) (is_point (get_or (take m s) 0 0) && is_ascii_digit (get_or (take m s) 1 0)) (ap is_ascii_digit (get_or-take m s 0 0 some) ∙ digit)
    begins_front (inr other) =
        ap (λ (x : ℕ). is_ascii_digit x || (is_point x && is_ascii_digit (get_or (take m s) 1 0))) (get_or-take m s 0 0 some)
        ∙ ap (λ (x : ℕ). is_ascii_digit (get_or s 0 0) || (is_point (get_or s 0 0) && is_ascii_digit x)) (get_or-take m s 1 0 (more other))
        ∙ begins

    first_in : begins_number s ≡ true → in_number (get_or s 0 0) ≡ true
    first_in begins = elim (or_cases (is_ascii_digit (get_or s 0 0)) (is_point (get_or s 0 0) && is_ascii_digit (get_or s 1 0)) begins) [
      | inl digit ↦ or_left (is_ascii_digit (get_or s 0 0)) (is_point (get_or s 0 0)) digit
      | inr point ↦ or_right (is_ascii_digit (get_or s 0 0)) (is_point (get_or s 0 0)) (and_parts (is_point (get_or s 0 0)) (is_ascii_digit (get_or s 1 0)) point).0
    ]

    not_name : (b : ℕ) → in_number b ≡ true → begins_name b ≡ false
    not_name b low = grind (arith, nat_tests)

    not_star : (b : ℕ) → in_number b ≡ true → b ≡ 42 → ⊥
    not_star b low star = grind (arith, nat_tests)

    not_quote : (b : ℕ) → in_number b ≡ true → is_quote b ≡ false
    not_quote b low = grind (arith, nat_tests)

-- a front with a byte that is no digit is no integer, and one with a byte that is neither a digit nor a point is no decimal
no_integer_past : (s : List ℕ) (at m : ℕ) → at < m → m ≤ length s → is_ascii_digit (get_or s at 0) ≡ false → is_integer (take m s) ≡ false
no_integer_past s at m below within other =
    and_left (list_all is_ascii_digit (take m s)) (ltb 0 (length (take m s)))
    (list_all_at is_ascii_digit (take m s) at 0 (let size = length-take-le m s within in omega arith) (ap is_ascii_digit (get_or-take m s at 0 below) ∙ other))

no_decimal_past : (s : List ℕ) (at m : ℕ) → at < m → m ≤ length s → in_number (get_or s at 0) ≡ false → is_decimal_literal (take m s) ≡ false
no_decimal_past s at m below within other =
    and_left (list_all in_number (take m s) && eqb (count_by is_point (take m s)) 1) (ltb 1 (length (take m s)))
    (and_left (list_all in_number (take m s)) (eqb (count_by is_point (take m s)) 1)
    (list_all_at in_number (take m s) at 0 (let size = length-take-le m s within in omega arith) (ap in_number (get_or-take m s at 0 below) ∙ other)))

digit_low : (b : ℕ) → in_number b ≡ true → b < 128
digit_low b low = grind (arith, nat_tests)

-- a digit stands within the text
digit_within : (s : List ℕ) (at : ℕ) → is_ascii_digit (get_or s at 0) ≡ true → at < length s
digit_within s at digit = elim (cases_lt at (length s)) [
  | inl below ↦ below
  | inr past ↦ absurd (false≢true (sym (ap is_ascii_digit (get_or_past s at 0 past)) ∙ digit))
]

-- digits behind which neither a digit nor a point stands
pub integer_token : (s : List ℕ) (n : ℕ) → IsUtf8 s → begins_number s ≡ true → n ≡ digits s → (n < length s → get_or s n 0 ≢ 46) → IsToken s kind.Integer n
integer_token s n text begins size stop =
    let within = prefix_len-le-length is_ascii_digit s in
    let first : is_ascii_digit (get_or s 0 0) ≡ true = first_digit (cases_lt 0 n) in
    let some : 0 < n = positive (cases_lt 0 n) first in
    let all : is_integer (take n s) ≡ true =
    ap (λ (k : ℕ). is_integer (take k s)) size
    ∙ and_from (list_all is_ascii_digit (take (digits s) s)) (ltb 0 (length (take (digits s) s))) (all_digits s) (lt-ltb 0 (length (take (digits s) s)) (omega (arith, length-take-le (digits s) s within))) in
    let is : kind_of (take n s) ≡ Some kind.Integer = number_kind s n true (is_decimal_literal (take n s)) begins some (λ no. absurd (both_ways (is_ascii_digit (get_or s 0 0)) no first)) all refl in record {
      longest = record {
        boundary = boundary_behind s n text (omega arith) (λ _. digit_low (get_or s (n - 1) 0) (or_left (is_ascii_digit (get_or s (n - 1) 0)) (is_point (get_or s (n - 1) 0)) (prefix_len_passes is_ascii_digit s (n - 1) 0 (omega arith))));
        token = ap is_some is;
        longest = λ more long cut.
            let other : is_ascii_digit (get_or s n 0) ≡ false =
            ap (λ (k : ℕ). is_ascii_digit (get_or s k 0)) size ∙ prefix_len_stops is_ascii_digit s 0 (let h = cut.0 in omega arith) in
            let no_point : is_point (get_or s n 0) ≡ false = ne_eqb (get_or s n 0) 46 (stop (let h = cut.0 in omega arith)) in
            number_kind s more false false begins (omega arith) (λ no. absurd (both_ways (is_ascii_digit (get_or s 0 0)) no first))
            (no_integer_past s n more long cut.0 other)
            (no_decimal_past s n more long cut.0 (or_from (is_ascii_digit (get_or s n 0)) (is_point (get_or s n 0)) other no_point));
      };
      is = is;
    }
  where
    first_digit : (0 < n) ⊎ (n ≤ 0) → is_ascii_digit (get_or s 0 0) ≡ true
    first_digit (inl some) = prefix_len_passes is_ascii_digit s 0 0 (omega arith)
    first_digit (inr none) = elim (or_cases (is_ascii_digit (get_or s 0 0)) (is_point (get_or s 0 0) && is_ascii_digit (get_or s 1 0)) begins) [
      | inl digit ↦ digit
      | inr point ↦ absurd (no_first s (n) none stop (and_parts (is_point (get_or s 0 0)) (is_ascii_digit (get_or s 1 0)) point).0)
    ]
      where
        no_first : (s : List ℕ) (n : ℕ) → n ≤ 0 → (n < length s → get_or s n 0 ≢ 46) → is_point (get_or s 0 0) ≡ true → ⊥
        no_first [] n none stop point = false≢true point
        no_first (b ∷ bs) n none stop point =
            stop (omega arith) (ap (λ (k : ℕ). get_or (b ∷ bs) k 0) (let e : n ≡ 0 = omega arith in e) ∙ eqb-true b 46 point)

    positive : (0 < n) ⊎ (n ≤ 0) → is_ascii_digit (get_or s 0 0) ≡ true → 0 < n
    positive (inl some) digit = some
    positive (inr none) digit = let more = prefix_len-drop_yes is_ascii_digit s 0 0 (digit_within s 0 digit) digit in omega (arith, more)

-- a front is what stands before a byte of it, that byte, and what stands behind
pub split_front : (s : List ℕ) (at k : ℕ) → at < length s → take (at + 1 + k) s ≡ take at s ++ (get_or s at 0 ∷ take k (drop (at + 1) s))
split_front [] at k within = absurd (omega arith)
split_front (b ∷ bs) zero k within =
    ap (λ (n : ℕ). take n (b ∷ bs)) (let e : 0 + 1 + k ≡ suc k = omega arith in e)
split_front (b ∷ bs) (suc at) k within =
    ap (λ (n : ℕ). take n (b ∷ bs)) (let e : suc at + 1 + k ≡ suc (at + 1 + k) = omega arith in e)
    ∙ ap (λ (t : List ℕ). b ∷ t) (split_front bs at k (omega arith))
    ∙ ap (λ (n : ℕ). b ∷ take at bs ++ (get_or bs at 0 ∷ take k (drop n (b ∷ bs)))) (let e : suc (at + 1) ≡ suc at + 1 = omega arith in e)

-- digits, a point, and as many digits as follow
module _ (s : List ℕ) (w f : ℕ) (text : IsUtf8 s) (begins : begins_number s ≡ true) (whole : w ≡ digits s) (within : w < length s) (point : get_or s w 0 ≡ 46)
    (fraction : f ≡ digits (drop (w + 1) s)) where
  decimal_split : take (w + 1 + f) s ≡ take w s ++ (get_or s w 0 ∷ take f (drop (w + 1) s))
  decimal_split = split_front s w f within

  front_digits : list_all is_ascii_digit (take w s) ≡ true
  front_digits = ap (λ (k : ℕ). list_all is_ascii_digit (take k s)) whole ∙ all_digits s

  rest_digits : list_all is_ascii_digit (take f (drop (w + 1) s)) ≡ true
  rest_digits = ap (λ (k : ℕ). list_all is_ascii_digit (take k (drop (w + 1) s))) fraction ∙ all_digits (drop (w + 1) s)

  is_a_point : is_point (get_or s w 0) ≡ true
  is_a_point = eq-eqb (get_or s w 0) 46 point

  no_digit : is_ascii_digit (get_or s w 0) ≡ false
  no_digit = ap is_ascii_digit point

  decimal_all : list_all in_number (take (w + 1 + f) s) ≡ true
  decimal_all =
      ap (list_all in_number) decimal_split
      ∙ list_all-append in_number (take w s) (get_or s w 0 ∷ take f (drop (w + 1) s))
      ∙ and_from (list_all in_number (take w s)) (in_number (get_or s w 0) && list_all in_number (take f (drop (w + 1) s)))
      (digits_in_number (take w s) front_digits)
      (and_from (in_number (get_or s w 0)) (list_all in_number (take f (drop (w + 1) s))) (or_right (is_ascii_digit (get_or s w 0)) (is_point (get_or s w 0)) is_a_point)
      (digits_in_number (take f (drop (w + 1) s)) rest_digits))

  decimal_count : count_by is_point (take (w + 1 + f) s) ≡ 1
  decimal_count =
      let a = ap (count_by is_point) decimal_split in
      let b = sum_by-append (λ (x : ℕ). cond (is_point x) 1 0) (take w s) (get_or s w 0 ∷ take f (drop (w + 1) s)) in
      let c = one_point (get_or s w 0) (take f (drop (w + 1) s)) is_a_point in
      omega (arith, a, b, c, no_points (take w s) front_digits, no_points (take f (drop (w + 1) s)) rest_digits)

  decimal_within : w + 1 + f ≤ length s
  decimal_within = omega (arith, prefix_len-le-length is_ascii_digit (drop (w + 1) s), length-drop (w + 1) s)

  digit_behind : is_ascii_digit (get_or s 0 0) ≡ false → 1 < w + 1 + f
  digit_behind other = elim (cases_lt 0 w) [
    | inl some ↦ omega arith
    | inr none ↦ elim (or_cases (is_ascii_digit (get_or s 0 0)) (is_point (get_or s 0 0) && is_ascii_digit (get_or s 1 0)) begins) [
      | inl digit ↦ absurd (both_ways (is_ascii_digit (get_or s 0 0)) other digit)
      | inr both ↦
          let second = (and_parts (is_point (get_or s 0 0)) (is_ascii_digit (get_or s 1 0)) both).1 in
          let more = prefix_len-drop_yes is_ascii_digit s 1 0 (digit_within s 1 second) second in
          let e = fraction ∙ ap (λ (n : ℕ). digits (drop n s)) (let z : w + 1 ≡ 1 = omega arith in z) in
          omega (arith, more, e)
    ]
  ]

  size_some : 1 < w + 1 + f
  size_some = elim (cases_Bool (is_ascii_digit (get_or s 0 0))) [
    | inl digit ↦ elim (cases_lt 0 w) [
      | inl some ↦ omega arith
      | inr none ↦
          absurd (both_ways (is_ascii_digit (get_or s 0 0)) (ap (λ (k : ℕ). is_ascii_digit (get_or s k 0)) (let z : 0 ≡ w = omega arith in z) ∙ no_digit) digit)
    ]
    | inr other ↦ digit_behind other
  ]

  decimal_last : get_or s (w + 1 + f - 1) 0 < 128
  decimal_last = elim (cases_lt 0 f) [
    | inl some ↦
        let at : get_or s (w + 1 + f - 1) 0 ≡ get_or (drop (w + 1) s) (f - 1) 0 =
        ap (λ (k : ℕ). get_or s k 0) (let z : w + 1 + f - 1 ≡ w + 1 + (f - 1) = omega arith in z) ∙ sym (get_or-drop (w + 1) s (f - 1) 0) in
        let digit = prefix_len_passes is_ascii_digit (drop (w + 1) s) (f - 1) 0 (omega arith) in
        let low = digit_low (get_or (drop (w + 1) s) (f - 1) 0) (or_left (is_ascii_digit (get_or (drop (w + 1) s) (f - 1) 0)) (is_point (get_or (drop (w + 1) s) (f - 1) 0)) digit) in
        omega arith
    | inr none ↦
        let at : get_or s (w + 1 + f - 1) 0 ≡ get_or s w 0 = ap (λ (k : ℕ). get_or s k 0) (let z : w + 1 + f - 1 ≡ w = omega arith in z) in
        omega arith
  ]

  two_points : (m : ℕ) → w + 1 + f < m → m ≤ length s → is_point (get_or s (w + 1 + f) 0) ≡ true → is_decimal_literal (take m s) ≡ false
  two_points m long up again =
      let n = w + 1 + f in
      let a = ap (λ (k : ℕ). count_by is_point (take k s)) (let z : m ≡ n + 1 + (m - n - 1) = omega arith in z) in
      let b = ap (count_by is_point) (split_front s n (m - n - 1) (omega arith)) in
      let c = sum_by-append (λ (x : ℕ). cond (is_point x) 1 0) (take n s) (get_or s n 0 ∷ take (m - n - 1) (drop (n + 1) s)) in
      let d = one_point (get_or s n 0) (take (m - n - 1) (drop (n + 1) s)) again in
      and_left (list_all in_number (take m s) && eqb (count_by is_point (take m s)) 1) (ltb 1 (length (take m s)))
      (and_right (list_all in_number (take m s)) (eqb (count_by is_point (take m s)) 1) (ne_eqb (count_by is_point (take m s)) 1 (λ one. omega (arith, a, b, c, d, decimal_count, one))))

  no_longer : (m : ℕ) → w + 1 + f < m → m ≤ length s → is_decimal_literal (take m s) ≡ false
  no_longer m long up =
      let n = w + 1 + f in
      let room = length-drop (w + 1) s in
      let other : is_ascii_digit (get_or s n 0) ≡ false =
      ap is_ascii_digit (sym (get_or-drop (w + 1) s f 0))
      ∙ ap (λ (k : ℕ). is_ascii_digit (get_or (drop (w + 1) s) k 0)) fraction
      ∙ prefix_len_stops is_ascii_digit (drop (w + 1) s) 0 (omega arith) in
      elim (cases_Bool (is_point (get_or s n 0))) [
        | inl again ↦ two_points m long up again
        | inr stop ↦ no_decimal_past s n m long up (or_from (is_ascii_digit (get_or s n 0)) (is_point (get_or s n 0)) other stop)
      ]

  pub decimal_token : IsToken s kind.Decimal (w + 1 + f)
  decimal_token =
      let n = w + 1 + f in
      let some = size_some in
      let fits = decimal_within in
      let size = length-take-le n s fits in
      let decimal : is_decimal_literal (take n s) ≡ true =
      and_from (list_all in_number (take n s) && eqb (count_by is_point (take n s)) 1) (ltb 1 (length (take n s)))
      (and_from (list_all in_number (take n s)) (eqb (count_by is_point (take n s)) 1) decimal_all (eq-eqb (count_by is_point (take n s)) 1 decimal_count))
      (lt-ltb 1 (length (take n s)) (omega arith)) in
      let is : kind_of (take n s) ≡ Some kind.Decimal =
      number_kind s n false true begins (omega arith) (λ _. some) (no_integer_past s w n (omega arith) fits no_digit) decimal in record {
        longest = record {
          boundary = boundary_behind s n text fits (λ _. decimal_last);
          token = ap is_some is;
          longest = λ more long cut. number_kind s more false false begins (omega arith) (λ _. omega arith) (no_integer_past s w more (omega arith) cut.0 no_digit) (no_longer more long cut.0);
        };
        is = is;
      }
