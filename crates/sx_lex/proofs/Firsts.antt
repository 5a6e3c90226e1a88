-- The kind of a token by its first byte.
use Rattle.std.proofs.Common.{◌≡◌, ◌≢◌, ℕ, ◌-◌, ◌<◌, ◌≤◌, Bool, true, false, ◌&&◌, ◌||◌, cond, eqb, ltb, List, [], ◌∷◌, ◌++◌, length, take, get_or, Option, Some, None, ◌⊎◌, refl, ap, sym, ◌∙◌, inl, inr, arith, get_or-take, length-take}
use Rattle.std.proofs.lemmas.Bool.{and_parts, and_left, and_right, and_cases, or_from, or_parts, ne_eqb, le-ltb, cases_lt, or_cases, agree_below_at, lt-ltb, eqb-true, false≢true, false_from_ne_true, both_ways}
use Rattle.std.proofs.lemmas.Bool.Decides.{nat_tests}
use Rattle.std.proofs.lemmas.Option.{none-some, same_Some}
use Rattle.std.proofs.lemmas.Slice.Eq.{bytes_eq-Decides}
use Rattle.std.proofs.lemmas.List.Sums.{sum_by-cons}
use Rattle.std.specs.Char.{is_ascii_digit}
use Rattle.std.specs.List.{list_all, count_by}
use Rattle.std.specs.Prelude.{bytes_eq, codes}
use Rattle.std.specs.Str.{chars, chars_after}
use Rattle.sx_chars.specs.Names.{is_first, is_further, are_name, is_ncname, is_qname_with, before, behind}
use Rattle.sx_lex.specs.Fronts.{begins_name, begins_number}
use Rattle.sx_lex.specs.Tokens.{is_name, is_wild, are_wild, is_integer, is_point, is_decimal_literal, is_quote, closes, is_literal, is_mark, kind_of}
use Rattle.sx_lex.specs.declared.kinds.TokenKind.{TokenKind}
use Rattle.sx_lex.specs.declared.kinds.TokenKind.TheVariants as kind

-- the kind by the tests of a text
abbrev pub kind_by : Bool → Bool → Bool → Bool → Bool → Bool → Option TokenKind
kind_by name wild integer decimal literal mark =
    cond name (Some kind.Name) (
    cond wild (Some kind.Wild) (
    cond integer (Some kind.Integer) (cond decimal (Some kind.Decimal) (cond literal (Some kind.Str) (cond mark (Some kind.Mark) None)))
    )
    )

pub kind_is : (t : List ℕ) (a b c d e f : Bool) → is_name t ≡ a → is_wild t ≡ b → is_integer t ≡ c → is_decimal_literal t ≡ d → is_literal t ≡ e → is_mark t ≡ f
    → kind_of t ≡ kind_by a b c d e f
unfolding kind_of
kind_is t a b c d e f name wild integer decimal literal mark =
    ap (λ (x : Bool). kind_by x (is_wild t) (is_integer t) (is_decimal_literal t) (is_literal t) (is_mark t)) name
    ∙ ap (λ (x : Bool). kind_by a x (is_integer t) (is_decimal_literal t) (is_literal t) (is_mark t)) wild
    ∙ ap (λ (x : Bool). kind_by a b x (is_decimal_literal t) (is_literal t) (is_mark t)) integer
    ∙ ap (λ (x : Bool). kind_by a b c x (is_literal t) (is_mark t)) decimal
    ∙ ap (λ (x : Bool). kind_by a b c d x (is_mark t)) literal
    ∙ ap (λ (x : Bool). kind_by a b c d e x) mark

-- a byte below 128 is a character
pub chars_head : (b : ℕ) (bs : List ℕ) → b < 128 → chars (b ∷ bs) ≡ b ∷ chars bs
unfolding chars
chars_head b [] ascii =
    ap (λ (v : Bool). chars_after (cond v 0 (cond (ltb b 224) 1 (cond (ltb b 240) 2 3))) (cond v b (cond (ltb b 224) (b - 192) (cond (ltb b 240) (b - 224) (b - 240)))) []) (lt-ltb b 128 ascii)
chars_head b (d ∷ bs) ascii =
    ap (λ (v : Bool). chars_after (cond v 0 (cond (ltb b 224) 1 (cond (ltb b 240) 2 3))) (cond v b (cond (ltb b 224) (b - 192) (cond (ltb b 240) (b - 224) (b - 240)))) (d ∷ bs)) (lt-ltb b 128 ascii)

pub no_empty_name : is_ncname [] ≡ true → ⊥
unfolding chars
no_empty_name h = false≢true h

first_table : (b : ℕ) → b < 128 → begins_name b ≡ is_first b
first_table b ascii = agree_below_at begins_name is_first 128 b refl ascii

-- an NCName begins with a byte that may begin a name
pub ncname_begins : (t : List ℕ) → is_ncname t ≡ true → begins_name (get_or t 0 0) ≡ true
ncname_begins [] name = absurd (no_empty_name name)
ncname_begins (b ∷ bs) name = by (ltb b 128) refl
  where
    by : (v : Bool) → ltb b 128 ≡ v → begins_name b ≡ true
    by true low =
        let ascii : b < 128 = grind (arith, nat_tests) in
        first_table b ascii ∙ (and_parts (is_first b) (list_all is_further (chars bs)) (sym (ap are_name (chars_head b bs ascii)) ∙ name)).0
    by false high = grind (arith, nat_tests)

-- a text whose first colon has this behind it
pub colon_split : (t back : List ℕ) → behind 58 t ≡ Some back → t ≡ before 58 t ++ 58 ∷ back
colon_split [] back found = absurd (none-some back found)
colon_split (b ∷ bs) back found = by (eqb b 58) refl (colon_split bs back)
  where
    by : (v : Bool) → eqb b 58 ≡ v → (behind 58 bs ≡ Some back → bs ≡ before 58 bs ++ 58 ∷ back) → b ∷ bs ≡ before 58 (b ∷ bs) ++ 58 ∷ back
    by true here further =
        let same : bs ≡ back = same_Some bs back (sym (ap (λ (v : Bool). cond v (Some bs) (behind 58 bs)) here) ∙ found) in
        ap (λ (x : ℕ). x ∷ bs) (eqb-true b 58 here) ∙ ap (λ (x : List ℕ). 58 ∷ x) same ∙ ap (λ (v : Bool). cond v [] (b ∷ before 58 bs) ++ 58 ∷ back) (sym here)
    by false there further =
        let rest : behind 58 bs ≡ Some back = sym (ap (λ (v : Bool). cond v (Some bs) (behind 58 bs)) there) ∙ found in
        ap (λ (x : List ℕ). b ∷ x) (further rest) ∙ ap (λ (v : Bool). cond v [] (b ∷ before 58 bs) ++ 58 ∷ back) (sym there)

-- the parts of a name that has a colon
pub record HasParts (t front back : List ℕ) : Type 0 where
  pub whole : t ≡ front ++ 58 ∷ back
  pub prefix : is_ncname front ≡ true
  pub local : is_ncname back ≡ true

pub name_parts : (t : List ℕ) → is_name t ≡ true → (is_ncname t ≡ true) ⊎ ((front : List ℕ) × (back : List ℕ) × HasParts t front back)
name_parts t name = by (behind 58 t) refl name
  where
    by : (o : Option (List ℕ)) → behind 58 t ≡ o → is_qname_with t o ≡ true → (is_ncname t ≡ true) ⊎ ((front : List ℕ) × (back : List ℕ) × HasParts t front back)
    by None e h = inl h
    by (Some back) e h =
        let parts = and_parts (is_ncname (before 58 t)) (is_ncname back) h in
        inr (before 58 t, back, record { whole = colon_split t back e; prefix = parts.0; local = parts.1 })

-- a wildcard's name stands in front of `:*` or behind `*:`
pub wild_parts : (t : List ℕ) → is_wild t ≡ true
    → ((front : List ℕ) × (t ≡ front ++ 58 ∷ 42 ∷ []) × (is_ncname front ≡ true)) ⊎ ((back : List ℕ) × (t ≡ 42 ∷ 58 ∷ back) × (is_ncname back ≡ true))
wild_parts t wild = by (behind 58 t) refl wild
  where
    by : (o : Option (List ℕ)) → behind 58 t ≡ o → are_wild (before 58 t) o ≡ true
        → ((front : List ℕ) × (t ≡ front ++ 58 ∷ 42 ∷ []) × (is_ncname front ≡ true)) ⊎ ((back : List ℕ) × (t ≡ 42 ∷ 58 ∷ back) × (is_ncname back ≡ true))
    by None e h = absurd (false≢true h)
    by (Some back) e h =
        elim (or_cases (is_ncname (before 58 t) && bytes_eq back (codes "*")) (bytes_eq (before 58 t) (codes "*") && is_ncname back) h) [
          | inl p ↦
              let parts = and_parts (is_ncname (before 58 t)) (bytes_eq back (codes "*")) p in
              inl (before 58 t, colon_split t back e ∙ ap (λ (x : List ℕ). before 58 t ++ 58 ∷ x) ((bytes_eq-Decides back (codes "*")).0 parts.1), parts.0)
          | inr p ↦
              let parts = and_parts (bytes_eq (before 58 t) (codes "*")) (is_ncname back) p in
              inr (back, colon_split t back e ∙ ap (λ (x : List ℕ). x ++ 58 ∷ back) ((bytes_eq-Decides (before 58 t) (codes "*")).0 parts.0), parts.1)
        ]

-- what begins otherwise is not of the kind
pub no_ncname : (t : List ℕ) → begins_name (get_or t 0 0) ≡ false → is_ncname t ≡ false
no_ncname t other = false_from_ne_true (is_ncname t) (λ name. both_ways (begins_name (get_or t 0 0)) other (ncname_begins t name))

pub front_head : (front rest : List ℕ) → is_ncname front ≡ true → get_or (front ++ rest) 0 0 ≡ get_or front 0 0
front_head [] rest name = absurd (no_empty_name name)
front_head (b ∷ bs) rest name = refl

pub no_name : (t : List ℕ) → begins_name (get_or t 0 0) ≡ false → is_name t ≡ false
no_name t other = false_from_ne_true (is_name t) (λ name. elim (name_parts t name) [
  | inl own ↦ both_ways (begins_name (get_or t 0 0)) other (ncname_begins t own)
  | inr p ↦
      both_ways (begins_name (get_or t 0 0)) other
      (ap (λ (x : List ℕ). begins_name (get_or x 0 0)) p.2.whole ∙ ap begins_name (front_head p.0 (58 ∷ p.1) p.2.prefix) ∙ ncname_begins p.0 p.2.prefix)
])

pub no_wild : (t : List ℕ) → begins_name (get_or t 0 0) ≡ false → (get_or t 0 0 ≡ 42 → get_or t 1 0 ≢ 58) → is_wild t ≡ false
no_wild t other bare = false_from_ne_true (is_wild t) (λ wild. elim (wild_parts t wild) [
  | inl p ↦
      both_ways (begins_name (get_or t 0 0)) other
      (ap (λ (x : List ℕ). begins_name (get_or x 0 0)) p.1 ∙ ap begins_name (front_head p.0 (58 ∷ 42 ∷ []) p.2) ∙ ncname_begins p.0 p.2)
  | inr p ↦ bare (ap (λ (x : List ℕ). get_or x 0 0) p.1) (ap (λ (x : List ℕ). get_or x 1 0) p.1)
])

pub no_integer : (t : List ℕ) → is_ascii_digit (get_or t 0 0) ≡ false → is_integer t ≡ false
no_integer [] other = refl
no_integer (b ∷ bs) other = ap (λ (v : Bool). (v && list_all is_ascii_digit bs) && ltb 0 (length (b ∷ bs))) other

pub no_decimal : (t : List ℕ) → is_ascii_digit (get_or t 0 0) ≡ false → is_point (get_or t 0 0) ≡ false → is_decimal_literal t ≡ false
no_decimal [] other point = refl
no_decimal (b ∷ bs) other point =
    ap (λ (v : Bool). ((v || is_point b) && list_all (λ c. is_ascii_digit c || is_point c) bs) && eqb (count_by is_point (b ∷ bs)) 1 && ltb 1 (length (b ∷ bs))) other
    ∙ ap (λ (v : Bool). (v && list_all (λ c. is_ascii_digit c || is_point c) bs) && eqb (count_by is_point (b ∷ bs)) 1 && ltb 1 (length (b ∷ bs))) point

pub no_literal : (t : List ℕ) → is_quote (get_or t 0 0) ≡ false → is_literal t ≡ false
no_literal [] other = refl
no_literal (b ∷ bs) other = ap (λ (v : Bool). v && closes b bs) other

-- a point without a digit behind it begins no number
points : (b d : ℕ) (r : List ℕ) → is_point b ≡ true → is_point d ≡ true → eqb (count_by is_point (b ∷ d ∷ r)) 1 ≡ false
points b d r first second =
    let e = sum_by-cons (λ (x : ℕ). cond (is_point x) 1 0) b (d ∷ r) in
    let f = sum_by-cons (λ (x : ℕ). cond (is_point x) 1 0) d r in
    let g : ◌≡◌ {A = ℕ} (cond (is_point b) 1 0) 1 = ap {B = ℕ} (λ (v : Bool). cond v 1 0) first in
    let h : ◌≡◌ {A = ℕ} (cond (is_point d) 1 0) 1 = ap {B = ℕ} (λ (v : Bool). cond v 1 0) second in
    ne_eqb (count_by is_point (b ∷ d ∷ r)) 1 (λ same. omega (arith, e, f, g, h, same))

short_decimal : (t : List ℕ) → length t ≤ 1 → is_decimal_literal t ≡ false
short_decimal t short =
    and_right (list_all (λ c. is_ascii_digit c || is_point c) t && eqb (count_by is_point t) 1) (ltb 1 (length t)) (le-ltb 1 (length t) short)

bare_point : (t : List ℕ) → is_ascii_digit (get_or t 0 0) ≡ false → (is_point (get_or t 0 0) && is_ascii_digit (get_or t 1 0)) ≡ false → is_decimal_literal t ≡ false
bare_point [] other bare = refl
bare_point (b ∷ []) other bare = short_decimal (b ∷ []) (omega arith)
bare_point (b ∷ d ∷ r) other bare = elim (and_cases (is_point b) (is_ascii_digit d) bare) [
  | inl point ↦ no_decimal (b ∷ d ∷ r) other point
  | inr digit ↦ by (is_point d) refl digit
]
  where
    rest : Bool
    rest = list_all (λ c. is_ascii_digit c || is_point c) r

    by : (v : Bool) → is_point d ≡ v → is_ascii_digit d ≡ false → is_decimal_literal (b ∷ d ∷ r) ≡ false
    by false e digit =
        and_left ((list_all (λ c. is_ascii_digit c || is_point c) (b ∷ d ∷ r)) && eqb (count_by is_point (b ∷ d ∷ r)) 1) (ltb 1 (length (b ∷ d ∷ r)))
        (and_left (list_all (λ c. is_ascii_digit c || is_point c) (b ∷ d ∷ r)) (eqb (count_by is_point (b ∷ d ∷ r)) 1)
        (and_right (is_ascii_digit b || is_point b) ((is_ascii_digit d || is_point d) && list_all (λ c. is_ascii_digit c || is_point c) r)
        (and_left (is_ascii_digit d || is_point d) (list_all (λ c. is_ascii_digit c || is_point c) r) (or_from (is_ascii_digit d) (is_point d) digit e))))
    by true e digit = first (is_point b) refl
      where
        first : (v : Bool) → is_point b ≡ v → is_decimal_literal (b ∷ d ∷ r) ≡ false
        first false f = no_decimal (b ∷ d ∷ r) other f
        first true f =
            and_left (list_all (λ c. is_ascii_digit c || is_point c) (b ∷ d ∷ r) && eqb (count_by is_point (b ∷ d ∷ r)) 1) (ltb 1 (length (b ∷ d ∷ r)))
            (and_right (list_all (λ c. is_ascii_digit c || is_point c) (b ∷ d ∷ r)) (eqb (count_by is_point (b ∷ d ∷ r)) 1) (points b d r f e))

-- no front of a text is a number that does not begin with one
pub no_number : (s : List ℕ) (m : ℕ) → 0 < m → begins_number s ≡ false → is_decimal_literal (take m s) ≡ false
no_number s m some other =
    let parts = or_parts (is_ascii_digit (get_or s 0 0)) (is_point (get_or s 0 0) && is_ascii_digit (get_or s 1 0)) other in
    elim (cases_lt 1 m) [
      | inl more ↦
          bare_point (take m s) (ap is_ascii_digit (get_or-take m s 0 0 some) ∙ parts.0)
          (ap (λ (x : ℕ). is_point x && is_ascii_digit (get_or (take m s) 1 0)) (get_or-take m s 0 0 some)
          ∙ ap (λ (x : ℕ). is_point (get_or s 0 0) && is_ascii_digit x) (get_or-take m s 1 0 more)
          ∙ parts.1)
      | inr one ↦ short_decimal (take m s) (omega (arith, length-take m s))
    ]
