-- Marks by the table.
use Rattle.std.proofs.Common.{◌≡◌, ◌≢◌, ℕ, ◌<◌, ◌≤◌, Bool, true, false, ◌&&◌, ◌||◌, not, nat_le, nat_lt, eqb, List, [], ◌∷◌, length, take, get_or, refl, ap, sym, subst, ◌∙◌, inl, inr, arith, length-take, get_or-take}
use Rattle.std.proofs.lemmas.Bool.{and_parts, agree_below_at, or_from, or_parts, or_cases, false≢true, false_from_ne_true, both_ways, not_from_true, cases_lt, cases_eq}
use Rattle.std.proofs.lemmas.Bool.Decides.{nat_tests}
use Rattle.std.proofs.lemmas.List.{length-take-le, get_or_past}
use Rattle.std.proofs.lemmas.Slice.Eq.{bytes_eq-Decides}
use mir.Val.{bool_byte}
use Rattle.std.specs.Char.{is_ascii_digit}
use Rattle.std.specs.List.{list_all, list_any}
use Rattle.std.specs.Prelude.{bytes_eq, codes}
use Rattle.std.specs.Prelude.{Some, is_some}
use Rattle.std.specs.Str.{IsUtf8}
use Rattle.sx_lex.specs.Fronts.{IsLongestFront, IsToken, begins_name, begins_number}
use Rattle.sx_lex.specs.Tokens.{is_mark, is_quote, is_point, mark_texts, kind_of, NoToken}
use Rattle.sx_lex.specs.declared.kinds.TokenKind.TheVariants as kind
use Rattle.sx_lex.proofs.Fronts.{boundary_behind}
use Rattle.sx_lex.proofs.Firsts.{kind_by, kind_is, no_name, no_wild, no_integer, no_number, no_literal}

among : (ms : List (List ℕ)) (passes : List ℕ → Bool) (t : List ℕ) → list_all passes ms ≡ true → list_any (bytes_eq t) ms ≡ true → passes t ≡ true
among [] passes t all any = absurd (false≢true any)
among (m ∷ ms) passes t all any =
    let parts = and_parts (passes m) (list_all passes ms) all in
    elim (or_cases (bytes_eq t m) (list_any (bytes_eq t) ms) any) [
      | inl here ↦ ap passes ((bytes_eq-Decides t m).0 here) ∙ parts.0
      | inr there ↦ among ms passes t parts.1 there
    ]

-- what passes of each mark of the table
pub marked : (passes : List ℕ → Bool) → list_all passes mark_texts ≡ true → (t : List ℕ) → is_mark t ≡ true → passes t ≡ true
unfolding is_mark
marked passes all t mark = among mark_texts passes t all mark

pub unmarked : (passes : List ℕ → Bool) → list_all passes mark_texts ≡ true → (t : List ℕ) → passes t ≡ false → is_mark t ≡ false
unmarked passes all t other = false_from_ne_true (is_mark t) (λ mark. both_ways (passes t) other (marked passes all t mark))

-- no mark begins as a name, a number of digits or a literal does
pub no_mark_by : (begins : ℕ → Bool) → list_all (λ m. not (begins (get_or m 0 0))) mark_texts ≡ true → (t : List ℕ) → begins (get_or t 0 0) ≡ true → is_mark t ≡ false
no_mark_by begins all t so = unmarked (λ m. not (begins (get_or m 0 0))) all t (not_from_true (begins (get_or t 0 0)) so)

-- a mark has one byte or two
long_mark : (s : List ℕ) (more : ℕ) → 2 < more → more ≤ length s → is_mark (take more s) ≡ false
long_mark s more long within =
    unmarked (λ m. nat_le (length m) 2) refl (take more s) (let size = length-take-le more s within in let no : nat_le (length (take more s)) 2 ≡ false = grind (arith, nat_tests) in no)

one : (s : List ℕ) → 1 ≤ length s → take 1 s ≡ get_or s 0 0 ∷ []
one [] some = absurd (omega arith)
one (a ∷ r) some = refl

two : (s : List ℕ) → 2 ≤ length s → take 2 s ≡ get_or s 0 0 ∷ get_or s 1 0 ∷ []
two [] some = absurd (omega arith)
two (a ∷ []) some = absurd (omega arith)
two (a ∷ b ∷ r) some = refl

pub single_table : (b : ℕ) → b < 256 → list_any (λ y. eqb y b) (codes "()[],$@?./|!=<>+-*") ≡ is_mark (b ∷ [])
unfolding is_mark
single_table b low = agree_below_at (λ b. list_any (λ y. eqb y b) (codes "()[],$@?./|!=<>+-*")) (λ b. is_mark (b ∷ [])) 256 b refl low

pub equals_table : (b : ℕ) → b < 256 → list_any (λ y. eqb y b) (codes ":!<>") ≡ is_mark (b ∷ 61 ∷ [])
unfolding is_mark
equals_table b low = agree_below_at (λ b. list_any (λ y. eqb y b) (codes ":!<>")) (λ b. is_mark (b ∷ 61 ∷ [])) 256 b refl low

pub doubled_table : (b : ℕ) → b < 256 → list_any (λ y. eqb y b) (codes "./:|") ≡ is_mark (b ∷ b ∷ [])
unfolding is_mark
doubled_table b low = agree_below_at (λ b. list_any (λ y. eqb y b) (codes "./:|")) (λ b. is_mark (b ∷ b ∷ [])) 256 b refl low

-- two bytes that differ are a mark only where the second is an equals sign
pub apart : (a b : ℕ) → eqb b 61 ≡ false → eqb b a ≡ false → is_mark (a ∷ b ∷ []) ≡ false
apart a b equals same =
    unmarked (λ m. nat_lt (length m) 2 || eqb (get_or m 1 0) 61 || eqb (get_or m 1 0) (get_or m 0 0)) refl (a ∷ b ∷ [])
    (or_from (eqb b 61) (eqb b a) equals same)

-- the bytes of a mark are ASCII
pub mark_ascii : (t : List ℕ) → is_mark t ≡ true → list_all (λ b. nat_lt b 128) t ≡ true
mark_ascii t mark = marked (λ m. list_all (λ b. nat_lt b 128) m) refl t mark

pub double_front : (s : List ℕ) → 2 ≤ length s → is_mark (get_or s 0 0 ∷ get_or s 1 0 ∷ []) ≡ true → IsLongestFront is_mark s 2
double_front s some mark = record {
  within = some;
  ascii = λ _. let parts = mark_ascii (get_or s 0 0 ∷ get_or s 1 0 ∷ []) mark in
      let second = and_parts (nat_lt (get_or s 1 0) 128) true (and_parts (nat_lt (get_or s 0 0) 128) (nat_lt (get_or s 1 0) 128 && true) parts).1 in
      let low : get_or s 1 0 < 128 = grind (arith, nat_tests) in low;
  is = λ _. ap is_mark (two s some) ∙ mark;
  longest = λ more long within. long_mark s more long within;
}

pub single_front : (s : List ℕ) → 1 ≤ length s → is_mark (get_or s 0 0 ∷ []) ≡ true → (2 ≤ length s → is_mark (get_or s 0 0 ∷ get_or s 1 0 ∷ []) ≡ false) → IsLongestFront is_mark s 1
single_front s some mark double = record {
  within = some;
  ascii = λ _. let parts = mark_ascii (get_or s 0 0 ∷ []) mark in
      let first = and_parts (nat_lt (get_or s 0 0) 128) true parts in
      let low : get_or s 0 0 < 128 = grind (arith, nat_tests) in low;
  is = λ _. ap is_mark (one s some) ∙ mark;
  longest = λ more long within. elim (cases_eq more 2) [
    | inl e ↦ ap (λ (k : ℕ). is_mark (take k s)) e ∙ ap is_mark (two s (omega arith)) ∙ double (omega arith)
    | inr e ↦ long_mark s more (omega arith) within
  ];
}

pub no_front : (s : List ℕ) → (1 ≤ length s → is_mark (get_or s 0 0 ∷ []) ≡ false) → (2 ≤ length s → is_mark (get_or s 0 0 ∷ get_or s 1 0 ∷ []) ≡ false) → IsLongestFront is_mark s 0
no_front s single double = record {
  within = omega arith;
  ascii = λ some. absurd (omega arith);
  is = λ some. absurd (omega arith);
  longest = λ more long within. elim (cases_eq more 1) [
    | inl e ↦ ap (λ (k : ℕ). is_mark (take k s)) e ∙ ap is_mark (one s (omega arith)) ∙ single (omega arith)
    | inr other ↦ elim (cases_eq more 2) [
      | inl e ↦ ap (λ (k : ℕ). is_mark (take k s)) e ∙ ap is_mark (two s (omega arith)) ∙ double (omega arith)
      | inr e ↦ long_mark s more (omega arith) within
    ]
  ];
}

-- the front by what is known of its first byte
pub front_by_first : (s : List ℕ) (n : ℕ) → 1 ≤ length s → n ≡ bool_byte (is_mark (get_or s 0 0 ∷ [])) → (2 ≤ length s → is_mark (get_or s 0 0 ∷ get_or s 1 0 ∷ []) ≡ false) → IsLongestFront is_mark s n
front_by_first s n some size double = by (is_mark (get_or s 0 0 ∷ [])) refl size
  where
    by : (v : Bool) → is_mark (get_or s 0 0 ∷ []) ≡ v → n ≡ bool_byte v → IsLongestFront is_mark s n
    by true is e = subst (λ (k : ℕ). IsLongestFront is_mark s k) (sym e) (single_front s some is double)
    by false is e = subst (λ (k : ℕ). IsLongestFront is_mark s k) (sym e) (no_front s (λ _. is) double)

-- a text with which neither a name nor a wildcard, a number or a literal begins
pub record IsBare (s : List ℕ) : Type 0 where
  pub name : begins_name (get_or s 0 0) ≡ false
  pub number : begins_number s ≡ false
  pub literal : is_quote (get_or s 0 0) ≡ false
  pub wild : get_or s 0 0 ≡ 42 → get_or s 1 0 ≢ 58

bare_kind : (s : List ℕ) (m : ℕ) (mark : Bool) → IsBare s → 0 < m → is_mark (take m s) ≡ mark → kind_of (take m s) ≡ kind_by false false false false false mark
bare_kind s m mark bare some is =
    let first = get_or-take m s 0 0 some in
    let name : begins_name (get_or (take m s) 0 0) ≡ false = ap begins_name first ∙ bare.name in
    kind_is (take m s) false false false false false mark
    (no_name (take m s) name)
    (no_wild (take m s) name (λ star colon. elim (cases_lt 1 m) [
      | inl more ↦ bare.wild (sym first ∙ star) (sym (get_or-take m s 1 0 more) ∙ colon)
      | inr one ↦ let past = get_or_past (take m s) 1 0 (omega (arith, length-take m s)) in omega (arith, past, colon)
    ]))
    (no_integer (take m s) (ap is_ascii_digit first ∙ (or_parts (is_ascii_digit (get_or s 0 0)) (is_point (get_or s 0 0) && is_ascii_digit (get_or s 1 0)) bare.number).0))
    (no_number s m some bare.number)
    (no_literal (take m s) (ap is_quote first ∙ bare.literal))
    is

pub mark_none : (s : List ℕ) → IsBare s → IsLongestFront is_mark s 0 → NoToken s
mark_none s bare front = λ size some cut. bare_kind s size false bare some (front.longest size some cut.0)

pub mark_some : (s : List ℕ) (n : ℕ) → IsUtf8 s → IsBare s → 0 < n → IsLongestFront is_mark s n → IsToken s kind.Mark n
mark_some s n text bare some front =
    let is : kind_of (take n s) ≡ Some kind.Mark = bare_kind s n true bare some (front.is some) in record {
      longest = record {
        boundary = boundary_behind s n text front.within front.ascii;
        token = ap is_some is;
        longest = λ more long cut. bare_kind s more false bare (omega arith) (front.longest more long cut.0);
      };
      is = is;
    }
