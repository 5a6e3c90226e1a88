-- Names and wildcards, by the colons in a text.
use Rattle.std.proofs.Common.{◌≡◌, ◌≢◌, ℕ, suc, ◌+◌, ◌-◌, ◌<◌, ◌≤◌, Bool, true, false, ◌&&◌, ◌||◌, cond, eqb, not, List, [], ◌∷◌, ◌++◌, length, take, drop, get_or, Some, None, ◌⊎◌, refl, ap, sym, subst, ◌∙◌, inl, inr, arith, length-drop, length-take, length-append, get_or-drop, get_or-take, append_assoc}
use Rattle.std.proofs.lemmas.Bool.{or_from, le-ltb, and_from, or_left, or_right, ne_eqb, false≢true, false_from_ne_true, both_ways, cases_lt, cases_eq}
use Rattle.std.proofs.lemmas.Bool.Decides.{nat_tests}
use Rattle.std.proofs.lemmas.List.{take_at, drop_at, take-take, get_or_at, length-take-le, drop-take, drop_more}
use Rattle.std.proofs.lemmas.Str.{IsUtf8-take, IsUtf8-drop, IsCharBoundary-before_ascii, IsCharBoundary-after_ascii, IsCharBoundary-from_rest, IsCharBoundary-start}
use Rattle.std.specs.Char.{is_ascii_digit}
use Rattle.std.specs.Prelude.{bytes_eq, codes, is_some, nat_lt}
use Rattle.std.specs.Str.{IsCharBoundary, IsUtf8, chars}
use Rattle.sx_chars.specs.Names.{is_ncname, is_qname_with, before, behind}
use Rattle.sx_lex.specs.Fronts.{IsTextFront, IsToken, begins_name}
use Rattle.sx_lex.specs.Tokens.{is_name, is_wild, are_wild, is_mark, is_point, is_quote, kind_of, NoToken}
use Rattle.sx_lex.specs.declared.kinds.TokenKind.TheVariants as kind
use Rattle.sx_lex.proofs.Digits.{split_front}
use Rattle.sx_lex.proofs.Firsts.{kind_by, kind_is, name_parts, wild_parts, no_empty_name, front_head, ncname_begins, no_ncname, no_name, no_integer, no_decimal, no_literal}
use Rattle.sx_lex.proofs.Fronts.{boundary_of_rest}
use Rattle.sx_lex.proofs.Runs.{no_colon}
use Rattle.sx_lex.proofs.Table.{no_mark_by, unmarked}

-- the parts of a text round its first colon
no_colon_behind : (t : List ℕ) → ((at : ℕ) → at < length t → get_or t at 0 ≢ 58) → behind 58 t ≡ None
no_colon_behind [] free = refl
no_colon_behind (b ∷ bs) free =
    ap (λ (v : Bool). cond v (Some bs) (behind 58 bs)) (ne_eqb b 58 (free 0 (omega arith))) ∙ no_colon_behind bs (λ at below. free (suc at) (omega arith))

joined_behind : (front back : List ℕ) → ((at : ℕ) → at < length front → get_or front at 0 ≢ 58) → behind 58 (front ++ 58 ∷ back) ≡ Some back
joined_behind [] back free = refl
joined_behind (b ∷ bs) back free =
    ap (λ (v : Bool). cond v (Some (bs ++ 58 ∷ back)) (behind 58 (bs ++ 58 ∷ back))) (ne_eqb b 58 (free 0 (omega arith)))
    ∙ joined_behind bs back (λ at below. free (suc at) (omega arith))

joined_before : (front back : List ℕ) → ((at : ℕ) → at < length front → get_or front at 0 ≢ 58) → before 58 (front ++ 58 ∷ back) ≡ front
joined_before [] back free = refl
joined_before (b ∷ bs) back free =
    ap (λ (v : Bool). cond v [] (b ∷ before 58 (bs ++ 58 ∷ back))) (ne_eqb b 58 (free 0 (omega arith)))
    ∙ ap (λ (x : List ℕ). b ∷ x) (joined_before bs back (λ at below. free (suc at) (omega arith)))

-- a name, two joined by a colon, and a name with `:*` behind it
single_name : (t : List ℕ) → IsUtf8 t → is_ncname t ≡ true → is_name t ≡ true
single_name t text name = ap (is_qname_with t) (no_colon_behind t (λ at below. no_colon t at text name below)) ∙ name

joined_name : (front back : List ℕ) → IsUtf8 front → is_ncname front ≡ true → is_ncname back ≡ true → is_name (front ++ 58 ∷ back) ≡ true
joined_name front back text name local =
    let free = λ (at : ℕ) (below : at < length front). no_colon front at text name below in
    ap (is_qname_with (front ++ 58 ∷ back)) (joined_behind front back free)
    ∙ ap (λ (x : List ℕ). is_ncname x && is_ncname back) (joined_before front back free)
    ∙ and_from (is_ncname front) (is_ncname back) name local

joined_wild : (front : List ℕ) → IsUtf8 front → is_ncname front ≡ true → is_wild (front ++ 58 ∷ 42 ∷ []) ≡ true
joined_wild front text name =
    let back : List ℕ = 42 ∷ [] in
    let free = λ (at : ℕ) (below : at < length front). no_colon front at text name below in
    ap (are_wild (before 58 (front ++ 58 ∷ back))) (joined_behind front back free)
    ∙ ap (λ (x : List ℕ). are_wild x (Some back)) (joined_before front back free)
    ∙ or_left (is_ncname front && bytes_eq back (codes "*")) (bytes_eq front (codes "*") && is_ncname back) (and_from (is_ncname front) true name refl)

starred_wild : (back : List ℕ) → is_ncname back ≡ true → is_wild (42 ∷ 58 ∷ back) ≡ true
starred_wild back name = or_right (is_ncname (42 ∷ []) && bytes_eq back (codes "*")) (is_ncname back) name

-- a front with a colon behind a name has it behind the longest name
pub record HasColon (s back : List ℕ) (n m : ℕ) : Type 0 where
  pub colon : get_or s n 0 ≡ 58
  pub room : n + 1 ≤ m
  pub rest : back ≡ take (m - (n + 1)) (drop (n + 1) s)

colon_at : (s : List ℕ) (n m : ℕ) (front back : List ℕ) → IsUtf8 s → IsTextFront is_ncname s n → IsCharBoundary s m → take m s ≡ front ++ 58 ∷ back → is_ncname front ≡ true → HasColon s back n m
colon_at s n m front back text longest cut split name = subst (λ (k : ℕ). HasColon s back k m) same record {
  colon = colon;
  room = omega (arith, below);
  rest = sym (drop_at (front ++ 58 ∷ []) back (length front + 1) (omega (arith, length-append front (58 ∷ [])))) ∙ ap (drop (length front + 1)) (sym whole)
      ∙ ap (λ (k : ℕ). drop (length front + 1) (take k s)) (let e : m ≡ length front + 1 + (m - (length front + 1)) = omega (arith, below) in e)
      ∙ drop-take (length front + 1) (m - (length front + 1)) s;
}
  where
    size : length (take m s) ≡ m
    size = length-take-le m s cut.0

    below : length front < m
    below = omega (arith, size, ap length split, length-append front (58 ∷ back))

    whole : take m s ≡ (front ++ 58 ∷ []) ++ back
    whole = split ∙ sym (append_assoc front (58 ∷ []) back)

    colon : get_or s (length front) 0 ≡ 58
    colon = sym (get_or-take m s (length front) 0 below) ∙ ap (λ (t : List ℕ). get_or t (length front) 0) split ∙ get_or_at front 58 back 0 (length front) refl

    piece : take (length front) s ≡ front
    piece = sym (take-take (length front) m s (omega (arith, below))) ∙ ap (take (length front)) split ∙ take_at front (58 ∷ back) (length front) refl

    boundary : IsCharBoundary s (length front)
    boundary = IsCharBoundary-before_ascii s (length front) (let h = cut.0 in omega (arith, below)) (omega (arith, colon))

    same : length front ≡ n
    same = elim (cases_lt n (length front)) [
      | inl more ↦ absurd (both_ways (is_ncname (take (length front) s)) (longest.longest (length front) more boundary) (ap is_ncname piece ∙ name))
      | inr most ↦ elim (cases_eq (length front) n) [
        | inl e ↦ e
        | inr other ↦
            absurd (no_colon (take n s) (length front) (IsUtf8-take s n text longest.boundary) (longest.is (omega arith)) (omega (arith, length-take-le n s longest.boundary.0))
            (get_or-take n s (length front) 0 (omega arith) ∙ colon))
      ]
    ]

-- the kind of a text that begins as a name does
word_kind : (s : List ℕ) (m : ℕ) (name wild : Bool) → begins_name (get_or s 0 0) ≡ true → 0 < m → is_name (take m s) ≡ name → is_wild (take m s) ≡ wild
    → kind_of (take m s) ≡ kind_by name wild false false false false
word_kind s m name wild begins some n w =
    let begin : begins_name (get_or (take m s) 0 0) ≡ true = ap begins_name (get_or-take m s 0 0 some) ∙ begins in
    let b = get_or (take m s) 0 0 in
    kind_is (take m s) name wild false false false false n w
    (no_integer (take m s) (no_digit b begin))
    (no_decimal (take m s) (no_digit b begin) (no_point b begin))
    (no_literal (take m s) (no_quote b begin))
    (no_mark_by begins_name refl (take m s) begin)
  where
    no_digit : (b : ℕ) → begins_name b ≡ true → is_ascii_digit b ≡ false
    no_digit b begin = grind (arith, nat_tests)

    no_point : (b : ℕ) → begins_name b ≡ true → is_point b ≡ false
    no_point b begin = grind (arith, nat_tests)

    no_quote : (b : ℕ) → begins_name b ≡ true → is_quote b ≡ false
    no_quote b begin = grind (arith, nat_tests)

-- no name is longer than the longest NCName, or that, a colon and a local name of so many bytes
name_ends : (s : List ℕ) (n m : ℕ) → IsUtf8 s → IsTextFront is_ncname s n → IsCharBoundary s m → n < m
    → ((back : List ℕ) → HasColon s back n m → is_ncname back ≡ true → ⊥) → is_name (take m s) ≡ false
name_ends s n m text longest cut long no_local = false_from_ne_true (is_name (take m s)) (λ name. elim (name_parts (take m s) name) [
  | inl own ↦ both_ways (is_ncname (take m s)) (longest.longest m long cut) own
  | inr p ↦ no_local p.1 (colon_at s n m p.0 p.1 text longest cut p.2.whole p.2.prefix) p.2.local
])

wild_ends : (s : List ℕ) (n m : ℕ) → IsUtf8 s → begins_name (get_or s 0 0) ≡ true → IsTextFront is_ncname s n → IsCharBoundary s m → 0 < m
    → (HasColon s (42 ∷ []) n m → ⊥) → is_wild (take m s) ≡ false
wild_ends s n m text begins longest cut some no_star = false_from_ne_true (is_wild (take m s)) (λ wild. elim (wild_parts (take m s) wild) [
  | inl p ↦ no_star (colon_at s n m p.0 (42 ∷ []) text longest cut p.1 p.2)
  | inr p ↦
      let star : get_or s 0 0 ≡ 42 = sym (get_or-take m s 0 0 some) ∙ ap (λ (t : List ℕ). get_or t 0 0) p.1 in
      false≢true (sym (ap begins_name star) ∙ begins)
])

-- what stands behind the colon is no name where none is longer than so many bytes
module _ (s : List ℕ) (n m k : ℕ) (back : List ℕ) (local : IsTextFront is_ncname (drop (n + 1) s) k) (cut : IsCharBoundary s m) (long : n + 1 + k < m) where
  pub no_local : HasColon s back n m → is_ncname back ≡ true → ⊥
  no_local at name =
      both_ways (is_ncname (take (m - (n + 1)) (drop (n + 1) s)))
      (local.longest (m - (n + 1)) (omega arith) (boundary_of_rest s (n + 1) m (omega arith) cut))
      (ap is_ncname (sym at.rest) ∙ name)

no_local_at_all : (s back : List ℕ) (n m : ℕ) → IsTextFront is_ncname (drop (n + 1) s) 0 → IsCharBoundary s m → HasColon s back n m → is_ncname back ≡ true → ⊥
no_local_at_all s back n m local cut at name = elim (cases_lt (n + 1) m) [
  | inl more ↦ no_local s n m 0 back local cut (omega arith) at name
  | inr none ↦
      let room = at.room in
      no_empty_name (ap is_ncname (sym (at.rest ∙ ap (λ (k : ℕ). take k (drop (n + 1) s)) (let e : m - (n + 1) ≡ 0 = omega arith in e))) ∙ name)
]

-- no name begins with an asterisk
star_front : (t : List ℕ) → IsUtf8 t → get_or t 0 0 ≡ 42 → IsTextFront is_ncname t 0
star_front t text star = record {
  boundary = IsCharBoundary-start t text;
  is = λ some. absurd (omega arith);
  longest = λ more long cut. no_ncname (take more t) (ap begins_name (get_or-take more t 0 0 long ∙ star));
}

star_behind : (s : List ℕ) (n m : ℕ) → m ≤ length s → HasColon s (42 ∷ []) n m → (m ≡ n + 2) × (get_or s (n + 1) 0 ≡ 42)
star_behind s n m within at =
    let room = at.room in
    let size : m ≡ n + 2 = omega (arith, ap length at.rest, length-take (m - (n + 1)) (drop (n + 1) s), length-drop (n + 1) s) in
    let byte : get_or s (n + 1) 0 ≡ 42 =
    ap (λ (k : ℕ). get_or s k 0) (let e : n + 1 ≡ n + 1 + 0 = omega arith in e)
    ∙ sym (get_or-drop (n + 1) s 0 0)
    ∙ sym (get_or-take (m - (n + 1)) (drop (n + 1) s) 0 0 (omega arith))
    ∙ ap (λ (t : List ℕ). get_or t 0 0) (sym at.rest) in
    (size, byte)

no_colon_first : (s : List ℕ) → begins_name (get_or s 0 0) ≡ true → get_or s 0 0 ≡ 58 → ⊥
no_colon_first s begins colon = false≢true (sym (ap begins_name colon) ∙ begins)

-- no token begins where no name does
pub name_none : (s : List ℕ) → IsUtf8 s → begins_name (get_or s 0 0) ≡ true → IsTextFront is_ncname s 0 → NoToken s
name_none s text begins none = λ size some cut.
    word_kind s size false false begins some
    (name_ends s 0 size text none cut some (λ back at local. no_colon_first s begins at.colon))
    (wild_ends s 0 size text begins none cut some (λ at. no_colon_first s begins at.colon))

-- a name without a colon
pub single_token : (s : List ℕ) (n : ℕ) → IsUtf8 s → begins_name (get_or s 0 0) ≡ true → IsTextFront is_ncname s n → 0 < n
    → (get_or s n 0 ≡ 58 → IsTextFront is_ncname (drop (n + 1) s) 0) → (n + 1 < length s → get_or s n 0 ≡ 58 → get_or s (n + 1) 0 ≢ 42) → IsToken s kind.Name n
single_token s n text begins front some local star =
    let is : kind_of (take n s) ≡ Some kind.Name =
    word_kind s n true (is_wild (take n s)) begins some (single_name (take n s) (IsUtf8-take s n text front.boundary) (front.is some)) refl in record {
      longest = record {
        boundary = front.boundary;
        token = ap is_some is;
        longest = λ more long cut.
            word_kind s more false false begins (omega arith)
            (name_ends s n more text front cut long (λ back at name. no_local_at_all s back n more (local at.colon) cut at name))
            (wild_ends s n more text begins front cut (omega arith) (λ at. let p = star_behind s n more cut.0 at in star (let h = cut.0 in omega (arith, p.0)) at.colon p.1));
      };
      is = is;
    }

-- two names joined by a colon
pub joined_token : (s : List ℕ) (n k : ℕ) → IsUtf8 s → begins_name (get_or s 0 0) ≡ true → IsTextFront is_ncname s n → 0 < n
    → n < length s → get_or s n 0 ≡ 58 → IsTextFront is_ncname (drop (n + 1) s) k → 0 < k → IsToken s kind.Name (n + 1 + k)
joined_token s n k text begins front some within colon local more =
    let split : take (n + 1 + k) s ≡ take n s ++ 58 ∷ take k (drop (n + 1) s) =
    split_front s n k within ∙ ap (λ (b : ℕ). take n s ++ b ∷ take k (drop (n + 1) s)) colon in
    let name : is_name (take (n + 1 + k) s) ≡ true =
    ap is_name split ∙ joined_name (take n s) (take k (drop (n + 1) s)) (IsUtf8-take s n text front.boundary) (front.is some) (local.is more) in
    let is : kind_of (take (n + 1 + k) s) ≡ Some kind.Name = word_kind s (n + 1 + k) true (is_wild (take (n + 1 + k) s)) begins (omega arith) name refl in record {
      longest = record {
        boundary = IsCharBoundary-from_rest s (n + 1) k (omega arith) local.boundary;
        token = ap is_some is;
        longest = λ m long cut.
            word_kind s m false false begins (omega arith)
            (name_ends s n m text front cut (omega arith) (λ back at name. no_local s n m k back local cut long at name))
            (wild_ends s n m text begins front cut (omega arith) (λ at. let p = star_behind s n m cut.0 at in omega (arith, p.0)));
      };
      is = is;
    }

-- a name and `:*`
pub any_local_token : (s : List ℕ) (n : ℕ) → IsUtf8 s → begins_name (get_or s 0 0) ≡ true → IsTextFront is_ncname s n → 0 < n
    → n + 1 < length s → get_or s n 0 ≡ 58 → get_or s (n + 1) 0 ≡ 42 → IsToken s kind.Wild (n + 2)
any_local_token s n text begins front some within colon star =
    let after : IsCharBoundary s (n + 2) = subst (λ (k : ℕ). IsCharBoundary s k) (omega arith) (IsCharBoundary-after_ascii s (n + 1) text within (omega arith)) in
    let at_colon : IsCharBoundary s (n + 1) = IsCharBoundary-after_ascii s n text (omega arith) (omega arith) in
    let none : IsTextFront is_ncname (drop (n + 1) s) 0 =
    star_front (drop (n + 1) s) (IsUtf8-drop s (n + 1) text at_colon)
    (get_or-drop (n + 1) s 0 0 ∙ ap (λ (k : ℕ). get_or s k 0) (let e : n + 1 + 0 ≡ n + 1 = omega arith in e) ∙ star) in
    let one : take 1 (drop (n + 1) s) ≡ 42 ∷ [] = ap (take 1) (drop_more s (n + 1) 0 within) ∙ ap (λ (b : ℕ). b ∷ []) star in
    let split : take (n + 2) s ≡ take n s ++ 58 ∷ 42 ∷ [] =
    ap (λ (k : ℕ). take k s) (let e : n + 2 ≡ n + 1 + 1 = omega arith in e)
    ∙ split_front s n 1 (omega arith)
    ∙ ap (λ (t : List ℕ). take n s ++ get_or s n 0 ∷ t) one
    ∙ ap (λ (b : ℕ). take n s ++ b ∷ 42 ∷ []) colon in
    let no_name : (m : ℕ) → n < m → IsCharBoundary s m → is_name (take m s) ≡ false = λ m long cut.
    name_ends s n m text front cut long (λ back at name. no_local_at_all s back n m none cut at name) in
    let wild : is_wild (take (n + 2) s) ≡ true = ap is_wild split ∙ joined_wild (take n s) (IsUtf8-take s n text front.boundary) (front.is some) in
    let is : kind_of (take (n + 2) s) ≡ Some kind.Wild = word_kind s (n + 2) false true begins (omega arith) (no_name (n + 2) (omega arith) after) wild in record {
      longest = record {
        boundary = after;
        token = ap is_some is;
        longest = λ m long cut.
            word_kind s m false false begins (omega arith) (no_name m (omega arith) cut)
            (wild_ends s n m text begins front cut (omega arith) (λ at. let p = star_behind s n m cut.0 at in omega (arith, p.0)));
      };
      is = is;
    }

-- the kind of a text that begins with `*:`
starred_kind : (s : List ℕ) (m : ℕ) (wild : Bool) → get_or s 0 0 ≡ 42 → 1 < m → m ≤ length s → is_wild (take m s) ≡ wild → kind_of (take m s) ≡ kind_by false wild false false false false
starred_kind s m wild star more within w =
    let first : get_or (take m s) 0 0 ≡ 42 = get_or-take m s 0 0 (omega arith) ∙ star in
    let size = length-take-le m s within in
    kind_is (take m s) false wild false false false false
    (no_name (take m s) (ap begins_name first))
    w
    (no_integer (take m s) (ap is_ascii_digit first))
    (no_decimal (take m s) (ap is_ascii_digit first) (ap is_point first))
    (no_literal (take m s) (ap is_quote first))
    (unmarked (λ t. nat_lt (length t) 2 || not (eqb (get_or t 0 0) 42)) refl (take m s)
    (or_from (nat_lt (length (take m s)) 2) (not (eqb (get_or (take m s) 0 0) 42)) (le-ltb (length (take m s)) 2 (omega arith)) (ap (λ (b : ℕ). not (eqb b 42)) first)))

-- a wildcard that begins with `*:` has a name behind that
starred_parts : (s : List ℕ) (m : ℕ) → get_or s 0 0 ≡ 42 → 0 < m → is_wild (take m s) ≡ true → (back : List ℕ) × (take m s ≡ 42 ∷ 58 ∷ back) × (is_ncname back ≡ true)
starred_parts s m star some wild = elim (wild_parts (take m s) wild) [
  | inl p ↦
      absurd (
      both_ways (begins_name (get_or p.0 0 0))
      (ap begins_name (sym (front_head p.0 (58 ∷ 42 ∷ []) p.2) ∙ ap (λ (t : List ℕ). get_or t 0 0) (sym p.1) ∙ get_or-take m s 0 0 some ∙ star))
      (ncname_begins p.0 p.2)
      )
  | inr p ↦ p
]

starred_ends : (s : List ℕ) (m k : ℕ) → get_or s 0 0 ≡ 42 → 1 < m → (2 + k < m) ⊎ (k ≡ 0) → IsCharBoundary s m → IsTextFront is_ncname (drop 2 s) k → is_wild (take m s) ≡ false
starred_ends s m k star more long cut local = false_from_ne_true (is_wild (take m s)) (λ wild.
    let p = starred_parts s m star (omega arith) wild in
    let rest : p.0 ≡ take (m - 2) (drop 2 s) =
    ap (drop 2) (sym p.1) ∙ ap (λ (n : ℕ). drop 2 (take n s)) (let e : m ≡ 2 + (m - 2) = omega arith in e) ∙ drop-take 2 (m - 2) s in
    elim (cases_lt k (m - 2)) [
      | inl past ↦
          both_ways (is_ncname (take (m - 2) (drop 2 s))) (local.longest (m - 2) past (boundary_of_rest s 2 m (omega arith) cut)) (ap is_ncname (sym rest) ∙ p.2)
      | inr short ↦
          let none : m - 2 ≡ 0 = elim long [ inl l ↦ omega arith | inr z ↦ omega arith ] in
          no_empty_name (ap is_ncname (sym (rest ∙ ap (λ (n : ℕ). take n (drop 2 s)) none)) ∙ p.2)
    ])

asterisk : kind_of (42 ∷ []) ≡ Some kind.Mark
unfolding kind_of is_mark chars
asterisk = refl

one_byte : (s : List ℕ) → get_or s 0 0 ≡ 42 → take 1 s ≡ 42 ∷ []
one_byte [] star = absurd (let e : ◌≡◌ {A = ℕ} 0 42 = star in omega arith)
one_byte (b ∷ bs) star = ap (λ (x : ℕ). x ∷ []) star

two_bytes : (s : List ℕ) (k : ℕ) → get_or s 0 0 ≡ 42 → get_or s 1 0 ≡ 58 → take (2 + k) s ≡ 42 ∷ 58 ∷ take k (drop 2 s)
two_bytes [] k star colon = absurd (let e : ◌≡◌ {A = ℕ} 0 42 = star in omega arith)
two_bytes (a ∷ []) k star colon = absurd (let e : ◌≡◌ {A = ℕ} 0 58 = colon in omega arith)
two_bytes (a ∷ b ∷ r) k star colon =
    ap (λ (n : ℕ). take n (a ∷ b ∷ r)) (let e : 2 + k ≡ suc (suc k) = omega arith in e) ∙ ap (λ (x : ℕ). x ∷ b ∷ take k r) star ∙ ap (λ (x : ℕ). 42 ∷ x ∷ take k r) colon

pub two_within : (s : List ℕ) → get_or s 1 0 ≡ 58 → 2 ≤ length s
two_within [] colon = absurd (let e : ◌≡◌ {A = ℕ} 0 58 = colon in omega arith)
two_within (a ∷ []) colon = absurd (let e : ◌≡◌ {A = ℕ} 0 58 = colon in omega arith)
two_within (a ∷ b ∷ r) colon = omega arith

-- an asterisk in front of a colon that no name follows
pub asterisk_token : (s : List ℕ) → IsUtf8 s → get_or s 0 0 ≡ 42 → get_or s 1 0 ≡ 58 → IsTextFront is_ncname (drop 2 s) 0 → IsToken s kind.Mark 1
asterisk_token s text star colon local =
    let is : kind_of (take 1 s) ≡ Some kind.Mark = ap kind_of (one_byte s star) ∙ asterisk in
    let within = two_within s colon in record {
      longest = record {
        boundary = IsCharBoundary-after_ascii s 0 text (omega arith) (omega arith);
        token = ap is_some is;
        longest = λ m long cut. starred_kind s m false star long cut.0 (starred_ends s m 0 star long (inr refl) cut local);
      };
      is = is;
    }

-- `*:` and a name
pub any_prefix_token : (s : List ℕ) (k : ℕ) → IsUtf8 s → get_or s 0 0 ≡ 42 → get_or s 1 0 ≡ 58 → IsTextFront is_ncname (drop 2 s) k → 0 < k → IsToken s kind.Wild (2 + k)
any_prefix_token s k text star colon local some =
    let within = two_within s colon in
    let boundary : IsCharBoundary s (2 + k) = IsCharBoundary-from_rest s 2 k within local.boundary in
    let wild : is_wild (take (2 + k) s) ≡ true = ap is_wild (two_bytes s k star colon) ∙ starred_wild (take k (drop 2 s)) (local.is some) in
    let is : kind_of (take (2 + k) s) ≡ Some kind.Wild = starred_kind s (2 + k) true star (omega arith) boundary.0 wild in record {
      longest = record {
        boundary = boundary;
        token = ap is_some is;
        longest = λ m long cut. starred_kind s m false star (omega arith) cut.0 (starred_ends s m k star (omega arith) (inl long) cut local);
      };
      is = is;
    }
