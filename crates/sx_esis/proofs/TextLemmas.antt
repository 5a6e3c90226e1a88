-- A text that is UTF-8 is so without its escapes too.
use Rattle.std.proofs.Common.{◌≡◌, ℕ, ◌+◌, ◌<◌, ◌≤◌, Bool, true, false, not, ◌&&◌, List, [], ◌∷◌, ◌++◌, length, drop, get_or, Option, Some, None, Result, Ok, Err, refl, ap, sym, ◌∙◌, subst, cond, eqb, ltb, arith, append-nil}
use Rattle.std.proofs.lemmas.Bool.{eqb-true, ltb-true, false_from_ne_true, false≢true, and_parts, and_right}
use Rattle.std.proofs.lemmas.Bool.Decides.{nat_tests}
use Rattle.std.proofs.lemmas.List.{drop_more}
use Rattle.std.proofs.lemmas.List.Folds.{list_all-append}
use Rattle.std.proofs.lemmas.List.Recursion.{and_from_places}
use Rattle.std.proofs.lemmas.Str.{IsUtf8-nil, IsUtf8-append, IsUtf8-encode, encode_ascii, inside_one, length-encode, len_utf8_bounds}
use Rattle.std.specs.Char.{encode_utf8, IsScalar}
use Rattle.std.specs.List.{list_all}
use Rattle.std.specs.Str.{IsUtf8, all_scalars, encode_utf8_all}
use lib.Utf8.{scalar}
use Rattle.sx_esis.specs.Escapes.{Escape, stands_for, begins, is_fault, is_octal_digit, is_decimal_digit, is_character, character, number, octal_escape, decimal, escape_of, put_before, go_on, unescape, unescape_from}
use Rattle.sx_esis.specs.declared.faults.LineWhich.{LineWhich}
use Rattle.sx_esis.specs.declared.faults.LineWhich.TheVariants as which
use Rattle.sx_esis.proofs.ReplaceLemmas.{is_mark, put_before-nil, put_before-append}

abbrev Answer : Type 0
Answer = Result (List ℕ) LineWhich

abbrev fault : Escape
fault = is_fault which.BadEscape

-- what a character's escape stands for is UTF-8
character_text : (n : ℕ) (s : List ℕ) → character n ≡ stands_for s → IsUtf8 s
character_text n s = at (is_character n) refl
  where
    at : (one : Bool) → is_character n ≡ one → cond one (stands_for (encode_utf8 n)) fault ≡ stands_for s → IsUtf8 s
    at true is e =
        let same : encode_utf8 n ≡ s = cc in
        let scalar : IsScalar n = grind (arith, nat_tests) in
        subst IsUtf8 same (IsUtf8-encode n scalar)
    at false is e = cc

one_text : (c : ℕ) (s : List ℕ) → c < 128 → stands_for (c ∷ []) ≡ stands_for s → IsUtf8 s
one_text c s small e =
    let same : c ∷ [] ≡ s = cc in
    let scalar : IsScalar c = grind (arith, nat_tests) in
    subst IsUtf8 (encode_ascii c small ∙ same) (IsUtf8-encode c scalar)

decimal_text : (before ds s : List ℕ) → decimal before ds ≡ stands_for s → IsUtf8 s
decimal_text before [] s e = cc
decimal_text [] (d ∷ ds) s e = at (is_decimal_digit d) e (decimal_text (d ∷ []) ds s)
  where
    at : (digit : Bool) → cond digit (decimal (d ∷ []) ds) fault ≡ stands_for s → (decimal (d ∷ []) ds ≡ stands_for s → IsUtf8 s) → IsUtf8 s
    at true e rest = rest e
    at false e rest = cc
decimal_text (b ∷ bs) (d ∷ ds) s e = at (is_decimal_digit d) (eqb d 59) e (decimal_text (b ∷ bs ++ d ∷ []) ds s)
  where
    at : (digit semicolon : Bool) → cond digit (decimal (b ∷ bs ++ d ∷ []) ds) (cond semicolon (character (number 10 (b ∷ bs))) fault) ≡ stands_for s →
        (decimal (b ∷ bs ++ d ∷ []) ds ≡ stands_for s → IsUtf8 s) → IsUtf8 s
    at true semicolon e rest = rest e
    at false true e rest = character_text (number 10 (b ∷ bs)) s e
    at false false e rest = cc

octal_text : (ds s : List ℕ) → octal_escape ds ≡ stands_for s → IsUtf8 s
octal_text [] s e = cc
octal_text (a ∷ []) s e = cc
octal_text (a ∷ b ∷ []) s e = cc
octal_text (a ∷ b ∷ c ∷ []) s e = at (ltb (number 8 (a ∷ b ∷ c ∷ [])) 256) e
  where
    at : (small : Bool) → cond small (character (number 8 (a ∷ b ∷ c ∷ []))) fault ≡ stands_for s → IsUtf8 s
    at true e = character_text (number 8 (a ∷ b ∷ c ∷ [])) s e
    at false e = cc
octal_text (a ∷ b ∷ c ∷ d ∷ ds) s e = cc

-- what an escape comes to by the answers of the tests on its first byte
abbrev by_tests : Bool → Bool → Bool → Bool → Bool → Escape → Escape → Escape
by_tests backslash line_feed numbered system octals decimals digits =
    cond backslash (stands_for (92 ∷ [])) (cond line_feed (stands_for (10 ∷ [])) (cond numbered decimals (cond system (is_fault which.Sdata) (cond octals digits fault))))

escape_text : (escape s : List ℕ) → escape_of escape ≡ stands_for s → IsUtf8 s
escape_text [] s e = cc
escape_text (first ∷ ds) s e = at (eqb first 92) (eqb first 110) (eqb first 35) (eqb first 124) (list_all is_octal_digit (first ∷ ds)) e
  where
    at : (backslash line_feed numbered system octals : Bool) → by_tests backslash line_feed numbered system octals (decimal [] ds) (octal_escape (first ∷ ds)) ≡ stands_for s → IsUtf8 s
    at true l n y o e = one_text 92 s (omega arith) e
    at false true n y o e = one_text 10 s (omega arith) e
    at false false true y o e = decimal_text [] ds s e
    at false false false true o e = cc
    at false false false false true e = octal_text (first ∷ ds) s e
    at false false false false false e = cc

-- a byte beyond ASCII goes on with no escape
module _ (b : ℕ) (high : 128 ≤ b) where
  no_decimal : is_decimal_digit b ≡ false
  no_decimal = grind (arith, nat_tests)

  no_octal : is_octal_digit b ≡ false
  no_octal = grind (arith, nat_tests)

  no_byte : (n : ℕ) → n < 128 → eqb b n ≡ false
  no_byte n low = false_from_ne_true (eqb b n) (λ e. let same : b ≡ n = eqb-true b n e in omega arith)

  no_begin : (n : ℕ) → character n ≡ begins → ⊥
  no_begin n = at (is_character n)
    where
      at : (one : Bool) → cond one (stands_for (encode_utf8 n)) fault ≡ begins → ⊥
      at true e = cc
      at false e = cc

  high_decimal : (before ds : List ℕ) → decimal before ds ≡ begins → decimal before (ds ++ b ∷ []) ≡ fault
  high_decimal [] [] e = ap (λ (v : Bool). cond v (decimal (b ∷ []) []) fault) no_decimal
  high_decimal (x ∷ xs) [] e =
      ap (λ (v : Bool). cond v (decimal (x ∷ xs ++ b ∷ []) []) (cond (eqb b 59) (character (number 10 (x ∷ xs))) fault)) no_decimal
      ∙ ap (λ (v : Bool). cond v (character (number 10 (x ∷ xs))) fault) (no_byte 59 (omega arith))
  high_decimal [] (d ∷ ds) e = at (is_decimal_digit d) e (high_decimal (d ∷ []) ds)
    where
      at : (digit : Bool) → cond digit (decimal (d ∷ []) ds) fault ≡ begins → (decimal (d ∷ []) ds ≡ begins → decimal (d ∷ []) (ds ++ b ∷ []) ≡ fault) → cond digit (decimal (d ∷ []) (ds ++ b ∷ [])) fault ≡ fault
      at true e rest = rest e
      at false e rest = refl
  high_decimal (x ∷ xs) (d ∷ ds) e = at (is_decimal_digit d) (eqb d 59) e (high_decimal (x ∷ xs ++ d ∷ []) ds)
    where
      at : (digit semicolon : Bool) → cond digit (decimal (x ∷ xs ++ d ∷ []) ds) (cond semicolon (character (number 10 (x ∷ xs))) fault) ≡ begins →
          (decimal (x ∷ xs ++ d ∷ []) ds ≡ begins → decimal (x ∷ xs ++ d ∷ []) (ds ++ b ∷ []) ≡ fault) →
          cond digit (decimal (x ∷ xs ++ d ∷ []) (ds ++ b ∷ [])) (cond semicolon (character (number 10 (x ∷ xs))) fault) ≡ fault
      at true semicolon e rest = rest e
      at false true e rest = absurd (no_begin (number 10 (x ∷ xs)) e)
      at false false e rest = refl

  high_first : escape_of (b ∷ []) ≡ fault
  high_first =
      ap (λ (v : Bool). by_tests v (eqb b 110) (eqb b 35) (eqb b 124) (list_all is_octal_digit (b ∷ [])) begins begins) (no_byte 92 (omega arith))
      ∙ ap (λ (v : Bool). by_tests false v (eqb b 35) (eqb b 124) (list_all is_octal_digit (b ∷ [])) begins begins) (no_byte 110 (omega arith))
      ∙ ap (λ (v : Bool). by_tests false false v (eqb b 124) (list_all is_octal_digit (b ∷ [])) begins begins) (no_byte 35 (omega arith))
      ∙ ap (λ (v : Bool). by_tests false false false v (list_all is_octal_digit (b ∷ [])) begins begins) (no_byte 124 (omega arith))
      ∙ ap (λ (v : Bool). by_tests false false false false (v && true) begins begins) no_octal

  high_escape : (escape : List ℕ) → escape_of escape ≡ begins → escape_of (escape ++ b ∷ []) ≡ fault
  high_escape [] e = high_first
  high_escape (first ∷ ds) e = at (eqb first 92) (eqb first 110) (eqb first 35) (eqb first 124) (list_all is_octal_digit (first ∷ ds)) e
    where
      none : list_all is_octal_digit (first ∷ ds ++ b ∷ []) ≡ false
      none =
          list_all-append is_octal_digit (first ∷ ds) (b ∷ []) ∙ and_right (list_all is_octal_digit (first ∷ ds)) (is_octal_digit b && true) (ap (λ (v : Bool). v && true) no_octal)

      at : (backslash line_feed numbered system octals : Bool) → by_tests backslash line_feed numbered system octals (decimal [] ds) (octal_escape (first ∷ ds)) ≡ begins →
          by_tests backslash line_feed numbered system (list_all is_octal_digit (first ∷ ds ++ b ∷ [])) (decimal [] (ds ++ b ∷ [])) (octal_escape (first ∷ ds ++ b ∷ [])) ≡ fault
      at true l n y o e = cc
      at false true n y o e = cc
      at false false true y o e = high_decimal [] ds e
      at false false false true o e = cc
      at false false false false o e = ap (λ (v : Bool). cond v (octal_escape (first ∷ ds ++ b ∷ [])) fault) none

-- bytes none of which begins an escape stay
plain_byte : (mark : Bool) (b : ℕ) (s rest : List ℕ) → (not mark && list_all (λ b. not (is_mark b)) s) ≡ true → (list_all (λ b. not (is_mark b)) s ≡ true → unescape (s ++ rest) ≡ put_before s (unescape rest)) →
    cond mark (unescape_from (Some []) (s ++ rest)) (put_before (b ∷ []) (unescape (s ++ rest))) ≡ put_before (b ∷ s) (unescape rest)
plain_byte true b s rest all more = absurd (false≢true all)
plain_byte false b s rest all more = ap (put_before (b ∷ [])) (more all) ∙ sym (put_before-append (b ∷ []) s (unescape rest))

pub plain_bytes : (s rest : List ℕ) → list_all (λ b. not (is_mark b)) s ≡ true → unescape (s ++ rest) ≡ put_before s (unescape rest)
plain_bytes [] rest all = sym (put_before-nil (unescape rest))
plain_bytes (b ∷ s) rest all = plain_byte (is_mark b) b s rest all (plain_bytes s rest)

pub high_bytes : (c k : ℕ) → 128 ≤ c → k < length (encode_utf8 c) → 128 ≤ get_or (encode_utf8 c) k 0
high_bytes c k high within = at (ltb (get_or (encode_utf8 c) k 0) 128) refl
  where
    at : (low : Bool) → ltb (get_or (encode_utf8 c) k 0) 128 ≡ low → 128 ≤ get_or (encode_utf8 c) k 0
    at true e =
        let small : get_or (encode_utf8 c) k 0 < 128 = ltb-true (get_or (encode_utf8 c) k 0) 128 e in
        let same : c ≡ get_or (encode_utf8 c) k 0 = inside_one c [] (encode_utf8 c) k (sym (append-nil (encode_utf8 c))) within small in
        omega arith
    at false e = grind (arith, nat_tests)

pub high_plain : (c : ℕ) → 128 ≤ c → list_all (λ b. not (is_mark b)) (encode_utf8 c) ≡ true
high_plain c high =
    and_from_places (list_all (λ b. not (is_mark b))) (λ b. not (is_mark b)) refl (λ b bs. refl) (encode_utf8 c) 0
    (λ k within. ap not (no_byte (get_or (encode_utf8 c) k 0) (high_bytes c k high within) 92 (omega arith)))

-- an escape that has begun, or none
abbrev Sound : Option (List ℕ) → Type 0
Sound None = Unit {0}
Sound (Some escape) = escape_of escape ≡ begins

put_text : (s t : List ℕ) (r : Answer) → IsUtf8 s → ((u : List ℕ) → r ≡ Ok u → IsUtf8 u) → put_before s r ≡ Ok t → IsUtf8 t
put_text s t (Ok u) text rest e = let same : s ++ u ≡ t = cc in subst IsUtf8 same (IsUtf8-append s u text (rest u refl))
put_text s t (Err w) text rest e = cc

-- what is UTF-8 wherever these bytes come to it
abbrev Texts : Option (List ℕ) → List ℕ → Type 0
Texts o rest = (t : List ℕ) → unescape_from o rest ≡ Ok t → IsUtf8 t

module _ (c : ℕ) (rest t : List ℕ) (scalar : IsScalar c) (behind : Texts None rest) where
  ascii_plain : (mark : Bool) → c < 128 → Texts (Some []) rest → cond mark (unescape_from (Some []) rest) (put_before (c ∷ []) (unescape rest)) ≡ Ok t → IsUtf8 t
  ascii_plain true small inside e = inside t e
  ascii_plain false small inside e = put_text (c ∷ []) t (unescape rest) (subst IsUtf8 (encode_ascii c small) (IsUtf8-encode c scalar)) behind e

  none_step : Texts (Some []) rest → unescape (encode_utf8 c ++ rest) ≡ Ok t → IsUtf8 t
  none_step inside e = at (ltb c 128) refl
    where
      at : (low : Bool) → ltb c 128 ≡ low → IsUtf8 t
      at true is =
          let small : c < 128 = ltb-true c 128 is in
          ascii_plain (is_mark c) small inside (ap (λ (s : List ℕ). unescape (s ++ rest)) (sym (encode_ascii c small)) ∙ e)
      at false is =
          let high : 128 ≤ c = grind (arith, nat_tests) in
          put_text (encode_utf8 c) t (unescape rest) (IsUtf8-encode c scalar) behind (sym (plain_bytes (encode_utf8 c) rest (high_plain c high)) ∙ e)

  module _ (escape : List ℕ) (sound : escape_of escape ≡ begins) where
    ascii_inside : (k : Escape) → escape_of (escape ++ c ∷ []) ≡ k → (escape_of (escape ++ c ∷ []) ≡ begins → Texts (Some (escape ++ c ∷ [])) rest) →
        go_on k (unescape rest) (unescape_from (Some (escape ++ c ∷ [])) rest) ≡ Ok t → IsUtf8 t
    ascii_inside (stands_for s) is inside e = put_text s t (unescape rest) (escape_text (escape ++ c ∷ []) s is) behind e
    ascii_inside begins is inside e = inside is t e
    ascii_inside (is_fault w) is inside e = cc

    some_step : (escape_of (escape ++ c ∷ []) ≡ begins → Texts (Some (escape ++ c ∷ [])) rest) → unescape_from (Some escape) (encode_utf8 c ++ rest) ≡ Ok t → IsUtf8 t
    some_step inside e = at (ltb c 128) refl
      where
        at : (low : Bool) → ltb c 128 ≡ low → IsUtf8 t
        at true is =
            ascii_inside (escape_of (escape ++ c ∷ [])) refl inside (ap (λ (s : List ℕ). unescape_from (Some escape) (s ++ rest)) (sym (encode_ascii c (ltb-true c 128 is))) ∙ e)
        at false is =
            let high : 128 ≤ c = grind (arith, nat_tests) in
            let some : 0 < length (encode_utf8 c) = let low = (len_utf8_bounds c).0 in omega (arith, length-encode c) in
            let b = get_or (encode_utf8 c) 0 0 in
            let more = drop (0 + 1) (encode_utf8 c) ++ rest in
            let bad : Err which.BadEscape ≡ Ok t =
            sym (ap (λ (s : List ℕ). unescape_from (Some escape) (s ++ rest)) (drop_more (encode_utf8 c) 0 0 some)
            ∙ ap (λ (k : Escape). go_on k (unescape more) (unescape_from (Some (escape ++ b ∷ [])) more)) (high_escape b (high_bytes c 0 high some) escape sound))
            ∙ e in
            cc

text_from : (cs : List ℕ) (o : Option (List ℕ)) → all_scalars cs ≡ true → Sound o → Texts o (encode_utf8_all cs)
text_from [] None all sound t e = let same : [] ≡ t = cc in subst IsUtf8 same IsUtf8-nil
text_from [] (Some escape) all sound t e = cc
text_from (c ∷ cs) None all sound t e =
    let parts = and_parts (scalar c) (all_scalars cs) all in
    none_step c (encode_utf8_all cs) t parts.0 (text_from cs None parts.1 tt) (text_from cs (Some []) parts.1 refl) e
text_from (c ∷ cs) (Some escape) all sound t e =
    let parts = and_parts (scalar c) (all_scalars cs) all in
    some_step c (encode_utf8_all cs) t parts.0 (text_from cs None parts.1 tt) escape sound (λ more. text_from cs (Some (escape ++ c ∷ [])) parts.1 more) e

-- What a text that is UTF-8 comes to without its escapes is UTF-8.
pub unescaped_text : (s t : List ℕ) → IsUtf8 s → unescape s ≡ Ok t → IsUtf8 t
unescaped_text s t text e = text_from text.0 None text.1.0 tt t (ap unescape text.1.1 ∙ e)
