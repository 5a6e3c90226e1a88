-- What the bytes behind a backslash stand for.
use Rattle.std.proofs.Common.{◌≡◌, ◌≢◌, ℕ, zero, suc, ◌+◌, ◌<◌, ◌≤◌, Bool, true, false, not, ◌&&◌, List, [], ◌∷◌, ◌++◌, length, take, drop, get_or, Some, Result, Err, refl, ap, sym, ◌∙◌, cond, eqb, arith, append_assoc, append-nil, length-take}
use Rattle.std.proofs.lemmas.Bool.{false_from_ne_true, eqb-true, and_parts, and_from}
use Rattle.std.proofs.lemmas.List.{take-append-drop, drop_all, drop_more}
use Rattle.std.proofs.lemmas.Str.{len_utf8_bounds}
use Rattle.std.proofs.lemmas.List.Sums.{passes_at_first, prefix_len-le-length}
use Rattle.std.proofs.lemmas.List.Folds.{list_all-append}
use Rattle.std.specs.Char.{encode_utf8}
use Rattle.std.specs.List.{list_all, position_or_len}
use Rattle.sx_chars.proofs.Places.{take_one_more, drop_one_more}
use Rattle.sx_esis.specs.Escapes.{Escape, stands_for, begins, is_fault, is_decimal_digit, is_character, character, number, decimal, put_before, go_on, unescape, unescape_from}
use Rattle.sx_esis.specs.Replacing.{ReadsCharacter}
use Rattle.sx_esis.specs.declared.faults.LineWhich.{LineWhich}
use Rattle.sx_esis.specs.declared.faults.LineWhich.TheVariants as which

abbrev Answer : Type 0
Answer = Result (List ℕ) LineWhich

not_true : (v : Bool) → not v ≡ true → v ≡ false
not_true true e = sym e
not_true false e = refl

-- digits behind the first one are taken one by one
dec_more : (b : ℕ) (bs ds rest : List ℕ) → list_all is_decimal_digit ds ≡ true → decimal (b ∷ bs) (ds ++ rest) ≡ decimal (b ∷ bs ++ ds) rest
dec_more b bs [] rest all = ap (λ (s : List ℕ). decimal (b ∷ s) rest) (sym (append-nil bs))
dec_more b bs (d ∷ ds) rest all =
    let parts = and_parts (is_decimal_digit d) (list_all is_decimal_digit ds) all in
    ap (λ (v : Bool). cond v (decimal (b ∷ bs ++ d ∷ []) (ds ++ rest)) (cond (eqb d 59) (character (number 10 (b ∷ bs))) (is_fault which.BadEscape))) parts.0
    ∙ dec_more b (bs ++ d ∷ []) ds rest parts.1
    ∙ ap (λ (s : List ℕ). decimal (b ∷ s) rest) (append_assoc bs (d ∷ []) ds)

dec_all : (d : ℕ) (ds rest : List ℕ) → list_all is_decimal_digit (d ∷ ds) ≡ true → decimal [] (d ∷ ds ++ rest) ≡ decimal (d ∷ ds) rest
dec_all d ds rest all =
    let parts = and_parts (is_decimal_digit d) (list_all is_decimal_digit ds) all in
    ap (λ (v : Bool). cond v (decimal (d ∷ []) (ds ++ rest)) (is_fault which.BadEscape)) parts.0 ∙ dec_more d [] ds rest parts.1

dec_begins : (ds : List ℕ) → list_all is_decimal_digit ds ≡ true → decimal [] ds ≡ begins
dec_begins [] all = refl
dec_begins (d ∷ ds) all = ap (λ (s : List ℕ). decimal [] (d ∷ s)) (sym (append-nil ds)) ∙ dec_all d ds [] all

-- digits only go on with an escape
dec_run : (ds es rest : List ℕ) → list_all is_decimal_digit ds ≡ true → list_all is_decimal_digit es ≡ true → unescape_from (Some (35 ∷ ds)) (es ++ rest) ≡ unescape_from (Some (35 ∷ ds ++ es)) rest
dec_run ds [] rest before all = ap (λ (s : List ℕ). unescape_from (Some (35 ∷ s)) rest) (sym (append-nil ds))
dec_run ds (e ∷ es) rest before all =
    let parts = and_parts (is_decimal_digit e) (list_all is_decimal_digit es) all in
    let so_far : list_all is_decimal_digit (ds ++ e ∷ []) ≡ true =
    list_all-append is_decimal_digit ds (e ∷ []) ∙ and_from (list_all is_decimal_digit ds) (is_decimal_digit e && true) before (and_from (is_decimal_digit e) true parts.0 refl) in
    ap (λ (k : Escape). go_on k (unescape (es ++ rest)) (unescape_from (Some (35 ∷ ds ++ e ∷ [])) (es ++ rest))) (dec_begins (ds ++ e ∷ []) so_far)
    ∙ dec_run (ds ++ e ∷ []) es rest so_far parts.1
    ∙ ap (λ (s : List ℕ). unescape_from (Some (35 ∷ s)) rest) (append_assoc ds (e ∷ []) es)

-- a byte that is no decimal digit
abbrev pub is_no_digit : ℕ → Bool
is_no_digit b = not (is_decimal_digit b)

-- the bytes in front of the first that is no digit are digits
digits_at : (here : Bool) (b : ℕ) (bs : List ℕ) → is_decimal_digit b ≡ here → list_all is_decimal_digit (take (position_or_len is_no_digit bs) bs) ≡ true →
    list_all is_decimal_digit (take (cond (not (not here)) (1 + position_or_len is_no_digit bs) 0) (b ∷ bs)) ≡ true
digits_at true b bs digit rest = ap (list_all is_decimal_digit) (take_one_more (position_or_len is_no_digit bs) b bs) ∙ and_from (is_decimal_digit b) (list_all is_decimal_digit (take (position_or_len is_no_digit bs) bs)) digit rest
digits_at false b bs digit rest = refl

digits_before : (bytes : List ℕ) → list_all is_decimal_digit (take (position_or_len is_no_digit bytes) bytes) ≡ true
digits_before [] = refl
digits_before (b ∷ bs) = digits_at (is_decimal_digit b) b bs refl (digits_before bs)

-- what stands behind `#` goes on behind its digits
behind_digits : (bytes : List ℕ) (n : ℕ) → n ≡ position_or_len is_no_digit bytes → unescape_from (Some []) (35 ∷ bytes) ≡ unescape_from (Some (35 ∷ take n bytes)) (drop n bytes)
behind_digits bytes n is =
    let all : list_all is_decimal_digit (take n bytes) ≡ true = ap (λ (m : ℕ). list_all is_decimal_digit (take m bytes)) is ∙ digits_before bytes in
    ap (unescape_from (Some (35 ∷ []))) (sym (take-append-drop n bytes)) ∙ dec_run [] (take n bytes) (drop n bytes) refl all

-- the byte behind the digits of an escape
dec_end : (ds rest : List ℕ) (b : ℕ) → list_all is_decimal_digit ds ≡ true → is_decimal_digit b ≡ false →
    unescape_from (Some (35 ∷ ds)) (b ∷ rest)
    ≡ go_on (cond (eqb b 59 && not (eqb (length ds) 0)) (character (number 10 ds)) (is_fault which.BadEscape)) (unescape rest) (unescape_from (Some (35 ∷ ds ++ b ∷ [])) rest)
dec_end ds rest b all other = ap (λ (k : Escape). go_on k (unescape rest) (unescape_from (Some (35 ∷ ds ++ b ∷ [])) rest)) (at ds all)
  where
    empty : (semicolon : Bool) → is_fault which.BadEscape ≡ cond (semicolon && false) (character 0) (is_fault which.BadEscape)
    empty true = refl
    empty false = refl

    some : (semicolon : Bool) (k : Escape) (n : ℕ) → cond semicolon k (is_fault which.BadEscape) ≡ cond (semicolon && not (eqb (suc n) 0)) k (is_fault which.BadEscape)
    some true k n = ap (λ (v : Bool). cond (not v) k (is_fault which.BadEscape)) (sym (false_from_ne_true (eqb (suc n) 0) (λ e. let h : suc n ≡ 0 = eqb-true (suc n) 0 e in omega arith)))
    some false k n = refl

    at : (es : List ℕ) → list_all is_decimal_digit es ≡ true → decimal [] (es ++ b ∷ []) ≡ cond (eqb b 59 && not (eqb (length es) 0)) (character (number 10 es)) (is_fault which.BadEscape)
    at [] all = ap (λ (v : Bool). cond v (decimal (b ∷ []) []) (is_fault which.BadEscape)) other ∙ empty (eqb b 59)
    at (d ∷ es) all =
        dec_all d es (b ∷ []) all
        ∙ ap (λ (v : Bool). cond v (decimal (d ∷ es ++ b ∷ []) []) (cond (eqb b 59) (character (number 10 (d ∷ es))) (is_fault which.BadEscape))) other
        ∙ some (eqb b 59) (character (number 10 (d ∷ es))) (length es)

pub digits_within : (bytes : List ℕ) (n : ℕ) → n ≡ position_or_len is_no_digit bytes → n ≢ length bytes → n < length bytes
digits_within bytes n is other = let most : position_or_len is_no_digit bytes ≤ length bytes = prefix_len-le-length (λ b. not (is_no_digit b)) bytes in omega arith

-- an escape by a decimal number, whose digits are so many
module _ (bytes : List ℕ) (n : ℕ) (is : n ≡ position_or_len is_no_digit bytes) where
  digits : list_all is_decimal_digit (take n bytes) ≡ true
  digits = ap (λ (m : ℕ). list_all is_decimal_digit (take m bytes)) is ∙ digits_before bytes

  -- digits up to the end are no escape
  pub decimal_open : length bytes ≤ n → unescape_from (Some []) (35 ∷ bytes) ≡ Err which.BadEscape
  decimal_open past = behind_digits bytes n is ∙ ap (unescape_from (Some (35 ∷ take n bytes))) (drop_all n bytes past)

  ended : n < length bytes → (inside : Answer)
      × (unescape_from (Some []) (35 ∷ bytes)
      ≡ go_on (cond (eqb (get_or bytes n 0) 59 && not (eqb n 0)) (character (number 10 (take n bytes))) (is_fault which.BadEscape)) (unescape (drop (n + 1) bytes)) inside)
  ended within =
      let other : is_decimal_digit (get_or bytes n 0) ≡ false =
      not_true (is_decimal_digit (get_or bytes n 0)) (ap (λ (m : ℕ). is_no_digit (get_or bytes m 0)) is ∙ passes_at_first is_no_digit bytes 0 (omega arith)) in
      let inside : Answer = unescape_from (Some (35 ∷ take n bytes ++ get_or bytes n 0 ∷ [])) (drop (n + 1) bytes) in
      let count : length (take n bytes) ≡ n = omega (arith, length-take n bytes) in (
        inside,
        behind_digits bytes n is
            ∙ ap (unescape_from (Some (35 ∷ take n bytes))) (drop_more bytes n 0 within)
            ∙ dec_end (take n bytes) (drop (n + 1) bytes) (get_or bytes n 0) digits other
            ∙ ap (λ (m : ℕ). go_on (cond (eqb (get_or bytes n 0) 59 && not (eqb m 0)) (character (number 10 (take n bytes))) (is_fault which.BadEscape)) (unescape (drop (n + 1) bytes)) inside) count,
      )

  -- another byte than a semicolon behind the digits
  pub decimal_other : n < length bytes → get_or bytes n 0 ≢ 59 → unescape_from (Some []) (35 ∷ bytes) ≡ Err which.BadEscape
  decimal_other within other =
      let e = ended within in
      let no : eqb (get_or bytes n 0) 59 ≡ false = false_from_ne_true (eqb (get_or bytes n 0) 59) (λ same. other (eqb-true (get_or bytes n 0) 59 same)) in
      e.1
      ∙ ap (λ (v : Bool). go_on (cond (v && not (eqb n 0)) (character (number 10 (take n bytes))) (is_fault which.BadEscape)) (unescape (drop (n + 1) bytes)) e.0) no

  -- no digits
  pub decimal_empty : n ≡ 0 → unescape_from (Some []) (35 ∷ bytes) ≡ Err which.BadEscape
  decimal_empty none = at (length bytes) refl
    where
      none_at : (semicolon : Bool) (k : Escape) (behind inside : Answer) → go_on (cond (semicolon && not (eqb 0 0)) k (is_fault which.BadEscape)) behind inside ≡ Err which.BadEscape
      none_at true k behind inside = refl
      none_at false k behind inside = refl

      at : (m : ℕ) → length bytes ≡ m → unescape_from (Some []) (35 ∷ bytes) ≡ Err which.BadEscape
      at zero e = decimal_open (omega arith)
      at (suc m) e =
          let h = ended (omega arith) in
          h.1
          ∙ ap (λ (z : ℕ). go_on (cond (eqb (get_or bytes n 0) 59 && not (eqb z 0)) (character (number 10 (take n bytes))) (is_fault which.BadEscape)) (unescape (drop (n + 1) bytes)) h.0) none
          ∙ none_at (eqb (get_or bytes n 0) 59) (character (number 10 (take n bytes))) (unescape (drop (n + 1) bytes)) h.0

  -- digits and a semicolon
  numbered : 0 < n → n < length bytes → get_or bytes n 0 ≡ 59 → (inside : Answer) × (unescape_from (Some []) (35 ∷ bytes) ≡ go_on (character (number 10 (take n bytes))) (unescape (drop (n + 1) bytes)) inside)
  numbered some within semicolon =
      let h = ended within in
      let no : eqb n 0 ≡ false = false_from_ne_true (eqb n 0) (λ e. let z : n ≡ 0 = eqb-true n 0 e in omega arith) in (
        h.0,
        h.1
            ∙ ap (λ (b : ℕ). go_on (cond (eqb b 59 && not (eqb n 0)) (character (number 10 (take n bytes))) (is_fault which.BadEscape)) (unescape (drop (n + 1) bytes)) h.0) semicolon
            ∙ ap (λ (v : Bool). go_on (cond (not v) (character (number 10 (take n bytes))) (is_fault which.BadEscape)) (unescape (drop (n + 1) bytes)) h.0) no,
      )

  pub decimal_fault : 0 < n → n < length bytes → get_or bytes n 0 ≡ 59 → is_character (number 10 (take n bytes)) ≡ false → unescape_from (Some []) (35 ∷ bytes) ≡ Err which.BadEscape
  decimal_fault some within semicolon none =
      let h = numbered some within semicolon in
      h.1 ∙ ap (λ (v : Bool). go_on (cond v (stands_for (encode_utf8 (number 10 (take n bytes)))) (is_fault which.BadEscape)) (unescape (drop (n + 1) bytes)) h.0) none

  pub decimal_reads : (c : ℕ) → 0 < n → n < length bytes → get_or bytes n 0 ≡ 59 → is_character (number 10 (take n bytes)) ≡ true → c ≡ number 10 (take n bytes) → ReadsCharacter (35 ∷ bytes) c (n + 2)
  decimal_reads c some within semicolon is_one same =
      let h = numbered some within semicolon in
      let bounds = len_utf8_bounds c in
      record {
        within = omega arith;
        short = let high = bounds.1 in omega arith;
        stands =
            h.1
            ∙ ap (λ (v : Bool). go_on (cond v (stands_for (encode_utf8 (number 10 (take n bytes)))) (is_fault which.BadEscape)) (unescape (drop (n + 1) bytes)) h.0) is_one
            ∙ ap (λ (m : ℕ). put_before (encode_utf8 m) (unescape (drop (n + 1) bytes))) (sym same)
            ∙ ap (λ (s : List ℕ). put_before (encode_utf8 c) (unescape s)) (sym (ap (λ (m : ℕ). drop m (35 ∷ bytes)) (let e : n + 2 ≡ 1 + (n + 1) = omega arith in e) ∙ drop_one_more (n + 1) 35 bytes));
      }
