-- A text that was escaped is read as itself.
use Rattle.std.proofs.Common.{◌≡◌, ℕ, ◌+◌, ◌*◌, ◌-◌, ◌/◌, ◌%◌, ◌<◌, ◌≤◌, Bool, true, false, ◌&&◌, List, [], ◌∷◌, ◌++◌, Some, Ok, refl, sym, ap, ◌∙◌, cond, eqb, ltb, arith}
use Rattle.std.proofs.lemmas.Bool.{eqb-true, false_from_ne_true, and_from}
use Rattle.std.proofs.lemmas.Bool.Decides.{nat_tests}
use Rattle.std.proofs.lemmas.Str.{encode_ascii}
use Rattle.std.specs.Char.{encode_utf8}
use Rattle.std.specs.List.{list_all}
use Rattle.sx_esis.specs.Escapes.{Escape, stands_for, begins, is_fault, is_octal_digit, is_character, character, number, octal_escape, decimal, escape_of, put_before, go_on, unescape, unescape_from}
use Rattle.sx_esis.specs.declared.faults.LineWhich.TheVariants as which
use Rattle.sx_lines.specs.Lines.{Lacks}
use Rattle.sx_lines.specs.Print as print
use Rattle.sx_lines.specs.Print.{escaped, escape}
use Rattle.sx_lines.proofs.Escapes.{Form, a_backslash, a_newline, a_control, a_plain, form_of}

-- an octal_escape digit is none of the bytes that begin another escape
module _ (d : ℕ) (low : 48 ≤ d) (high : d ≤ 55) where
  -- in front of octal_escape digits it decides that they are octal_escape
  digit_first : (ds : List ℕ) → list_all is_octal_digit (d ∷ ds) ≡ true → escape_of (d ∷ ds) ≡ octal_escape (d ∷ ds)
  digit_first ds all = at (eqb d 92) (eqb d 110) (eqb d 35) (eqb d 124) (list_all is_octal_digit (d ∷ ds)) refl refl refl refl all
    where
      at : (a b c e o : Bool) → eqb d 92 ≡ a → eqb d 110 ≡ b → eqb d 35 ≡ c → eqb d 124 ≡ e → o ≡ true
          → cond a (stands_for (92 ∷ [])) (cond b (stands_for (10 ∷ [])) (cond c (decimal [] ds) (cond e (is_fault which.Sdata) (cond o (octal_escape (d ∷ ds)) (is_fault which.BadEscape)))))
          ≡ octal_escape (d ∷ ds)
      at true b c e o is ib ic ie io = absurd (omega (arith, eqb-true d 92 is))
      at false true c e o is ib ic ie io = absurd (omega (arith, eqb-true d 110 ib))
      at false false true e o is ib ic ie io = absurd (omega (arith, eqb-true d 35 ic))
      at false false false true o is ib ic ie io = absurd (omega (arith, eqb-true d 124 ie))
      at false false false false true is ib ic ie io = refl
      at false false false false false is ib ic ie io = cc

  -- it is an octal_escape digit
  digit_is : is_octal_digit d ≡ true
  digit_is = grind (arith, nat_tests)

-- the number of three octal_escape digits
abbrev value_of : ℕ → ℕ → ℕ → ℕ
value_of a b c = (a - 48) * 64 + (b - 48) * 8 + (c - 48)

-- three octal_escape digits are the character of their number
module _ (a b c : ℕ) (al : 48 ≤ a) (ah : a ≤ 49) (bl : 48 ≤ b) (bh : b ≤ 55) (cl : 48 ≤ c) (ch : c ≤ 55) where
  -- their number
  abbrev value : ℕ
  value = value_of a b c

  -- the first two are octal_escape digits
  two_are : list_all is_octal_digit (a ∷ b ∷ []) ≡ true
  two_are = and_from (is_octal_digit a) (is_octal_digit b && true) (digit_is a al (omega arith)) (and_from (is_octal_digit b) true (digit_is b bl bh) refl)

  -- and so are all three
  three_are : list_all is_octal_digit (a ∷ b ∷ c ∷ []) ≡ true
  three_are =
      and_from (is_octal_digit a) (is_octal_digit b && (is_octal_digit c && true)) (digit_is a al (omega arith))
      (and_from (is_octal_digit b) (is_octal_digit c && true) (digit_is b bl bh) (and_from (is_octal_digit c) true (digit_is c cl ch) refl))

  -- one digit only begins an escape
  one_begins : escape_of (a ∷ []) ≡ begins
  one_begins = digit_first a al (omega arith) [] (and_from (is_octal_digit a) true (digit_is a al (omega arith)) refl)

  -- and so do two
  two_begin : escape_of (a ∷ b ∷ []) ≡ begins
  two_begin = digit_first a al (omega arith) (b ∷ []) two_are

  -- they are read as their number
  number_is : number 8 (a ∷ b ∷ c ∷ []) ≡ value
  number_is = omega arith

  -- three digits are a whole escape
  three_stand : 0 < value → value < 128 → escape_of (a ∷ b ∷ c ∷ []) ≡ stands_for (value ∷ [])
  three_stand some small =
      digit_first a al (omega arith) (b ∷ c ∷ []) three_are
      ∙ ap (λ (n : ℕ). cond (ltb n 256) (character n) (is_fault which.BadEscape)) number_is
      ∙ at (ltb value 256) refl (is_character value) refl
    where
      at : (s : Bool) → ltb value 256 ≡ s → (t : Bool) → is_character value ≡ t
          → cond s (cond t (stands_for (encode_utf8 value)) (is_fault which.BadEscape)) (is_fault which.BadEscape) ≡ stands_for (value ∷ [])
      at true is true it = ap stands_for (encode_ascii value small)
      at true is false it = absurd (grind (arith, nat_tests))
      at false is t it = absurd (grind (arith, nat_tests))

  -- an escape of three digits is read as its character
  digits_read : (rest : List ℕ) → 0 < value → value < 128 → unescape (92 ∷ a ∷ b ∷ c ∷ rest) ≡ put_before (value ∷ []) (unescape rest)
  digits_read rest some small =
      ap (λ (k : Escape). go_on k (unescape (b ∷ c ∷ rest)) (unescape_from (Some (a ∷ [])) (b ∷ c ∷ rest))) one_begins
      ∙ ap (λ (k : Escape). go_on k (unescape (c ∷ rest)) (unescape_from (Some (a ∷ b ∷ [])) (c ∷ rest))) two_begin
      ∙ ap (λ (k : Escape). go_on k (unescape rest) (unescape_from (Some (a ∷ b ∷ c ∷ [])) rest)) (three_stand some small)

-- the digits of a byte have its number
octal_value : (b : ℕ) → b < 128 → value_of (48 + b / 64) (48 + b / 8 % 8) (48 + b % 8) ≡ b
octal_value b small = omega arith

-- the octal_escape form of a byte below 128 is read as that byte
octal_read : (b : ℕ) (rest : List ℕ) → 0 < b → b < 128 → unescape (92 ∷ print.octal b ++ rest) ≡ put_before (b ∷ []) (unescape rest)
octal_read b rest some small =
    let same : value_of (48 + b / 64) (48 + b / 8 % 8) (48 + b % 8) ≡ b = octal_value b small in
    digits_read (48 + b / 64) (48 + b / 8 % 8) (48 + b % 8) (omega arith) (omega arith) (omega arith) (omega arith) (omega arith) (omega arith) rest (omega (arith, same)) (omega (arith, same))
    ∙ ap (λ (n : ℕ). put_before (n ∷ []) (unescape rest)) same

-- an escaped byte is read as that byte
byte_read : (b : ℕ) (rest : List ℕ) (p : List ℕ) → Form b p → ¬ (b ≡ 0) → unescape (p ++ rest) ≡ put_before (b ∷ []) (unescape rest)
byte_read b rest p (a_backslash is form) some = ap (λ (x : List ℕ). unescape (x ++ rest)) form ∙ ap (λ (n : ℕ). put_before (n ∷ []) (unescape rest)) (sym is)
byte_read b rest p (a_newline is form) some = ap (λ (x : List ℕ). unescape (x ++ rest)) form ∙ ap (λ (n : ℕ). put_before (n ∷ []) (unescape rest)) (sym is)
byte_read b rest p (a_control small form) some =
    ap (λ (x : List ℕ). unescape (x ++ rest)) form ∙ octal_read b rest (positive b some) small
  where
    positive : (n : ℕ) → ¬ (n ≡ 0) → 0 < n
    positive n h = omega (arith, h)
byte_read b rest p (a_plain other above form) some =
    ap (λ (x : List ℕ). unescape (x ++ rest)) form
    ∙ ap (λ (v : Bool). cond v (unescape_from (Some []) rest) (put_before (b ∷ []) (unescape rest))) (false_from_ne_true (eqb b 92) (λ e. other (eqb-true b 92 e)))

-- An escaped text without a zero is read as that text.
pub escaped_read : (s : List ℕ) → Lacks 0 s → unescape (escape s) ≡ Ok s
escaped_read [] lacks = refl
escaped_read (b ∷ s) lacks =
    byte_read b (escape s) (escaped b) (form_of b) lacks.0 ∙ ap (put_before (b ∷ [])) (escaped_read s lacks.1)
