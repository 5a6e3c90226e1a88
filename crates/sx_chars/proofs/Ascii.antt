-- Names of ASCII characters only.
use Rattle.std.proofs.Common.{◌≡◌, ℕ, ◌≤◌, Bool, true, false, ◌&&◌, List, [], ◌∷◌, ◌++◌, length, drop, get_or, Some, None, ◌||◌, refl, ap, sym, ◌∙◌, cond, ltb, eqb, arith}
use Rattle.std.proofs.lemmas.Bool.{ltb-true, eqb-true, and_parts, and_from, false≢true}
use Rattle.std.proofs.lemmas.Str.{chars-IsAscii, chars_past_char}
use Rattle.std.proofs.lemmas.Str.Ascii.{IsAscii-nil, IsAscii-cons}
use Rattle.std.specs.Char.{encode_utf8}
use Rattle.std.specs.List.{list_all}
use Rattle.std.specs.Str.{chars, IsUtf8, IsAscii}
use Rattle.sx_chars.specs.Names.{is_in, further_characters, is_first, is_further, are_name, is_ncname, is_qname, is_qname_with, behind}

abbrev pub is_ascii : ℕ → Bool
is_ascii b = ltb b 128

pub all_ascii : (bs : List ℕ) → list_all is_ascii bs ≡ true → IsAscii bs
all_ascii [] all = IsAscii-nil
all_ascii (b ∷ bs) all =
    let parts = and_parts (ltb b 128) (list_all is_ascii bs) all in
    IsAscii-cons b bs (ltb-true b 128 parts.0) (all_ascii bs parts.1)

swap : (a q A Q : Bool) → ((a && q) && (A && Q)) ≡ ((a && A) && (q && Q))
swap true true A Q = refl
swap true false true Q = refl
swap true false false Q = refl
swap false q A Q = refl

both : (q : ℕ → Bool) (bs : List ℕ) → list_all (λ b. ltb b 128 && q b) bs ≡ (list_all is_ascii bs && list_all q bs)
both q [] = refl
both q (b ∷ bs) =
    ap (λ (v : Bool). (ltb b 128 && q b) && v) (both q bs)
    ∙ swap (ltb b 128) (q b) (list_all is_ascii bs) (list_all q bs)

pub ascii_name : (bs : List ℕ) → 1 ≤ length bs → (ltb (get_or bs 0 0) 128 && is_first (get_or bs 0 0)) ≡ true →
    list_all (λ b. ltb b 128 && is_further b) (drop 1 bs) ≡ (list_all is_ascii bs && are_name bs)
ascii_name [] some first = absurd (omega arith)
ascii_name (b ∷ bs) some first =
    both is_further bs
    ∙ ap (λ (v : Bool). v && (list_all is_ascii bs && list_all is_further bs)) (sym first)
    ∙ swap (ltb b 128) (is_first b) (list_all is_ascii bs) (list_all is_further bs)

-- a name of ASCII characters is its own characters
pub is_name : (bs : List ℕ) → (list_all is_ascii bs && are_name bs) ≡ true → is_ncname bs ≡ true
is_name bs name =
    let parts = and_parts (list_all is_ascii bs) (are_name bs) name in
    ap are_name (chars-IsAscii bs (all_ascii bs parts.0)) ∙ parts.1

further_no_colon : (b : ℕ) → is_further b ≡ true → eqb b 58 ≡ false
further_no_colon b further = at (eqb b 58) refl
  where
    at : (colon : Bool) → eqb b 58 ≡ colon → colon ≡ false
    at true e = absurd (false≢true (ap is_further (sym (eqb-true b 58 e)) ∙ further))
    at false e = refl

first_further : (b : ℕ) → is_first b ≡ true → is_further b ≡ true
first_further b first = ap (λ (v : Bool). v || is_in further_characters b) first

no_colon : (bs : List ℕ) → list_all is_further bs ≡ true → behind 58 bs ≡ None
no_colon [] all = refl
no_colon (b ∷ bs) all =
    let parts = and_parts (is_further b) (list_all is_further bs) all in
    ap (λ (v : Bool). cond v (Some bs) (behind 58 bs)) (further_no_colon b parts.0) ∙ no_colon bs parts.1

name_no_colon : (bs : List ℕ) → are_name bs ≡ true → behind 58 bs ≡ None
name_no_colon [] name = refl
name_no_colon (b ∷ bs) name =
    let parts = and_parts (is_first b) (list_all is_further bs) name in
    no_colon (b ∷ bs) (and_from (is_further b) (list_all is_further bs) (first_further b parts.0) parts.1)

pub is_name_without_colon : (bs : List ℕ) → (list_all is_ascii bs && are_name bs) ≡ true → is_qname bs ≡ true
is_name_without_colon bs name =
    ap (is_qname_with bs) (name_no_colon bs (and_parts (list_all is_ascii bs) (are_name bs) name).1) ∙ is_name bs name

pub begun : (bs rest : List ℕ) (c : ℕ) → IsUtf8 bs → bs ≡ encode_utf8 c ++ rest → is_first c ≡ true → list_all is_further (chars bs) ≡ is_ncname bs
begun bs rest c text split first =
    ap (list_all is_further) (chars_past_char bs rest c text split)
    ∙ ap (λ (v : Bool). v && list_all is_further (chars rest)) (first_further c first ∙ sym first)
    ∙ sym (ap are_name (chars_past_char bs rest c text split))

pub not_begun : (bs rest : List ℕ) (c : ℕ) → IsUtf8 bs → bs ≡ encode_utf8 c ++ rest → is_first c ≡ false → false ≡ is_ncname bs
not_begun bs rest c text split first =
    sym (ap are_name (chars_past_char bs rest c text split) ∙ ap (λ (v : Bool). v && list_all is_further (chars rest)) first)
