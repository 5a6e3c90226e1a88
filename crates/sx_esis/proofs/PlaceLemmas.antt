-- Where a byte stands first.
use Rattle.std.proofs.Common.{◌≡◌, ℕ, suc, ◌+◌, ◌<◌, ◌≤◌, Bool, true, false, not, ◌&&◌, List, ◌∷◌, [], ◌∙◌, ap, length, get_or, Option, Some, None, sym, refl, cond, ltb, eqb, arith}
use Rattle.std.proofs.lemmas.Bool.{and_from, and_parts, false_from_ne_true, lt-ltb}
use Rattle.std.proofs.lemmas.Str.{is_utf8-from_IsUtf8, IsUtf8-from_is_utf8, IsUtf8-from_ascii}
use Rattle.std.proofs.lemmas.Str.Ascii.{IsAscii-from_all}
use Rattle.std.proofs.lemmas.List.{get_or_default}
use Rattle.std.proofs.lemmas.List.Elements.{All-from_get_or}
use Rattle.std.proofs.lemmas.List.Sums.{list_all-from_AllPass}
use Rattle.std.specs.Str.{IsUtf8, is_utf8}
use Rattle.sx_esis.specs.Lines.{is_text_line}
use Rattle.std.proofs.lemmas.Bool.Decides.{nat_tests}
use Rattle.std.proofs.lemmas.List.Sums.{position_or_len_is, prefix_len-le-length}
use Rattle.std.specs.List.{All, AllPass, list_all, position, position_or_len}
use Rattle.std.specs.Option.{unwrap_or}
use Rattle.memchr.specs.Find.{IsFirstByte, is_byte}

pub place_is : (mark : ℕ) (s : List ℕ) (r : Option ℕ) → IsFirstByte (is_byte mark) s r → unwrap_or r (length s) ≡ position_or_len (λ b. eqb b mark) s
place_is mark s None none =
    sym (position_or_len_is (λ b. eqb b mark) s (length s) 0 (omega arith) (λ k below. false_from_ne_true (eqb (get_or s k 0) mark) (none k (omega arith) below)) (λ past. absurd (omega arith)))
place_is mark s (Some k) found =
    let within : k < length s = found.0.high in
    sym (position_or_len_is (λ b. eqb b mark) s k 0 (omega arith) (λ j below. false_from_ne_true (eqb (get_or s j 0) mark) (found.0.before j (omega arith) below)) (λ _. found.1))

pub position_or_length : (p : ℕ → Bool) (s : List ℕ) → unwrap_or (position p s) (length s) ≡ position_or_len p s
position_or_length p s = at (ltb (position_or_len p s) (length s)) refl
  where
    at : (within : Bool) → ltb (position_or_len p s) (length s) ≡ within → unwrap_or (cond within (Some (position_or_len p s)) None) (length s) ≡ position_or_len p s
    at true e = refl
    at false e = let most : position_or_len p s ≤ length s = prefix_len-le-length (λ b. not (p b)) s in grind (arith, nat_tests)

none_at : (mark : ℕ) (here : Bool) (b : ℕ) (s : List ℕ) → ltb (position_or_len (λ b. eqb b mark) s) (length s) ≡ not (list_all (λ b. not (eqb b mark)) s) →
    ltb (cond (not here) (1 + position_or_len (λ b. eqb b mark) s) 0) (length (b ∷ s)) ≡ not (not here && list_all (λ b. not (eqb b mark)) s)
none_at mark true b s rest = lt-ltb 0 (length (b ∷ s)) (omega arith)
none_at mark false b s rest =
    let n = position_or_len (λ b. eqb b mark) s in
    let same : ltb (1 + n) (suc (length s)) ≡ ltb n (length s) = grind (arith, nat_tests) in
    same ∙ rest

-- whether a byte stands among others
pub none_of : (mark : ℕ) (s : List ℕ) → ltb (position_or_len (λ b. eqb b mark) s) (length s) ≡ not (list_all (λ b. not (eqb b mark)) s)
none_of mark [] = refl
none_of mark (b ∷ s) = none_at mark (eqb b mark) b s (none_of mark s)

not_both : (a b : Bool) → b ≡ false → (a && b) ≡ false
not_both true b e = e
not_both false b e = refl

false_of : (v : Bool) → true ≡ not v → v ≡ false
false_of true e = e
false_of false e = refl

true_of : (v : Bool) → false ≡ not v → v ≡ true
true_of true e = refl
true_of false e = e

-- a line with a zero is no text, and one of UTF-8 without it is
pub zero_found : (s : List ℕ) (n : ℕ) → n ≡ position_or_len (λ b. eqb b 0) s → n < length s → is_text_line s ≡ false
zero_found s n is within =
    not_both (is_utf8 s) (list_all (λ b. not (eqb b 0)) s)
    (false_of (list_all (λ b. not (eqb b 0)) s) (sym (lt-ltb n (length s) within) ∙ ap (λ (m : ℕ). ltb m (length s)) is ∙ none_of 0 s))

pub zero_nowhere : (s : List ℕ) (n : ℕ) → n ≡ position_or_len (λ b. eqb b 0) s → IsUtf8 s → length s ≤ n → is_text_line s ≡ true
zero_nowhere s n is text past =
    let none : ltb n (length s) ≡ false = grind (arith, nat_tests) in
    and_from (is_utf8 s) (list_all (λ b. not (eqb b 0)) s) (is_utf8-from_IsUtf8 s text)
    (true_of (list_all (λ b. not (eqb b 0)) s) (sym none ∙ ap (λ (m : ℕ). ltb m (length s)) is ∙ none_of 0 s))

pub text_is_utf8 : (s : List ℕ) → is_text_line s ≡ true → IsUtf8 s
text_is_utf8 s is = IsUtf8-from_is_utf8 s (and_parts (is_utf8 s) (list_all (λ b. not (eqb b 0)) s) is).0

not_zero : (b : ℕ) → 0 < b → not (eqb b 0) ≡ true
not_zero b some = grind (arith, nat_tests)

-- bytes of which none is a zero, and all are of ASCII, are text
pub plain_text : (s : List ℕ) (least most : ℕ) → ((k : ℕ) → k < length s → (least ≤ get_or s k 0) × (get_or s k 0 ≤ most)) → 0 < least → most < 128 → is_text_line s ≡ true
plain_text s least most between some few =
    let ascii : All (λ b. b < 128) s = All-from_get_or (λ b. b < 128) s 0 (λ k within. let here = between k within in omega (arith, here.1, few)) in
    let none : AllPass (λ b. not (eqb b 0)) s =
    λ k d within. let here = between k within in not_zero (get_or s k d) (omega (arith, here.0, some, get_or_default s k d 0 within)) in
    and_from (is_utf8 s) (list_all (λ b. not (eqb b 0)) s) (is_utf8-from_IsUtf8 s (IsUtf8-from_ascii s (IsAscii-from_all s ascii)))
    (list_all-from_AllPass (λ b. not (eqb b 0)) s none)
