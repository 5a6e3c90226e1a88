-- Where a text stands in another one, by bytes and by characters.
use Rattle.std.proofs.Common.{◌≡◌, ℕ, suc, ◌+◌, ◌-◌, ◌<◌, ◌≤◌, Bool, true, false, nat_eq, List, [], ◌∷◌, ◌++◌, length, take, drop, Some, None, is_some, refl, ap, sym, ◌∙◌, subst, arith, inl, inr, length-append, length-take}
use Rattle.std.proofs.Math.Seq.{take-append_seam, drop-append_seam, drop-append-add}
use Rattle.std.proofs.lemmas.List.{take-append-drop}
use Rattle.std.proofs.lemmas.List.Prefix.{end_rest}
use Rattle.std.proofs.lemmas.Bool.{cases_order, eq-eqb}
use Rattle.std.proofs.lemmas.Str.{encodes-chars, chars-append, encodes-append, length-encode, len_utf8_bounds, IsUtf8-append, IsUtf8-take, IsUtf8-drop, IsCharBoundary-from_drop, IsCharBoundary-at_seam}
use Rattle.std.specs.Cmp.Lexicographic.{same_text}
use Rattle.std.specs.List.{starts_with, ends_with}
use Rattle.std.specs.Option.{option_map}
use Rattle.std.specs.Str.{chars, encode_utf8_all, IsUtf8, bytes_eq}
use Rattle.std.specs.Bool.{MatchBool}
use Rattle.std.specs.Str.Pattern.{HasTextAt, LacksTextAt, FindsText, HasMatch, SplitsAroundMatch}
use Rattle.sx_fn_text.specs.Characters.{place_of_text, is_within, part_before, part_after, text_before, text_after}

-- two tests that hold together are one
same_test : (a b : Bool) → (a ≡ true → b ≡ true) → (b ≡ true → a ≡ true) → a ≡ b
same_test true true f g = refl
same_test true false f g = sym (f refl)
same_test false true f g = g refl
same_test false false f g = refl

bytes_eq_same : (xs : List ℕ) → bytes_eq xs xs ≡ true
bytes_eq_same [] = refl
bytes_eq_same (x ∷ xs) = rw (eq-eqb x x refl) (bytes_eq_same xs)

-- a front and an end, as tests and as equations
pub front_of : (s t : List ℕ) → starts_with nat_eq s t ≡ true → s ≡ t ++ drop (length t) s
front_of s t h = sym (take-append-drop (length t) s) ∙ ap (λ l. l ++ drop (length t) s) (sym (same_text t (take (length t) s) (sym h)))

front_is : (t rest : List ℕ) → starts_with nat_eq (t ++ rest) t ≡ true
front_is t rest = ap (bytes_eq t) (take-append_seam t rest) ∙ bytes_eq_same t

end_of : (s t : List ℕ) → ends_with nat_eq s t ≡ true → s ≡ take (length s - length t) s ++ t
end_of s t h = let k = length s - length t in sym (take-append-drop k s) ∙ ap (λ l. take k s ++ l) (sym (same_text t (drop k s) (sym h)))

end_is : (front t : List ℕ) → ends_with nat_eq (front ++ t) t ≡ true
end_is front t = ap (bytes_eq t) (end_rest (front ++ t) t front refl) ∙ bytes_eq_same t

-- the characters of a text that is put together, and the bytes of such characters
bytes_from : (s t gs rs : List ℕ) → IsUtf8 s → IsUtf8 t → chars s ≡ gs ++ (chars t ++ rs) → s ≡ encode_utf8_all gs ++ (t ++ encode_utf8_all rs)
bytes_from s t gs rs us ut e =
    let inner : encode_utf8_all (chars t ++ rs) ≡ t ++ encode_utf8_all rs = encodes-append (chars t) rs ∙ ap (λ l. l ++ encode_utf8_all rs) (encodes-chars t ut) in
    sym (encodes-chars s us) ∙ ap encode_utf8_all e ∙ encodes-append gs (chars t ++ rs) ∙ ap (λ l. encode_utf8_all gs ++ l) inner

pub begins_same : (s t : List ℕ) → IsUtf8 s → IsUtf8 t → starts_with nat_eq s t ≡ starts_with nat_eq (chars s) (chars t)
begins_same s t us ut = same_test (starts_with nat_eq s t) (starts_with nat_eq (chars s) (chars t)) to back
  where
    to : starts_with nat_eq s t ≡ true → starts_with nat_eq (chars s) (chars t) ≡ true
    to h =
        let r = drop (length t) s in
        let e : chars s ≡ chars t ++ chars r = ap chars (front_of s t h) ∙ chars-append t r ut in
        subst (λ l. starts_with nat_eq l (chars t) ≡ true) (sym e) (front_is (chars t) (chars r))

    back : starts_with nat_eq (chars s) (chars t) ≡ true → starts_with nat_eq s t ≡ true
    back h =
        let rs = drop (length (chars t)) (chars s) in
        let e : s ≡ t ++ encode_utf8_all rs = bytes_from s t [] rs us ut (front_of (chars s) (chars t) h) in
        subst (λ l. starts_with nat_eq l t ≡ true) (sym e) (front_is t (encode_utf8_all rs))

front_utf8 : (s front t : List ℕ) → IsUtf8 s → IsUtf8 t → s ≡ front ++ t → IsUtf8 front
front_utf8 s front t us ut e =
    subst IsUtf8 (ap (take (length front)) e ∙ take-append_seam front t) (IsUtf8-take s (length front) us (IsCharBoundary-at_seam s front t e ut))

pub ends_same : (s t : List ℕ) → IsUtf8 s → IsUtf8 t → ends_with nat_eq s t ≡ ends_with nat_eq (chars s) (chars t)
ends_same s t us ut = same_test (ends_with nat_eq s t) (ends_with nat_eq (chars s) (chars t)) to back
  where
    to : ends_with nat_eq s t ≡ true → ends_with nat_eq (chars s) (chars t) ≡ true
    to h =
        let front = take (length s - length t) s in
        let cut : s ≡ front ++ t = end_of s t h in
        let e : chars s ≡ chars front ++ chars t = ap chars cut ∙ chars-append front t (front_utf8 s front t us ut cut) in
        subst (λ l. ends_with nat_eq l (chars t) ≡ true) (sym e) (end_is (chars front) (chars t))

    back : ends_with nat_eq (chars s) (chars t) ≡ true → ends_with nat_eq s t ≡ true
    back h =
        let fs = take (length (chars s) - length (chars t)) (chars s) in
        let e : s ≡ encode_utf8_all fs ++ t =
        sym (encodes-chars s us) ∙ ap encode_utf8_all (end_of (chars s) (chars t) h) ∙ encodes-append fs (chars t) ∙ ap (λ l. encode_utf8_all fs ++ l) (encodes-chars t ut) in
        subst (λ l. ends_with nat_eq l t ≡ true) (sym e) (end_is (encode_utf8_all fs) t)

-- a text that is cut at another one
pub record IsCut (s t : List ℕ) (i j : ℕ) : Type 0 where
  pub front : IsUtf8 (take i s)
  pub back : IsUtf8 (drop j s)
  pub whole : chars s ≡ chars (take i s) ++ (chars t ++ chars (drop j s))

pub cut_at : (s t : List ℕ) (i j : ℕ) → IsUtf8 s → IsUtf8 t → i ≤ length s → HasTextAt t s i j → IsCut s t i j
cut_at s t i j us ut low h =
    let back : IsUtf8 (drop j s) = subst (λ k. IsUtf8 (drop k s)) (sym h.ends) (IsUtf8-drop s (i + length t) us h.after) in
    let behind : IsUtf8 (drop i s) = subst IsUtf8 (sym h.split) (IsUtf8-append t (drop j s) ut back) in
    let front : IsUtf8 (take i s) = IsUtf8-take s i us (IsCharBoundary-from_drop s i low behind) in
    let whole : chars s ≡ chars (take i s) ++ (chars t ++ chars (drop j s)) =
    ap chars (sym (take-append-drop i s)) ∙ chars-append (take i s) (drop i s) front
    ∙ ap (λ l. chars (take i s) ++ l) (ap chars h.split ∙ chars-append t (drop j s) ut) in
    record { front = front; back = back; whole = whole }

-- the first place by bytes is the first one by characters
no_earlier : (s t gs rs : List ℕ) (i : ℕ) → IsUtf8 s → IsUtf8 t → ((k : ℕ) → k < i → LacksTextAt t s k) → chars s ≡ gs ++ (chars t ++ rs) → i ≤ length (encode_utf8_all gs)
no_earlier s t gs rs i us ut lacks e =
    let k = length (encode_utf8_all gs) in
    let here : drop k s ≡ t ++ encode_utf8_all rs = ap (drop k) (bytes_from s t gs rs us ut e) ∙ drop-append_seam (encode_utf8_all gs) (t ++ encode_utf8_all rs) in
    elim (cases_order k i) [
      | inl same ↦ omega arith
      | inr (inl less) ↦ absurd (lacks k less (encode_utf8_all rs) here)
      | inr (inr more) ↦ omega arith
    ]

fewer : (fs gs xs ys : List ℕ) → fs ++ xs ≡ gs ++ ys → length (encode_utf8_all fs) ≤ length (encode_utf8_all gs) → length fs ≤ length gs
fewer [] gs xs ys e h = omega arith
fewer (f ∷ fs) [] xs ys e h = absurd (omega (arith, h, simp length-append at h, length-encode f, len_utf8_bounds f))
fewer (f ∷ fs) (g ∷ gs) xs ys e h =
    let head : f ≡ g = cc in
    let tail : fs ++ xs ≡ gs ++ ys = cc in
    let k = simp (head, length-append) at h in
    let shorter : length (encode_utf8_all fs) ≤ length (encode_utf8_all gs) = omega (arith, k) in
    omega (arith, fewer fs gs xs ys tail shorter)

-- the first place of characters, where there is no earlier one, and none
place_here : (t s : List ℕ) → starts_with nat_eq s t ≡ true → place_of_text t s ≡ Some 0
place_here t [] h = rw h refl
place_here t (c ∷ s) h = rw h refl

not_front : (t s : List ℕ) → ((rs : List ℕ) → s ≡ t ++ rs → ⊥) → (b : Bool) → starts_with nat_eq s t ≡ b → b ≡ false
not_front t s f true e = absurd (f (drop (length t) s) (front_of s t e))
not_front t s f false e = refl

place_further : (t s : List ℕ) (c : ℕ) → ((rs : List ℕ) → c ∷ s ≡ t ++ rs → ⊥) → place_of_text t (c ∷ s) ≡ option_map suc (place_of_text t s)
place_further t s c f = rw (not_front t (c ∷ s) f (starts_with nat_eq (c ∷ s) t) refl) refl

place_found : (t fs bs : List ℕ) → ((gs rs : List ℕ) → fs ++ (t ++ bs) ≡ gs ++ (t ++ rs) → length fs ≤ length gs) → place_of_text t (fs ++ (t ++ bs)) ≡ Some (length fs)
place_found t [] bs f = place_here t (t ++ bs) (front_is t bs)
place_found t (c ∷ fs) bs f =
    place_further t (fs ++ (t ++ bs)) c (λ rs e. absurd (omega (arith, f [] rs e)))
    ∙ ap (option_map suc) (place_found t fs bs (λ gs rs e. omega (arith, f (c ∷ gs) rs (ap (λ l. c ∷ l) e))))

place_missing : (t s : List ℕ) → ((gs rs : List ℕ) → s ≡ gs ++ (t ++ rs) → ⊥) → place_of_text t s ≡ None
place_missing t [] f = rw (not_front t [] (f []) (starts_with nat_eq [] t) refl) refl
place_missing t (c ∷ s) f = place_further t s c (f []) ∙ ap (option_map suc) (place_missing t s (λ gs rs e. f (c ∷ gs) rs (ap (λ l. c ∷ l) e)))

-- what a search in bytes finds
pub found_place : (s t : List ℕ) (i j : ℕ) → IsUtf8 s → IsUtf8 t → i ≤ length s → FindsText t s (Some (i, j)) → place_of_text (chars t) (chars s) ≡ Some (length (chars (take i s)))
found_place s t i j us ut low h =
    let c = cut_at s t i j us ut low h.1 in
    let fs = chars (take i s) in
    let bs = chars (drop j s) in
    let size : length (encode_utf8_all fs) ≤ i = omega (arith, ap length (encodes-chars (take i s) c.front), length-take i s) in
    ap (place_of_text (chars t)) c.whole
    ∙ place_found (chars t) fs bs (λ gs rs e.
    fewer fs gs (chars t ++ bs) (chars t ++ rs) e (omega (arith, size, no_earlier s t gs rs i us ut h.0 (c.whole ∙ e))))

pub no_place : (s t : List ℕ) → IsUtf8 s → IsUtf8 t → FindsText t s None → place_of_text (chars t) (chars s) ≡ None
no_place s t us ut h = place_missing (chars t) (chars s) (λ gs rs e.
    let k = length (encode_utf8_all gs) in
    let whole = bytes_from s t gs rs us ut e in
    let within : k ≤ length s = omega (arith, simp length-append at (ap length whole)) in
    h k within (encode_utf8_all rs) (ap (drop k) whole ∙ drop-append_seam (encode_utf8_all gs) (t ++ encode_utf8_all rs)))

pub within_same : (r : Bool) (s t : List ℕ) → IsUtf8 s → IsUtf8 t → MatchBool r (HasMatch (FindsText t) s) (FindsText t s None) → r ≡ is_within (chars t) (chars s)
within_same true s t us ut m = sym (ap is_some (found_place s t m.0 m.1 us ut (omega arith) m.2))
within_same false s t us ut m = sym (ap is_some (no_place s t us ut m))

pub before_found : (s t front back : List ℕ) → IsUtf8 s → IsUtf8 t → SplitsAroundMatch (FindsText t) s front back → front ≡ encode_utf8_all (text_before (chars s) (chars t))
before_found s t front back us ut m =
    let low : m.0 ≤ length s = omega arith in
    let c = cut_at s t m.0 m.1 us ut low m.2.1 in
    let fs = chars (take m.0 s) in
    let rest = chars t ++ chars (drop m.1 s) in
    let e : text_before (chars s) (chars t) ≡ fs =
    ap (part_before (chars s)) (found_place s t m.0 m.1 us ut low m.2) ∙ ap (take (length fs)) c.whole ∙ take-append_seam fs rest in
    m.3 ∙ sym (ap encode_utf8_all e ∙ encodes-chars (take m.0 s) c.front)

pub after_found : (s t front back : List ℕ) → IsUtf8 s → IsUtf8 t → SplitsAroundMatch (FindsText t) s front back → back ≡ encode_utf8_all (text_after (chars s) (chars t))
after_found s t front back us ut m =
    let low : m.0 ≤ length s = omega arith in
    let c = cut_at s t m.0 m.1 us ut low m.2.1 in
    let fs = chars (take m.0 s) in
    let bs = chars (drop m.1 s) in
    let e : text_after (chars s) (chars t) ≡ bs =
    ap (part_after (chars s) (length (chars t))) (found_place s t m.0 m.1 us ut low m.2) ∙ ap (drop (length fs + length (chars t))) c.whole
    ∙ drop-append-add fs (chars t ++ bs) (length (chars t)) ∙ drop-append_seam (chars t) bs in
    m.4 ∙ sym (ap encode_utf8_all e ∙ encodes-chars (drop m.1 s) c.back)

pub before_none : (s t : List ℕ) → IsUtf8 s → IsUtf8 t → FindsText t s None → [] ≡ encode_utf8_all (text_before (chars s) (chars t))
before_none s t us ut h = sym (ap (λ o. encode_utf8_all (part_before (chars s) o)) (no_place s t us ut h))

pub after_none : (s t : List ℕ) → IsUtf8 s → IsUtf8 t → FindsText t s None → [] ≡ encode_utf8_all (text_after (chars s) (chars t))
after_none s t us ut h = sym (ap (λ o. encode_utf8_all (part_after (chars s) (length (chars t)) o)) (no_place s t us ut h))
