-- Texts that are cut and put together again.
use Rattle.std.proofs.Common.{◌≡◌, ℕ, zero, suc, ◌+◌, ◌<◌, ◌≤◌, Bool, true, false, ◌==◌, nat_eq, nat_lt, if◌then◌else◌, List, [], ◌∷◌, ◌++◌, length, take, drop, slice_get, Option, Some, None, is_some, Result, Ok, pos, refl, ap, sym, ◌∙◌, subst, arith, inl, inr, ◌⊎◌, zero-add, length-append}
use Rattle.std.proofs.lemmas.Bool.Decides.{nat_tests}
use Rattle.std.proofs.lemmas.List.{append-nil}
use Rattle.std.proofs.lemmas.List.Folds.{find_at}
use Rattle.std.proofs.lemmas.Str.{encodes-chars, chars-append, encodes-append}
use Rattle.std.specs.List.{starts_with, find, cons_option, position, position_or_len}
use Rattle.std.specs.Option.{option_map}
use Rattle.std.specs.Str.{chars, encode_utf8_all, IsUtf8}
use Rattle.sx_atoms.specs.Positions.{selects, from, at_positions}
use Rattle.sx_atoms.specs.declared.atoms.Atom.{Atom}
use Rattle.sx_atoms.specs.declared.error_codes.Code.{Code}
use Rattle.sx_atoms.specs.declared.functions.TextFn.TheVariants as fn
use Rattle.sx_fn_text.specs.Calls.{text_call, truth}
use Rattle.sx_fn_text.specs.Characters.{place_of_text, is_within, part_before, part_after, text_before, text_after, partner, translated}
use Rattle.sx_fn_text.specs.Laws.{text, integer}
use Rattle.sx_fn_text.proofs.Finds.{front_of}

-- answers of one text are one text
abbrev answer : List Atom → Result (List Atom) Code
answer atoms = Ok atoms

same_answer : (s t : List ℕ) → answer (text s) ≡ answer (text t) → s ≡ t
same_answer s t h = cc

pub lengths : (s t u : List ℕ) → IsUtf8 s → IsUtf8 t → text_call fn.Concat (text s ∷ text t ∷ []) ≡ Ok (text u)
    → text_call fn.StringLength (text u ∷ []) ≡ Ok (integer (length (chars s) + length (chars t)))
lengths s t u us ut h =
    let both : encode_utf8_all (chars s ++ (chars t ++ [])) ≡ s ++ t =
    encodes-append (chars s) (chars t ++ []) ∙ ap (λ l. encode_utf8_all (chars s) ++ encode_utf8_all l) (append-nil (chars t))
    ∙ ap (λ l. l ++ encode_utf8_all (chars t)) (encodes-chars s us) ∙ ap (λ l. s ++ l) (encodes-chars t ut) in
    let e : u ≡ s ++ t = sym (same_answer (encode_utf8_all (chars s ++ (chars t ++ []))) u h) ∙ both in
    let n : length (chars u) ≡ length (chars s) + length (chars t) = ap (λ l. length (chars l)) e ∙ ap length (chars-append s t us) ∙ length-append (chars s) (chars t) in
    ap (λ (k : ℕ). Ok (integer k)) n

-- a place cuts a text in three
here : (t s : List ℕ) (b : Bool) (r : Option ℕ) (i : ℕ) → starts_with nat_eq s t ≡ b → (if b then Some 0 else r) ≡ Some i → (b ≡ false → r ≡ Some i → s ≡ take i s ++ (t ++ drop (i + length t) s))
    → s ≡ take i s ++ (t ++ drop (i + length t) s)
here t s true r i e h f =
    let first : 0 ≡ i = cc in
    let cut : s ≡ t ++ drop (0 + length t) s = front_of s t e ∙ ap (λ (n : ℕ). t ++ drop n s) (sym (zero-add (length t))) in
    subst (λ (n : ℕ). s ≡ take n s ++ (t ++ drop (n + length t) s)) first cut
here t s false r i e h f = f refl h

one_further : (t : List ℕ) (c : ℕ) (s : List ℕ) (o : Option ℕ) (i : ℕ) → option_map suc o ≡ Some i → ((k : ℕ) → o ≡ Some k → s ≡ take k s ++ (t ++ drop (k + length t) s))
    → c ∷ s ≡ take i (c ∷ s) ++ (t ++ drop (i + length t) (c ∷ s))
one_further t c s None i h f = absurd (cc)
one_further t c s (Some k) i h f =
    let next : suc k ≡ i = cc in
    let e : suc (k + length t) ≡ suc k + length t = omega arith in
    subst (λ (n : ℕ). c ∷ s ≡ take n (c ∷ s) ++ (t ++ drop (n + length t) (c ∷ s))) next
    (ap (λ l. c ∷ l) (f k refl) ∙ ap (λ (n : ℕ). c ∷ (take k s ++ (t ++ drop n (c ∷ s)))) e)

place_cuts : (t s : List ℕ) (i : ℕ) → place_of_text t s ≡ Some i → s ≡ take i s ++ (t ++ drop (i + length t) s)
place_cuts t [] i h = here t [] (starts_with nat_eq [] t) None i refl h (λ e g. absurd (cc))
place_cuts t (c ∷ s) i h =
    here t (c ∷ s) (starts_with nat_eq (c ∷ s) t) (option_map suc (place_of_text t s)) i refl h (λ e g. one_further t c s (place_of_text t s) i g (place_cuts t s))

-- the parts text_before and behind the first place
parts_at : (s t : List ℕ) (o : Option ℕ) → place_of_text t s ≡ o → is_some o ≡ true → part_before s o ++ (t ++ part_after s (length t) o) ≡ s
parts_at s t None e h = absurd (cc)
parts_at s t (Some i) e h = sym (place_cuts t s i e)

same_truth : (a b : Bool) → answer (truth a) ≡ answer (truth b) → a ≡ b
same_truth a b h = cc

pub parts : (s t b a : List ℕ) → IsUtf8 s → IsUtf8 t → text_call fn.Contains (text s ∷ text t ∷ []) ≡ Ok (truth true)
    → text_call fn.SubstringBefore (text s ∷ text t ∷ []) ≡ Ok (text b) → text_call fn.SubstringAfter (text s ∷ text t ∷ []) ≡ Ok (text a) → b ++ (t ++ a) ≡ s
parts s t b a us ut h g k =
    let xs = chars s in
    let ys = chars t in
    let eb : encode_utf8_all (text_before xs ys) ≡ b = same_answer (encode_utf8_all (text_before xs ys)) b g in
    let ea : encode_utf8_all (text_after xs ys) ≡ a = same_answer (encode_utf8_all (text_after xs ys)) a k in
    let whole : text_before xs ys ++ (ys ++ text_after xs ys) ≡ xs = parts_at xs ys (place_of_text ys xs) refl (same_truth (is_within ys xs) true h) in
    let inner : encode_utf8_all (ys ++ text_after xs ys) ≡ t ++ a = encodes-append ys (text_after xs ys) ∙ ap (λ l. l ++ encode_utf8_all (text_after xs ys)) (encodes-chars t ut) ∙ ap (λ l. t ++ l) ea in
    sym (encodes-append (text_before xs ys) (ys ++ text_after xs ys) ∙ ap (λ l. l ++ encode_utf8_all (ys ++ text_after xs ys)) eb ∙ ap (λ l. b ++ l) inner)
    ∙ ap encode_utf8_all whole ∙ encodes-chars s us

-- each position is one from the first one on
from_first : (p : ℕ) → 1 ≤ p → selects (from (pos 1)) p ≡ true
from_first p h = grind (arith, nat_tests)

all_kept : (p : ℕ) (s : List ℕ) → 1 ≤ p → at_positions (selects (from (pos 1))) p s ≡ s
all_kept p [] h = refl
all_kept p (c ∷ s) h =
    let rest = at_positions (selects (from (pos 1))) (suc p) s in
    ap (λ (b : Bool). if b then c ∷ rest else rest) (from_first p h) ∙ ap (λ l. c ∷ l) (all_kept (suc p) s (omega arith))

pub whole : (s : List ℕ) → IsUtf8 s → text_call fn.Substring (text s ∷ integer 1 ∷ []) ≡ Ok (text s)
whole s us = ap (λ (l : List ℕ). Ok (text l)) (ap encode_utf8_all (all_kept 1 (chars s) (omega arith)) ∙ encodes-chars s us)

-- a character is its own partner in a text
found_same : (c : ℕ) (m : List ℕ) → (find (λ d. d == c) m ≡ Some c) ⊎ (find (λ d. d == c) m ≡ None)
found_same c [] = inr refl
found_same c (d ∷ m) = turn (d == c) refl (found_same c m)
  where
    turn : (b : Bool) → (d == c) ≡ b → (find (λ e. e == c) m ≡ Some c) ⊎ (find (λ e. e == c) m ≡ None)
        → ((if b then Some d else find (λ e. e == c) m) ≡ Some c) ⊎ ((if b then Some d else find (λ e. e == c) m) ≡ None)
    turn true e f = let k : d ≡ c = grind (arith, nat_tests) in inl (ap Some k)
    turn false e f = f

within_some : (m : List ℕ) (i : ℕ) → i < length m → slice_get m i ≡ None → ⊥
within_some [] i h e = omega arith
within_some (d ∷ m) zero h e = cc
within_some (d ∷ m) (suc i) h e = within_some m i (omega arith) e

partner_same : (c : ℕ) (m : List ℕ) → partner c m (position (λ d. d == c) m) ≡ Some c
partner_same c m = turn (nat_lt (position_or_len (λ d. d == c) m) (length m)) refl
  where
    turn : (b : Bool) → nat_lt (position_or_len (λ d. d == c) m) (length m) ≡ b
        → partner c m (if b then Some (position_or_len (λ d. d == c) m) else None) ≡ Some c
    turn true e =
        let n = position_or_len (λ (d : ℕ). d == c) m in
        let low : n < length m = grind (arith, nat_tests) in
        let at : find (λ d. d == c) m ≡ slice_get m n = find_at (λ d. d == c) m in
        elim (found_same c m) [ inl f ↦ sym at ∙ f | inr f ↦ absurd (within_some m n low (sym at ∙ f)) ]
    turn false e = refl

translated_same : (m s : List ℕ) → translated m m s ≡ s
translated_same m [] = refl
translated_same m (c ∷ s) = ap (λ (o : Option ℕ). cons_option o (translated m m s)) (partner_same c m) ∙ ap (λ l. c ∷ l) (translated_same m s)

pub unchanged : (s m : List ℕ) → IsUtf8 s → text_call fn.Translate (text s ∷ text m ∷ text m ∷ []) ≡ Ok (text s)
unchanged s m us = ap (λ (l : List ℕ). Ok (text l)) (ap encode_utf8_all (translated_same (chars m) (chars s)) ∙ encodes-chars s us)
