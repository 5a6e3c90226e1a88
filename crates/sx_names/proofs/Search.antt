-- What a search of a list by a test finds.
use Rattle.std.proofs.Common.{◌≡◌, ℕ, suc, zero, ◌<◌, Bool, true, false, ◌||◌, List, [], ◌∷◌, length, slice_get, get_or, position, Option, None, Some, refl, sym, ap, ◌∙◌, true≢false, arith, String, string_bytes, bytes_eq, ◌+◌, ◌-◌, ◌++◌, add-one, if◌then◌else◌}
use Rattle.std.specs.String.{string_eq}
use Rattle.indexmap.specs.IndexSet.{insert_key}
use Rattle.std.proofs.lemmas.List.{map-append}
use Rattle.std.proofs.lemmas.Option.{slice_get-get_or, slice_get-map}
use Rattle.std.specs.Option.{option_map}
use Rattle.std.proofs.lemmas.List.Quantifiers.{position-Some}
use Rattle.std.proofs.lemmas.Slice.Eq.{bytes_eq-Decides}
use Rattle.std.specs.List.{list_any}
use Rattle.sx_names.specs.Numbering.{IsAbsent}
use Rattle.sx_names.specs.Inside.{texts_of}

pub not_true : (b : Bool) → ¬ (b ≡ true) → b ≡ false
not_true true never = absurd (never refl)
not_true false never = refl

module _ {X : Type 0} (test : X → Bool) where
  -- an item that passes stands at the position that was found
  pub found_item : (xs : List X) (i : ℕ) → position test xs ≡ Some i → (x : X) × (slice_get xs i ≡ Some x) × (test x ≡ true)
  found_item [] i h = absurd (cc)
  found_item (x ∷ xs) i h =
      let p = position-Some test (x ∷ xs) i x h in
      (get_or (x ∷ xs) i x, slice_get-get_or (x ∷ xs) i x p.0, p.1)

  -- where none passes, each item fails
  pub fails_each : (xs : List X) → list_any test xs ≡ false → (i : ℕ) (x : X) → slice_get xs i ≡ Some x → test x ≡ false
  fails_each [] none i x at = absurd (cc)
  fails_each (y ∷ ys) none i x at = by (test y) refl (fails_each ys) i at
    where
      by : (b : Bool) → test y ≡ b → (list_any test ys ≡ false → (k : ℕ) (z : X) → slice_get ys k ≡ Some z → test z ≡ false) → (k : ℕ) → slice_get (y ∷ ys) k ≡ Some x → test x ≡ false
      by true e rest k here = absurd (true≢false (sym (ap (λ c. c || list_any test ys) e) ∙ none))
      by false e rest zero here = let same : y ≡ x = (cc) in sym (ap test same) ∙ e
      by false e rest (suc k) here = rest (sym (ap (λ c. c || list_any test ys) e) ∙ none) k x here

  -- and where each fails, none passes
  pub none_passes : (xs : List X) → ((i : ℕ) (x : X) → slice_get xs i ≡ Some x → test x ≡ false) → list_any test xs ≡ false
  none_passes [] fails = refl
  none_passes (y ∷ ys) fails = ap (λ c. c || list_any test ys) (fails 0 y refl) ∙ none_passes ys (λ i x at. fails (suc i) x at)

module _ {Y : Type 0} (text : List ℕ) where
  -- a string that was found has the next number among the texts
  pub found_text : (strings : List (String Y)) (i : ℕ) → position (λ s. bytes_eq text (string_bytes s)) strings ≡ Some i → slice_get (texts_of strings) (i + 1) ≡ Some text
  found_text strings i h = rw add-one (
      let found = found_item (λ s. bytes_eq text (string_bytes s)) strings i h in
      slice_get-map (λ s. string_bytes s) strings i ∙ ap (option_map (λ s. string_bytes s)) found.1 ∙ ap Some (sym ((bytes_eq-Decides text (string_bytes found.0)).0 found.2)))

  -- a text that is not empty and is none of the strings is not among the texts
  pub absent_text : (strings : List (String Y)) → list_any (λ s. bytes_eq text (string_bytes s)) strings ≡ false → 0 < length text → IsAbsent (texts_of strings) text
  absent_text strings none filled zero at = let empty : text ≡ [] = (cc) in omega (arith, ap length empty)
  absent_text strings none filled (suc i) at = by (slice_get strings i) refl
    where
      by : (o : Option (String Y)) → slice_get strings i ≡ o → ⊥
      by None e = let n : None ≡ Some text = sym (slice_get-map (λ s. string_bytes s) strings i ∙ ap (option_map (λ s. string_bytes s)) e) ∙ at in (cc)
      by (Some s) e =
          let same : Some (string_bytes s) ≡ Some text = sym (slice_get-map (λ s. string_bytes s) strings i ∙ ap (option_map (λ s. string_bytes s)) e) ∙ at in
          let bytes : text ≡ string_bytes s = (cc) in
          true≢false (sym ((bytes_eq-Decides text (string_bytes s)).1 bytes) ∙ fails_each (λ s. bytes_eq text (string_bytes s)) strings none i s e)

  -- a string that is not among the texts goes last
  pub added_text : (strings new : List (String Y)) (s : String Y) → string_bytes s ≡ text → IsAbsent (texts_of strings) text
      → new ≡ insert_key string_eq strings s → texts_of new ≡ texts_of strings ++ text ∷ []
  added_text strings new s bytes absent is =
      let none : list_any (string_eq s) strings ≡ false = none_passes (string_eq s) strings (λ i k at. not_true (string_eq s k) (
      λ same. absent (suc i) (slice_get-map (λ z. string_bytes z) strings i ∙ ap (option_map (λ z. string_bytes z)) at ∙ ap Some (sym ((bytes_eq-Decides (string_bytes s) (string_bytes k)).0 same) ∙ bytes)))) in
      let last : new ≡ strings ++ s ∷ [] = is ∙ ap (λ b. if b then strings else strings ++ s ∷ []) none in
      ap texts_of last ∙ ap (λ l. [] ∷ l) (map-append (λ z. string_bytes z) strings (s ∷ [])) ∙ ap (λ b. texts_of strings ++ b ∷ []) bytes

-- each string has the next number among the texts
pub text_place : {Y : Type 0} (strings : List (String Y)) (n : ℕ) (s : String Y) → 0 < n → slice_get strings (n - 1) ≡ Some s → slice_get (texts_of strings) n ≡ Some (string_bytes s)
text_place strings zero s h at = absurd (omega arith)
text_place strings (suc n) s h at =
    let before : suc n - 1 ≡ n = omega arith in
    slice_get-map (λ z. string_bytes z) strings n ∙ ap (option_map (λ z. string_bytes z)) (sym (ap (slice_get strings) before) ∙ at)
