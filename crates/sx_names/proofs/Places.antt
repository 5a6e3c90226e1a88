-- What a caller cites of things that have numbers.
use Rattle.std.proofs.Common.{◌≡◌, ℕ, suc, zero, ◌<◌, ◌⊎◌, ◌↔◌, inl, inr, List, [], ◌∷◌, ◌++◌, length, slice_get, Option, None, Some, refl, sym, ap, ◌∙◌, subst, arith}
use Rattle.std.proofs.lemmas.Option.{slice_get_within}
use Rattle.std.specs.Option.{option_map_or}
use Rattle.sx_names.specs.Numbering.{IsDistinct, IsAbsent, KeepsPlaces, GetsNumber, uri_at, local_at}

module _ {X : Type 0} where
  -- a push leaves the places that were there
  pub KeepsPlaces-append : (xs ys : List X) → KeepsPlaces xs (xs ++ ys)
  KeepsPlaces-append [] ys i h = absurd (omega arith)
  KeepsPlaces-append (x ∷ xs) ys zero h = refl
  KeepsPlaces-append (x ∷ xs) ys (suc i) h = KeepsPlaces-append xs ys i (omega arith)

  pub KeepsPlaces-refl : (xs : List X) → KeepsPlaces xs xs
  KeepsPlaces-refl xs i h = refl

  -- what had a place has it still
  pub place_stays : (old new : List X) → KeepsPlaces old new → (i : ℕ) (x : X) → slice_get old i ≡ Some x → slice_get new i ≡ Some x
  place_stays old new kept i x at = kept i (slice_get_within old i x at) ∙ at

  -- a place below the length holds something
  pub held_place : (xs : List X) (i : ℕ) → i < length xs → (x : X) × (slice_get xs i ≡ Some x)
  held_place [] i h = absurd (omega arith)
  held_place (x ∷ xs) zero h = (x, refl)
  held_place (x ∷ xs) (suc i) h = held_place xs i (omega arith)

  -- so no place goes
  pub within_stays : (old new : List X) → KeepsPlaces old new → (i : ℕ) → i < length old → i < length new
  within_stays old new kept i h = let held = held_place old i h in slice_get_within new i held.0 (place_stays old new kept i held.0 held.1)

  -- and places stay over any calls
  pub KeepsPlaces-trans : (old mid new : List X) → KeepsPlaces old mid → KeepsPlaces mid new → KeepsPlaces old new
  KeepsPlaces-trans old mid new first second i h = second i (within_stays old mid first i h) ∙ first i h

  -- a push puts its item last
  pub slice_get-push : (xs : List X) (x : X) → slice_get (xs ++ x ∷ []) (length xs) ≡ Some x
  slice_get-push [] x = refl
  slice_get-push (y ∷ ys) x = slice_get-push ys x

  -- what stands at a place after a push stood there before, or is what was pushed
  pub push_cases : (xs : List X) (x : X) (i : ℕ) (y : X) → slice_get (xs ++ x ∷ []) i ≡ Some y → (slice_get xs i ≡ Some y) ⊎ ((i ≡ length xs) × (x ≡ y))
  push_cases [] x zero y at = inr (refl, cc)
  push_cases [] x (suc i) y at = absurd (cc)
  push_cases (z ∷ zs) x zero y at = inl at
  push_cases (z ∷ zs) x (suc i) y at = elim (push_cases zs x i y at) as (λ _. (slice_get zs i ≡ Some y) ⊎ ((suc i ≡ suc (length zs)) × (x ≡ y))) [ inl old ↦ inl old | inr last ↦ inr (ap suc last.0, last.1) ]

  -- a new item leaves the items distinct
  pub IsDistinct-push : (xs : List X) (x : X) → IsDistinct xs → IsAbsent xs x → IsDistinct (xs ++ x ∷ [])
  IsDistinct-push xs x distinct absent i j y at there = by (push_cases xs x i y at) (push_cases xs x j y there)
    where
      by : (slice_get xs i ≡ Some y) ⊎ ((i ≡ length xs) × (x ≡ y)) → (slice_get xs j ≡ Some y) ⊎ ((j ≡ length xs) × (x ≡ y)) → i ≡ j
      by (inl p) (inl q) = distinct i j y p q
      by (inl p) (inr q) = absurd (absent i (p ∙ ap Some (sym q.1)))
      by (inr p) (inl q) = absurd (absent j (q ∙ ap Some (sym p.1)))
      by (inr p) (inr q) = p.0 ∙ sym q.0

  -- what has a number among distinct items keeps it, and nothing is added
  pub number_is_place : (old new : List X) (x : X) (n k : ℕ) → IsDistinct old → GetsNumber old x n new → slice_get old k ≡ Some x → (n ≡ k) × (new ≡ old)
  number_is_place old new x n k distinct (inl known) at = (distinct n k x known.0 at, known.1)
  number_is_place old new x n k distinct (inr fresh) at = absurd (fresh.0 k at)

  -- so among distinct items two numbers are equal exactly where their items are
  pub same_number_same_item : (xs : List X) (n k : ℕ) (x y : X) → IsDistinct xs → slice_get xs n ≡ Some x → slice_get xs k ≡ Some y → (n ≡ k) ↔ (x ≡ y)
  same_number_same_item xs n k x y distinct at there =
      (λ e. let same : Some x ≡ Some y = sym at ∙ ap (slice_get xs) e ∙ there in (cc), λ e. distinct n k y (at ∙ ap Some e) there)

  -- where x is absent, no number is its place
  pub exact_where_absent : (xs : List X) (x : X) (n : ℕ) → IsAbsent xs x → (◌≡◌ {A = Option ℕ} None (Some n)) ↔ (slice_get xs n ≡ Some x)
  exact_where_absent xs x n absent = (λ e. cc, λ at. absurd (absent n at))

  -- and where it has a place, among distinct items, that is the only one
  pub exact_where_placed : (xs : List X) (x : X) (m n : ℕ) → IsDistinct xs → slice_get xs m ≡ Some x → (◌≡◌ {A = Option ℕ} (Some m) (Some n)) ↔ (slice_get xs n ≡ Some x)
  exact_where_placed xs x m n distinct at = (λ e. let same : m ≡ n = (cc) in subst (λ k. slice_get xs k ≡ Some x) same at, λ there. ap Some (distinct m n x at there))

  module _ (old new : List X) (x : X) (n : ℕ) where
    -- it stands at its number
    pub placed_by_number : GetsNumber old x n new → slice_get new n ≡ Some x
    placed_by_number (inl known) = ap (λ xs. slice_get xs n) known.1 ∙ known.0
    placed_by_number (inr fresh) = ap (λ xs. slice_get xs n) fresh.2 ∙ ap (slice_get (old ++ x ∷ [])) fresh.1 ∙ slice_get-push old x

    -- each number that was given keeps its item
    pub kept_by_number : GetsNumber old x n new → KeepsPlaces old new
    kept_by_number (inl known) = subst (KeepsPlaces old) (sym known.1) (KeepsPlaces-refl old)
    kept_by_number (inr fresh) = subst (KeepsPlaces old) (sym fresh.2) (KeepsPlaces-append old (x ∷ []))

    -- and the items stay distinct
    pub distinct_by_number : IsDistinct old → GetsNumber old x n new → IsDistinct new
    distinct_by_number distinct (inl known) = subst IsDistinct (sym known.1) distinct
    distinct_by_number distinct (inr fresh) = subst IsDistinct (sym fresh.2) (IsDistinct-push old x distinct fresh.0)

-- a name has the parts that its place gives
pub uri_at-place : (names : List (List ℕ × List ℕ)) (n : ℕ) (uri local : List ℕ) → slice_get names n ≡ Some (uri, local) → uri_at names n ≡ uri
uri_at-place names n uri local at = ap (λ o. option_map_or (λ name. name.0) o []) at

pub local_at-place : (names : List (List ℕ × List ℕ)) (n : ℕ) (uri local : List ℕ) → slice_get names n ≡ Some (uri, local) → local_at names n ≡ local
local_at-place names n uri local at = ap (λ o. option_map_or (λ name. name.1) o []) at

-- and the place of a number that was given holds those parts
pub place_of_parts : (names : List (List ℕ × List ℕ)) (n : ℕ) → n < length names → slice_get names n ≡ Some (uri_at names n, local_at names n)
place_of_parts [] n h = absurd (omega arith)
place_of_parts (name ∷ names) zero h = refl
place_of_parts (name ∷ names) (suc n) h = place_of_parts names n (omega arith)
