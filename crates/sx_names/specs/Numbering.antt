-- What it means that things have numbers: a list holds each once, and a thing's number is its place from 0.
use Rattle.std.specs.Prelude.{◌≡◌, ℕ, ◌<◌, ◌⊎◌, List, [], ◌∷◌, ◌++◌, length, slice_get, Some}
use Rattle.std.specs.Option.{option_map_or}

module _ {X : Type 0} where
  -- two places that hold the same are one place
  abbrev pub IsDistinct : List X → Type 0
  IsDistinct xs = (i j : ℕ) (x : X) → slice_get xs i ≡ Some x → slice_get xs j ≡ Some x → i ≡ j

  -- no place holds x
  abbrev pub IsAbsent : List X → X → Type 0
  IsAbsent xs x = (i : ℕ) → ¬ (slice_get xs i ≡ Some x)

  -- each place of old holds in new what it held
  abbrev pub KeepsPlaces : List X → List X → Type 0
  KeepsPlaces old new = (i : ℕ) → i < length old → slice_get new i ≡ slice_get old i

  -- x has the number n: it had it and nothing changed, or it is new, goes last, and its number is how many there were
  abbrev pub GetsNumber : List X → X → ℕ → List X → Type 0
  GetsNumber old x n new = ((slice_get old n ≡ Some x) × (new ≡ old))
      ⊎ (IsAbsent old x × (n ≡ length old) × (new ≡ old ++ x ∷ []))

-- names by their numbers: the bytes of the namespace URI and of the local name of each, at the place that is its number
abbrev pub NameTable : Type 0
NameTable = List (List ℕ × List ℕ)

-- the namespace URI of the name at a place, and no bytes past the last
abbrev pub uri_at : NameTable → ℕ → List ℕ
uri_at names n = option_map_or (λ name. name.0) (slice_get names n) []

-- the local name of the name at a place, and no bytes past the last
abbrev pub local_at : NameTable → ℕ → List ℕ
local_at names n = option_map_or (λ name. name.1) (slice_get names n) []
