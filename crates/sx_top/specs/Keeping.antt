-- Tables that keep their places, over any calls.
use Rattle.std.proofs.Common.{ℕ, ◌<◌, [], length, refl, ◌∙◌}
use Rattle.std.proofs.lemmas.Option.{slice_get_within, slice_get-get_or}
use Rattle.std.specs.Prelude.{get_or}
use Rattle.sx_names.specs.Numbering.{NameTable, KeepsPlaces}

abbrev Names : Type 0
Names = NameTable

-- a table keeps its own places
pub keeps_same : (a : Names) → KeepsPlaces a a
keeps_same a i h = refl

-- a place that is kept is there
place_kept : (a b : Names) → KeepsPlaces a b → (i : ℕ) → i < length a → i < length b
place_kept a b kept i h = slice_get_within b i (get_or a i ([], [])) (kept i h ∙ slice_get-get_or a i ([], []) h)

-- what is kept in turn is kept
pub keeps_then : (a b c : Names) → KeepsPlaces a b → KeepsPlaces b c → KeepsPlaces a c
keeps_then a b c first second i h = second i (place_kept a b first i h) ∙ first i h
