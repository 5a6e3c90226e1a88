-- A field of each element of a list, when one element is read or replaced.
use Rattle.std.proofs.Common.{◌≡◌, ℕ, ◌<◌, List, length, map, get_or, set, sym, ap, ◌∙◌}
use Rattle.std.proofs.Math.Seq.{map-set_same}
use Rattle.std.proofs.lemmas.List.{get_or-map, map-set}

-- the new element has the same field
pub field_kept : {A B : Type 0} (f : A → B) (l : List A) (i : ℕ) (y r : A) → r ≡ get_or l i r → f y ≡ f r → map f (set l i y) ≡ map f l
field_kept f l i y r at same = map-set_same f l i y r (same ∙ ap f at)

-- the field of an element that was read
pub field_read : {A B : Type 0} (f : A → B) (l : List A) (i : ℕ) (r : A) (d : B) → i < length l → r ≡ get_or l i r → get_or (map f l) i d ≡ f r
field_read f l i r d within at = get_or-map f l i r d within ∙ ap f (sym at)

-- the new element has another
pub field_set : {A B : Type 0} (f : A → B) (l : List A) (i : ℕ) (y : A) (z : B) → f y ≡ z → map f (set l i y) ≡ set (map f l) i z
field_set f l i y z e = map-set f l i y ∙ ap (λ w. set (map f l) i w) e
