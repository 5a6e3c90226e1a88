-- Lists by their last items.
use Rattle.std.proofs.Common.{◌≡◌, List, [], ◌∷◌, ◌++◌, reverse}
use Rattle.std.proofs.lemmas.List.{reverse-append}

module _ {X : Type 0} where
  pub reverse-snoc : (xs : List X) (x : X) → reverse (xs ++ x ∷ []) ≡ x ∷ reverse xs
  reverse-snoc xs x = reverse-append xs (x ∷ [])
