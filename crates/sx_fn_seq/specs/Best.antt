-- The best of items, found one behind the other.
use Rattle.std.specs.Prelude.{Bool, if◌then◌else◌, List, [], ◌∷◌, Result, Ok}
use Rattle.sx_atoms.specs.Numbers.{◌>>=◌}
use Rattle.sx_atoms.specs.declared.atoms.Atom.{Atom}
use Rattle.sx_atoms.specs.declared.comparison.CmpOp.{CmpOp}
use Rattle.sx_atoms.specs.declared.error_codes.Code.{Code}
use Rattle.sx_fn_seq.specs.Extremes.{is_text_atom, compared_among}
use Rattle.sx_fn_seq.specs.Order.{stands}

-- the better of the best so far and one more: of equal ones the first one
abbrev pub better_of : CmpOp → Atom → Atom → Atom
better_of operator best x = if stands operator x best then x else best

-- the better of the best so far and one item more
abbrev pub best_with : CmpOp → Bool → Atom → Atom → Result Atom Code
best_with operator texts best item = do
  x ← compared_among texts item
  Ok (better_of operator best x)

-- the best of the best so far and of more items, one behind the other
abbrev pub best_from : CmpOp → Bool → Atom → List Atom → Result Atom Code
best_from operator texts best [] = Ok best
best_from operator texts best (item ∷ rest) = do
  next ← best_with operator texts best item
  best_from operator texts next rest

-- the best of a first item and of more items
abbrev pub best_of : CmpOp → Atom → List Atom → Result Atom Code
best_of operator item rest = do
  first ← compared_among (is_text_atom item) item
  best_from operator (is_text_atom item) first rest
