-- The types of variables.
use Rattle.std.proofs.Common.{◌≡◌, ◌==◌, ℕ, List, [], ◌∷◌, ◌++◌, cond, refl}
use Rattle.sx_kinds.specs.Settled.{latest}
use Rattle.sx_kinds.specs.declared.types.Ty.{Ty}
use Rattle.sx_kinds.specs.declared.types.VarType.{VarType}

pub latest_more : (x : ℕ) (vs : List VarType) (v : VarType) (found : Ty) → latest x (vs ++ v ∷ []) found ≡ cond (v.name == x) v.ty (latest x vs found)
latest_more x [] v found = refl
latest_more x (w ∷ ws) v found = latest_more x ws v (cond (w.name == x) w.ty found)
