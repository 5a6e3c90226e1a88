-- The places and scopes of the code, as the definitions see them.
use Rattle.std.specs.Prelude.{List, [], ◌∷◌, ◌++◌, Option, Some, None}
use Rattle.sx_kinds.specs.Settled as settled
use Rattle.sx_kinds.specs.declared.types.VarType.{VarType}
use Rattle.sx_types.specs.declared.places.Place.{Place}
use Rattle.sx_types.specs.declared.places.Scope.{Scope, Base, Bound'}

-- the variables in scope, the innermost last
abbrev pub bindings : Scope → List VarType
bindings (Base vars) = vars.now
bindings (Bound' var p outer) = bindings outer ++ var ∷ []

-- a place
abbrev pub place_of : Place → settled.TypingPlace
place_of place = record {
  context = place.context;
  current = place.current;
  group = place.group;
  vars = bindings place.scope.now;
}

-- a variable that may be bound
abbrev pub one_bound : Option VarType → List VarType
one_bound None = []
one_bound (Some var) = var ∷ []
