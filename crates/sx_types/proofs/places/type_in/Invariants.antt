use Rattle.std.proofs.Common.{◌≡◌}
use Rattle.sx_kinds.specs.Settled as spec
use Rattle.sx_types.specs.Places.{bindings}
use Rattle.sx_types.proofs.places.type_in.Given as goal

abbrev pub invariant-loop-scope : goal.invariant-loop-scope
invariant-loop-scope l = spec.type_in l.name (bindings l.scope) ≡ spec.type_in l.name (bindings l.fn.scope)
