use Rattle.std.proofs.Common.{◌≡◌, drop}
use Rattle.sx_kinds.specs.Settled as spec
use Rattle.sx_types.proofs.places.latest.Given as goal

abbrev pub invariant-loop-var : goal.invariant-loop-var
invariant-loop-var l = spec.latest l.name (drop l.var-index l.vars) l.found ≡ spec.type_in l.name l.vars
