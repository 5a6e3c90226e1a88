use Rattle.std.proofs.Common.{◌≡◌, drop}
use Rattle.sx_build.specs.InForce.{first_binding}
use Rattle.sx_build.proofs.bindings.first.Given as goal

abbrev pub invariant-loop-binding : goal.invariant-loop-binding
invariant-loop-binding l = first_binding (drop l.binding-index l.bindings) l.prefix ≡ first_binding l.bindings l.prefix
