use Rattle.std.proofs.Common.{◌≡◌, take, reverse}
use Rattle.sx_build.specs.InForce.{first_binding}
use Rattle.sx_build.proofs.bindings.last.Given as goal

abbrev pub invariant-loop-at : goal.invariant-loop-at
invariant-loop-at l = first_binding (reverse (take l.at l.bindings)) l.prefix ≡ first_binding (reverse l.bindings) l.prefix
