use Rattle.std.proofs.Common.{◌≡◌, length}
use Rattle.sx_events.specs.Starting.{has_double_number}
use Rattle.sx_events.proofs.starting.has_double.Given as goal

abbrev pub invariant-loop-rest : goal.invariant-loop-rest
invariant-loop-rest l = has_double_number l.rest ≡ has_double_number l.fn.attrs

abbrev pub decreases-loop-rest : goal.decreases-loop-rest
decreases-loop-rest l = length l.rest
