use Rattle.std.proofs.Common.{◌≡◌, length}
use Rattle.sx_events.specs.Starting.{has_number}
use Rattle.sx_events.proofs.starting.has_number.Given as goal

abbrev pub invariant-loop-rest : goal.invariant-loop-rest
invariant-loop-rest l = has_number l.rest l.number ≡ has_number l.fn.attrs l.fn.number

abbrev pub decreases-loop-rest : goal.decreases-loop-rest
decreases-loop-rest l = length l.rest
