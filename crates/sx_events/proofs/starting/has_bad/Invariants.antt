use Rattle.std.proofs.Common.{◌≡◌, length}
use Rattle.sx_events.specs.Place.{has_bad}
use Rattle.sx_events.proofs.starting.has_bad.Given as goal

abbrev pub invariant-loop-rest : goal.invariant-loop-rest
invariant-loop-rest l = has_bad l.rest ≡ has_bad l.fn.spaces

abbrev pub decreases-loop-rest : goal.decreases-loop-rest
decreases-loop-rest l = length l.rest
