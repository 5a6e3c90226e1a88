use Rattle.std.proofs.Common.{◌≡◌, length}
use Rattle.sx_events.specs.Place.{declares_twice}
use Rattle.sx_events.proofs.starting.declares_twice.Given as goal

abbrev pub invariant-loop-rest : goal.invariant-loop-rest
invariant-loop-rest l = declares_twice l.rest ≡ declares_twice l.fn.spaces

abbrev pub decreases-loop-rest : goal.decreases-loop-rest
decreases-loop-rest l = length l.rest
