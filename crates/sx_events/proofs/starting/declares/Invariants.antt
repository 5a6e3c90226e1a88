use Rattle.std.proofs.Common.{◌≡◌, length}
use Rattle.sx_events.specs.Place.{declares}
use Rattle.sx_events.proofs.starting.declares.Given as goal

abbrev pub invariant-loop-rest : goal.invariant-loop-rest
invariant-loop-rest l = declares l.rest l.prefix ≡ declares l.fn.spaces l.fn.prefix

abbrev pub decreases-loop-rest : goal.decreases-loop-rest
decreases-loop-rest l = length l.rest
