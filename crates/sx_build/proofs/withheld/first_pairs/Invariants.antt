use Rattle.std.proofs.Common.{◌≡◌, take}
use Rattle.sx_build.proofs.withheld.first_pairs.Given as goal

abbrev pub invariant-loop-at : goal.invariant-loop-at
invariant-loop-at l = l.first.items ≡ take l.at l.pairs
