use Rattle.std.proofs.Common.{◌≡◌, ◌++◌, drop}
use Rattle.sx_build.specs.Kept.{plain_names}
use Rattle.sx_build.proofs.withheld.names_from.Given as goal

abbrev pub invariant-loop-at : goal.invariant-loop-at
invariant-loop-at l = l.names.items ++ plain_names (drop l.at l.pairs) ≡ plain_names (drop l.from l.pairs)
