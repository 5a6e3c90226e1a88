use Rattle.std.proofs.Common.{◌≡◌, bytes_eq, drop}
use Rattle.std.specs.List.{position_from}
use Rattle.sx_build.proofs.withheld.pair_place.Given as goal

abbrev pub invariant-loop-at : goal.invariant-loop-at
invariant-loop-at l = position_from (λ p. bytes_eq p.name l.name) l.at (drop l.at l.pairs) ≡ position_from (λ p. bytes_eq p.name l.name) l.from (drop l.from l.pairs)
