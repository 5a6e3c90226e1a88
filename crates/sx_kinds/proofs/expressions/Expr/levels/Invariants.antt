use Rattle.std.proofs.Common.{◌≡◌, ◌+◌, ◌≤◌, min}
use Rattle.sx_kinds.specs.Ways.{levels}
use Rattle.sx_kinds.proofs.expressions.Expr.levels.Given as goal

abbrev pub invariant-loop-e : goal.invariant-loop-e
invariant-loop-e l =
    (min (l.count + levels l.way l.e) 18446744073709551615 ≡ min (levels l.way l.self) 18446744073709551615) × (l.count ≤ 18446744073709551615)
