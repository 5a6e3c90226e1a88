use Rattle.std.proofs.Common.{◌≡◌, ◌≤◌}
use Rattle.sx_kinds.specs.Ways.{front}
use Rattle.sx_kinds.specs.declared.expressions.Expr.{size-Expr}
use Rattle.sx_kinds.proofs.expressions.Expr.below.Given as goal

abbrev pub invariant-loop-left : goal.invariant-loop-left
invariant-loop-left l = (front l.way l.left l.e ≡ front l.way l.count l.self) × (size-Expr l.e ≤ size-Expr l.self)

abbrev pub decreases-loop-left : goal.decreases-loop-left
decreases-loop-left l = l.left
