use Rattle.std.proofs.Common.{◌≤◌, length}
use Prim.Native.Nat.{max}
use denote.Param.Weighed.{most}
use Rattle.sx_kinds.specs.declared.expressions.Expr.{size-Expr}
use Rattle.sx_kinds.proofs.expressions.Expr.+drop.Given as goal

abbrev pub decreases-drop : goal.decreases-drop
decreases-drop l = goal.size-drop l

abbrev pub invariant-loop-before : goal.invariant-loop-before
invariant-loop-before l = max (size-Expr l.first) (most size-Expr l.parts) ≤ max (size-Expr l.initial.first) (most size-Expr l.initial.parts)

abbrev pub decreases-loop-before : goal.decreases-loop-before
decreases-loop-before l = length l.parts

abbrev pub invariant-loop-self : goal.invariant-loop-self
invariant-loop-self l = size-Expr l.self ≤ size-Expr l.fn.self

abbrev pub decreases-loop-self : goal.decreases-loop-self
decreases-loop-self l = size-Expr l.self
