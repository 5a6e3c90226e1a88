use Rattle.std.proofs.Common.{◌≡◌, ◌+◌, ◌*◌, take}
use Rattle.std.specs.Prelude.{IfSome}
use Rattle.sx_kinds.specs.Ways.{front}
use Rattle.sx_kinds.specs.declared.walks.Way.TheVariants as way
use Rattle.sx_kinds.specs.declared.expressions.Expr.{Expr, size-Expr}
use Rattle.sx_kinds.proofs.+copying_expressions.Given as goal

abbrev pub decreases-copies::copy_level : goal.decreases-copies::copy_level
decreases-copies::copy_level l = size-Expr l.e.now * 36893488147419103232

abbrev pub decreases-copies::copy_up : goal.decreases-copies::copy_up
decreases-copies::copy_up l = size-Expr l.e.now * 36893488147419103232 + l.count + 1

abbrev pub decreases-expressions::Expr::copy : goal.decreases-expressions::Expr::copy
decreases-expressions::Expr::copy l = size-Expr l.e.now * 36893488147419103232 + 18446744073709551618

abbrev pub invariant-copies::copy_level-loop-part : goal.invariant-copies::copy_level-loop-part
invariant-copies::copy_level-loop-part l =
    IfSome l.fn.first (λ (made : Expr). made ≡ front way.FirstParts 1 l.e) →
    (l.parts ≡ take l.part-index l.part-items) × IfSome l.first (λ (made : Expr). (l.part-index ≡ 0) × (made ≡ front way.FirstParts 1 l.e))
