use Rattle.std.proofs.Common.{◌≡◌, ◌+◌, ◌*◌, List, [], drop, map}
use Rattle.sx_kinds.specs.Types.{each, parts_of_typings, typing}
use Rattle.sx_kinds.specs.declared.expressions.Expr.TheViews.{out-Expr, size-Expr}
use Rattle.sx_kinds.specs.declared.types.Typing.{Typing}
use Rattle.sx_types.specs.Firsts.{IsKnownTyping}
use Rattle.sx_types.proofs.typing.+typing.Given as goal

-- A part is smaller than its expression; of one expression the typing comes first, then the rises by how far they go, and
-- last a level.
abbrev pub decreases-level : goal.decreases-level
decreases-level l = size-Expr l.e.now * 0x2_0000_0000_0000_0000

abbrev pub decreases-rise : goal.decreases-rise
decreases-rise l = size-Expr l.e.now * 0x2_0000_0000_0000_0000 + l.n + 1

abbrev pub decreases-typing_of : goal.decreases-typing_of
decreases-typing_of l = size-Expr l.e.now * 0x2_0000_0000_0000_0000 + 0x1_0000_0000_0000_0001

abbrev pub invariant-level-loop-part : goal.invariant-level-loop-part
invariant-level-loop-part l =
    let form = (out-Expr l.e).form in
    (ts : List Typing) × (l.parts ≡ parts_of_typings ts) ×
    (IsKnownTyping l.e l.outer l.fn.first →
    each form l.context ts (map typing (drop l.part-index l.behind)) ≡ each form l.context [] (map typing (out-Expr l.e).parts))
