use Rattle.std.proofs.Common.{◌≡◌, ◌+◌, ◌*◌, List, [], ◌++◌, drop, map, Result, Ok}
use Rattle.sx_atoms.specs.declared.error_codes.Code.{Code}
use Rattle.sx_kinds.specs.Settled.{settled_parts, settling_of}
use Rattle.sx_kinds.specs.Types.{each, typing}
use Rattle.sx_kinds.specs.declared.expressions.Expr.TheViews.{out-Expr, size-Expr}
use Rattle.sx_kinds.specs.declared.types.Typing.{Typing}
use Rattle.sx_types.specs.Places.{place_of}
use Rattle.sx_types.specs.Settling.{together}
use Rattle.sx_types.proofs.settling.+settling.Given as goal

-- A part is smaller than its expression. Of one expression, the calls that lead to settling it come first, then the rises by
-- how far they go, and last a level.
abbrev pub decreases-settle_level : goal.decreases-settle_level
decreases-settle_level l = size-Expr l.e.now * 0x2_0000_0000_0000_0000

abbrev pub decreases-settle_rise : goal.decreases-settle_rise
decreases-settle_rise l = size-Expr l.e.now * 0x2_0000_0000_0000_0000 + l.n + 1

abbrev pub decreases-settle_in : goal.decreases-settle_in
decreases-settle_in l = size-Expr l.e.now * 0x2_0000_0000_0000_0000 + 0x1_0000_0000_0000_0001

abbrev pub decreases-settle_inside : goal.decreases-settle_inside
decreases-settle_inside l = size-Expr l.part.now * 0x2_0000_0000_0000_0000 + 0x1_0000_0000_0000_0002

abbrev pub decreases-settle_part : goal.decreases-settle_part
decreases-settle_part l = size-Expr l.part.now * 0x2_0000_0000_0000_0000 + 0x1_0000_0000_0000_0003

abbrev pub invariant-settle_level-loop-part : goal.invariant-settle_level-loop-part
invariant-settle_level-loop-part l =
    let form = (out-Expr l.e).form in
    (before : Result (List Typing) Code) × (l.known ≡ together before) ×
    (each form l.here.context [] (map typing l.parts) ≡ before) ×
    (l.parts ++ settled_parts form (place_of l.here) before (map settling_of (drop l.part-index l.part-items)) ≡
    settled_parts form (place_of l.here) (Ok []) (map settling_of (out-Expr l.e).parts))
