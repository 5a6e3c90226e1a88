use Rattle.std.proofs.Common.{ap, sym, ◌∙◌}
use Rattle.std.specs.Option.{option_copied}
use Rattle.sx_kinds.proofs.Ways.{front_last, next_end, next_none}
use Rattle.sx_kinds.proofs.expressions.Expr.below.Goals as goal

pub returns-in_default-clause-is : goal.returns-in_default-clause-is
returns-in_default-clause-is c =
    let stays = next_none c.args.way c.loop-left.e.now c.as_slice.result.now (sym c.goes_on.ensures ∙ c.if-goes_on.true) c.as_slice.ensures
    (sym (ap option_copied c.in_default.is) ∙ c.first.ensures.value) in
    sym (front_last c.args.way c.loop-left.left c.loop-left.e.now stays) ∙ c.loop-left.invariant.0

pub returns-else-goes_on-clause-is : goal.returns-else-goes_on-clause-is
returns-else-goes_on-clause-is c =
    let stays = next_end c.args.way c.loop-left.e.now (sym c.goes_on.ensures ∙ c.if-goes_on.false) in
    sym (front_last c.args.way c.loop-left.left c.loop-left.e.now stays) ∙ c.loop-left.invariant.0
