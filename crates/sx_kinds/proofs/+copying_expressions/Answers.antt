use Rattle.std.proofs.Common.{◌-◌, ◌/◌, ap, arith, sym, ◌∙◌}
use Rattle.sx_kinds.specs.Ways.{front}
use Rattle.sx_kinds.specs.declared.walks.Way.TheVariants as way
use Rattle.sx_kinds.proofs.Ways.{front_on}
use Rattle.sx_kinds.proofs.+copying_expressions.Goals as goal

pub copies::copy_up-returns : goal.copies::copy_up-returns
copies::copy_up-returns t c p =
    let half = c.args.count / 2 in
    let rest = c.args.count - half in
    let on = ap (front way.FirstParts rest) c.below-middle.ensures.is ∙ front_on way.FirstParts half rest c.args.count c.args.e.now (omega arith) in
    c.copy_up-2.ensures (c.in_ok-made.ensures (p ∙ sym on) ∙ c.below-middle.ensures.is)
