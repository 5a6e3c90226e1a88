use Rattle.std.proofs.Common.{ap, sym, ◌∙◌, arith}
use Rattle.std.specs.Option.{option_copied}
use Rattle.sx_kinds.proofs.Ways.{levels_end, levels_none, levels_some}
use Rattle.sx_kinds.proofs.expressions.Expr.levels.Goals as goal

pub returns-in_default : goal.returns-in_default
returns-in_default c =
    let h = levels_none c.args.way c.loop-e.e.now c.as_slice.result.now (sym c.goes_on.ensures ∙ c.loop-e-test.true) c.as_slice.ensures
    (sym (ap option_copied c.in_default.is) ∙ c.first.ensures.value) in
    let inv = c.loop-e.invariant in
    omega (arith, h, inv.0, inv.1)

pub loop-e-preserved : goal.loop-e-preserved
loop-e-preserved c =
    let h = levels_some c.args.way c.loop-e.e.now c.in-Some.first.now c.as_slice.result.now (sym c.goes_on.ensures ∙ c.loop-e-test.true) c.as_slice.ensures
    (sym (ap option_copied c.in-Some.is) ∙ c.first.ensures.value) in
    let inv = c.loop-e.invariant in
    (omega (arith, h, inv.0, inv.1), omega arith)

pub returns : goal.returns
returns c =
    let h = levels_end c.args.way c.loop-e.e.now (sym c.goes_on.ensures ∙ c.loop-e-test.false) in
    let inv = c.loop-e.invariant in
    omega (arith, h, inv.0, inv.1)
