use Rattle.std.proofs.Common.{◌∙◌, arith}
use Rattle.sx_atoms.proofs.Digits.{appended, all_appended}
use Rattle.sx_atoms.proofs.lexical.append_digits.Goals as goal

pub loop-digit-preserved : goal.loop-digit-preserved
loop-digit-preserved c =
    let more = appended c.args.digits.now c.loop-digit.digit-index c.loop-digit.all c.saturating_add-all.result (omega arith) (omega (arith, c.saturating_mul.ensures, c.saturating_add-all.ensures)) in
    (omega arith, more ∙ c.loop-digit.invariant.1)

pub returns : goal.returns
returns c = all_appended c.args.digits.now c.loop-digit.digit-index c.loop-digit.all _ (omega arith) c.loop-digit.invariant.0 c.loop-digit.invariant.1
