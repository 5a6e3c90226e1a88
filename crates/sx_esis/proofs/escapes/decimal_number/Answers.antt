use Rattle.std.proofs.Common.{◌∙◌, arith}
use Rattle.sx_esis.proofs.NumberLemmas.{next_digit, last_digit}
use Rattle.sx_esis.proofs.escapes.decimal_number.Goals as goal

pub loop-digit-preserved : goal.loop-digit-preserved
loop-digit-preserved c =
    let product = c.saturating_mul.ensures in
    let digit = c.saturating_sub.ensures in
    let same = c.from.ensures in
    let sum = c.saturating_add-number.ensures in
    record {
      fits = omega arith;
      same =
          next_digit c.loop-digit.number c.args.digits.now c.loop-digit.digit-index c.saturating_add-number.result c.loop-digit-test.true (omega arith)
          ∙ c.loop-digit.invariant.same;
    }

pub returns : goal.returns
returns c =
    last_digit c.loop-digit.number c.args.digits.now c.loop-digit.digit-index c.loop-digit-test.false c.loop-digit.invariant.fits ∙ c.loop-digit.invariant.same
