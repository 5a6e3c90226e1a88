use Rattle.std.proofs.Common.{◌≤◌, get_or, arith, below_more}
use Rattle.std.proofs.lemmas.Nat.{le_or_l, le_or_r}
use Rattle.std.proofs.lemmas.Bool.{ltb-true}
use Rattle.sx_esis.proofs.PlaceLemmas.{plain_text}
use Rattle.sx_esis.proofs.form.is_plain.Goals as goal

pub loop-byte-preserved : goal.loop-byte-preserved
loop-byte-preserved c =
    let byte = get_or c.args.line.now c.loop-byte.byte-index 0 in
    let bits = c.loop-byte.bits in
    below_more _ _
    (λ k below. let here = c.loop-byte.invariant k below in (omega (arith, here.0, c.min-least.ensures), omega (arith, here.1, le_or_l bits byte)))
    (omega (arith, c.min-least.ensures), le_or_r bits byte)

pub returns-then-least-gt0 : goal.returns-then-least-gt0
returns-then-least-gt0 c = λ few.
    plain_text c.args.line.now c.loop-byte.least c.loop-byte.bits (λ k within. c.loop-byte.invariant k (omega (arith, within, c.loop-byte-test.false)))
    c.if-least-gt0.true (ltb-true c.loop-byte.bits 128 few)
