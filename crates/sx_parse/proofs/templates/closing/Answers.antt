use Rattle.std.proofs.Common.{sym, ◌∙◌}
use Rattle.sx_parse.proofs.Braces.{scanned_end}
use Rattle.sx_parse.proofs.templates.closing.Goals as goal

-- src/templates.rt:40:13
pub returns-then-ends : goal.returns-then-ends
returns-then-ends c = scanned_end c.args.bytes.now c.loop-size.size c.loop-size.quote c.loop-size.invariant c.loop-size-test.true (sym c.ends.ensures ∙ c.if-ends.true)
