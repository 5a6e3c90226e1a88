use Rattle.std.proofs.Common.{length, ◌-◌}
use Rattle.sx_parse.proofs.Braces.{Scanned}
use Rattle.sx_parse.proofs.templates.closing.Given as goal

abbrev pub invariant-loop-size : goal.invariant-loop-size
invariant-loop-size l = Scanned l.bytes l.size l.quote

abbrev pub decreases-loop-size : goal.decreases-loop-size
decreases-loop-size l = length l.bytes - l.size
