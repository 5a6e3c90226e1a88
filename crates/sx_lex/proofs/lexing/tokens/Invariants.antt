use Rattle.std.proofs.Common.{◌-◌, length}
use Rattle.sx_lex.proofs.Readings.{IsReadTo}
use Rattle.sx_lex.proofs.lexing.tokens.Given as goal

abbrev pub invariant-loop-start : goal.invariant-loop-start
invariant-loop-start l = IsReadTo l.s l.found l.start

abbrev pub decreases-loop-start : goal.decreases-loop-start
decreases-loop-start l = length l.s - l.start
