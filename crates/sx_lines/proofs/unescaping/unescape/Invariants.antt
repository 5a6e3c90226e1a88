use Rattle.std.proofs.Common.{◌≡◌, ◌++◌, length}
use Rattle.sx_lines.specs.Print.{escape}
use Rattle.sx_lines.proofs.unescaping.unescape.Given as goal

abbrev pub invariant-loop-rest : goal.invariant-loop-rest
invariant-loop-rest l = escape l.out.items ++ l.rest ≡ l.fn.bytes

abbrev pub decreases-loop-rest : goal.decreases-loop-rest
decreases-loop-rest l = length l.rest
