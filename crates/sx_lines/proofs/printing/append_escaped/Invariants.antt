use Rattle.std.proofs.Common.{◌≡◌, ◌++◌, length}
use Rattle.sx_lines.specs.Print.{escape, IsFront}
use Rattle.sx_lines.proofs.printing.append_escaped.Given as goal

abbrev pub invariant-loop-rest : goal.invariant-loop-rest
invariant-loop-rest l = (l.out.items ++ escape l.rest ≡ l.fn.out.items ++ escape l.fn.text) × IsFront l.fn.out.items l.out.items

abbrev pub decreases-loop-rest : goal.decreases-loop-rest
decreases-loop-rest l = length l.rest
