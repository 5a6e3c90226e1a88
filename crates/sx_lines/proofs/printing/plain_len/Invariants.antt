use Rattle.std.proofs.Common.{◌≡◌, ◌++◌, take, drop}
use Rattle.sx_lines.specs.Print.{escape}
use Rattle.sx_lines.proofs.printing.plain_len.Given as goal

abbrev pub invariant-loop-i : goal.invariant-loop-i
invariant-loop-i l = escape l.text ≡ take l.i l.text ++ escape (drop l.i l.text)
