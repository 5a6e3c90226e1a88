use Rattle.std.proofs.Common.{◌≡◌, ◌++◌, drop}
use Rattle.sx_lines.specs.Print.{pair_lines, IsFront}
use Rattle.sx_lines.proofs.printing.append_pairs.Given as goal

abbrev pub invariant-loop-pair : goal.invariant-loop-pair
invariant-loop-pair l = (l.out.items ++ pair_lines (drop l.pair-index l.pairs) ≡ l.fn.out.items ++ pair_lines l.pairs) × IsFront l.fn.out.items l.out.items
