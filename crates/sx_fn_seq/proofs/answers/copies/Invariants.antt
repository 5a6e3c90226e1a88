use Rattle.std.proofs.Common.{◌≡◌, take}
use Rattle.sx_fn_seq.proofs.answers.copies.Given as goal

abbrev pub invariant-loop-atom : goal.invariant-loop-atom
invariant-loop-atom l = l.copy ≡ take l.atom-index l.atoms
