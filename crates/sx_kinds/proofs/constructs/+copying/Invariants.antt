use Rattle.std.proofs.Common.{◌≡◌, take}
use Rattle.sx_kinds.proofs.constructs.+copying.Given as goal

abbrev pub invariant-copy_instrs-loop-instr : goal.invariant-copy_instrs-loop-instr
invariant-copy_instrs-loop-instr l = l.copy ≡ take l.instr-index l.instrs
