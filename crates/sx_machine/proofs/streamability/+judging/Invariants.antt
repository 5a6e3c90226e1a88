use Rattle.sx_machine.proofs.Judgings.{JudgedSoFar}
use Rattle.sx_machine.proofs.streamability.+judging.Given as goal

abbrev pub invariant-held_by_element-loop-instr : goal.invariant-held_by_element-loop-instr
invariant-held_by_element-loop-instr l = JudgedSoFar l.content l.instr-index l.inside l.consuming
