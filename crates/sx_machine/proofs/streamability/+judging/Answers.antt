use Rattle.std.proofs.Common.{arith}
use Rattle.sx_machine.proofs.Judgings.{judged_consumes, literal_culprit, literal_parts}
use Rattle.sx_machine.proofs.streamability.+judging.Goals as goal

pub held_by_element-returns-clause-consumes : goal.held_by_element-returns-clause-consumes
held_by_element-returns-clause-consumes t c = judged_consumes c.args.content.now c.loop-instr.instr-index c.loop-instr.inside c.loop-instr.consuming c.loop-instr.invariant (omega arith)

pub held_by_instr-returns-in-Literal-clause-culprit : goal.held_by_instr-returns-in-Literal-clause-culprit
held_by_instr-returns-in-Literal-clause-culprit t c = literal_culprit c.args.instr.now c.in-Literal.label c.in-Literal.is c.as_slice.result.now c.as_slice.ensures c.held_by_element.result.culprit c.held_by_element.ensures.culprit

pub held_by_instr-returns-in-Literal-clause-parts : goal.held_by_instr-returns-in-Literal-clause-parts
held_by_instr-returns-in-Literal-clause-parts t c = literal_parts c.args.instr.now c.in-Literal.label c.in-Literal.is c.as_slice.result.now c.as_slice.ensures c.held_by_element.result.consumes c.held_by_element.ensures.consumes
