use Rattle.sx_top.proofs.program.carry_out.Goals as goal

pub returns-in-Run-clause-does : goal.returns-in-Run-clause-does
returns-in-Run-clause-does g c = rw c.in-Run.is c.run.ensures.runs
