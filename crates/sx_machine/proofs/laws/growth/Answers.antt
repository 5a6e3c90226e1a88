use Rattle.sx_machine.proofs.Results.{grown}
use Rattle.sx_machine.proofs.laws.growth.Goals as goal

pub returns : goal.returns
returns c = λ sheet streamable names invocations p more may. grown sheet streamable names invocations p more may
