use Rattle.sx_top.proofs.Runners.{input_is}
use Rattle.sx_top.proofs.runner.RunnerEventTaker.input.Goals as goal

pub returns : goal.returns
returns c = λ m names events w runs. input_is c.args.self.now m names events w runs
