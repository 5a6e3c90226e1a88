use Rattle.std.proofs.Common.{refl}
use Rattle.sx_top.proofs.Runners.{cleared}
use Rattle.sx_top.proofs.runner.RunnerEventTaker.clear_due.Goals as goal

pub returns : goal.returns
returns c = λ m names events w runs. cleared c.args.self.now m names events w runs _ refl c.clear.ensures.items refl
