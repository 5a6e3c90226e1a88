use Rattle.std.proofs.Common.{◌++◌, ℕ, List, ap, ◌∙◌}
use Rattle.sx_top.proofs.Runners.{due_is}
use Rattle.sx_top.proofs.runner.RunnerEventTaker.due.Goals as goal

pub returns : goal.returns
returns c = λ m names events w runs. ap (λ (x : List ℕ). w ++ x) c.deref.ensures.value ∙ due_is c.args.self.now m names events w runs
