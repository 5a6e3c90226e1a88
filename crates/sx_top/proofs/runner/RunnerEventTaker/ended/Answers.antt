use Rattle.std.proofs.Common.{ap, ◌∙◌}
use Rattle.sx_top.specs.Runner.{ended_in}
use Rattle.sx_top.proofs.Runners.{outcome_is}
use Rattle.sx_top.proofs.runner.RunnerEventTaker.ended.Goals as goal

pub returns : goal.returns
returns c = λ m names events w runs. c.ended_in.ensures ∙ ap ended_in c.state.ensures ∙ outcome_is c.args.self.now m names events w runs
