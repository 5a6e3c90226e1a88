use Rattle.sx_top.proofs.Runs.{run_grows}
use Rattle.sx_top.proofs.laws.growth.Goals as goal

pub returns : goal.returns
returns c = λ sheet streamable names limits. run_grows sheet names limits streamable
