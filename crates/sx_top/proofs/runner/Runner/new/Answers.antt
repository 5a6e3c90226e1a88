use Rattle.std.proofs.Common.{refl}
use Rattle.sx_top.proofs.Runners.{fresh}
use Rattle.sx_top.proofs.runner.Runner.new.Goals as goal

pub returns : goal.returns
returns c = λ sheet names limits stands. fresh sheet names limits _ stands c.new.ensures.items refl
