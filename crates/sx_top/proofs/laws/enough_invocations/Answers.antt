use Rattle.sx_top.proofs.Invocations.{never_too_deep}
use Rattle.sx_top.proofs.laws.enough_invocations.Goals as goal

pub returns : goal.returns
returns c = λ sheet names limits b ended le. never_too_deep sheet names limits b ended le
