use Rattle.std.proofs.Common.{◌∙◌}
use Rattle.sx_build.proofs.InForces.{is_declared}
use Rattle.sx_build.proofs.bindings.declares.Goals as goal

pub returns : goal.returns
returns c = c.is_some.ensures ∙ is_declared c.args.bindings.now c.args.prefix.now c.first.result c.first.ensures
