use Rattle.sx_build.proofs.Prefixes.{free_prefix-fresh}
use Rattle.sx_build.proofs.laws.fresh.Goals as goal

pub returns : goal.returns
returns c = free_prefix-fresh
