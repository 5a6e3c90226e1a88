use Rattle.sx_types.proofs.Bare.{settled_bare}
use Rattle.sx_types.proofs.laws.settled_keeps.Goals as goal

pub returns : goal.returns
returns c = settled_bare
