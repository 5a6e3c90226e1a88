use Rattle.sx_types.proofs.Formed.{settled_same_formed}
use Rattle.sx_types.proofs.laws.settled_formed.Goals as goal

pub returns : goal.returns
returns c = settled_same_formed
