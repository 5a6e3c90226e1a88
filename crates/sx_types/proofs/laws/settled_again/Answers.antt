use Rattle.sx_types.proofs.Again.{stays_settled}
use Rattle.sx_types.proofs.laws.settled_again.Goals as goal

pub returns : goal.returns
returns c = stays_settled
