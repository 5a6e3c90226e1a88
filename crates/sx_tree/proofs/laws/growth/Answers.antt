use Rattle.sx_tree.proofs.laws.growth.Goals as goal
use Rattle.sx_tree.proofs.Extending.{places_of-grow}

pub returns : goal.returns
returns c = places_of-grow
