use Rattle.sx_tree.proofs.laws.steps.Goals as goal
use Rattle.sx_tree.proofs.Stepping.{places_of-in_step}

pub returns : goal.returns
returns c = places_of-in_step
