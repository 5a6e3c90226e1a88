use Rattle.sx_tree.proofs.laws.follows.Goals as goal
use Rattle.sx_tree.proofs.Coming.{may_come_next}

pub returns : goal.returns
returns c = may_come_next
