use Rattle.sx_named.proofs.Written.{one_tree}
use Rattle.sx_named.proofs.laws.one_tree.Goals as goal

pub returns : goal.returns
returns c = one_tree
