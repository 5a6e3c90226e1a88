use Rattle.std.proofs.Common.{◌≡◌, refl}
use Rattle.sx_tree.specs.Copies.{closed}
use Rattle.sx_tree.specs.Places.{Places}
use Rattle.sx_tree.specs.Seen.{first_child_at}
use Rattle.sx_tree.specs.declared.nodes.Node.{Node}
use Rattle.sx_tree.specs.declared.nodes.Node.TheVariants as node
use Rattle.sx_tree.proofs.open_tree.NodeTableTree.first_child.Goals as goal

-- what is open says nothing of children
same_closed : (t : Places) (n : Node) → first_child_at t n ≡ first_child_at (closed t) n
same_closed t (node.At k) = refl
same_closed t (node.Attr k i) = refl

pub returns : goal.returns
returns c = let same = same_closed c.args.self.now.places c.args.n in cc
