use Rattle.std.proofs.Common.{◌≡◌, None, refl, ap, sym}
use Rattle.sx_tree.specs.Seen.{next_sibling_at, node_at}
use Rattle.sx_tree.specs.Spine.{Spine}
use Rattle.sx_tree.specs.SpineView.{spine_places}
use Rattle.sx_tree.specs.declared.nodes.Node.{Node}
use Rattle.sx_tree.specs.declared.nodes.Node.TheVariants as node
use Rattle.sx_tree.proofs.SpineNodes.{spine-sibling}
use Rattle.sx_tree.proofs.spine_nodes.SpineTree.next_sibling.Goals as goal

-- no node of a spine has a sibling behind it
no_sibling : (s : Spine) (n : Node) → None ≡ next_sibling_at (spine_places s) n
no_sibling s (node.At k) = sym (ap node_at (spine-sibling s k))
no_sibling s (node.Attr k i) = refl

pub returns : goal.returns
returns c = no_sibling c.args.self.now c.args.arg2
