use Rattle.std.proofs.Common.{ap, sym, ◌∙◌}
use Rattle.sx_tree.specs.Seen.{target_of}
use Rattle.sx_tree.proofs.SpineNodes.{seen_leaf, target_none}
use Rattle.sx_tree.proofs.spine_nodes.SpineTree.target.Goals as goal

pub returns-in-Some : goal.returns-in-Some
returns-in-Some c = rw c.in-At.is (c.target.ensures ∙ sym (ap target_of (seen_leaf c.args.self.now c.in-At.k c.in-Some.leaf.now (sym c.in-Some.ensures))))

pub returns-in-None : goal.returns-in-None
returns-in-None c = rw c.in-At.is (sym (target_none c.args.self.now c.in-At.k (sym c.in-None.ensures)))
