use Rattle.std.proofs.Common.{ap, sym, ◌∙◌}
use Rattle.sx_tree.specs.Seen.{text_of}
use Rattle.sx_tree.proofs.SpineNodes.{seen_leaf, text_none}
use Rattle.sx_tree.proofs.spine_nodes.SpineTree.text.Goals as goal

pub returns-in-Some : goal.returns-in-Some
returns-in-Some c = rw c.in-At.is (c.text.ensures ∙ sym (ap text_of (seen_leaf c.args.self.now c.in-At.k c.in-Some.leaf.now (sym c.in-Some.ensures))))

pub returns-in-None : goal.returns-in-None
returns-in-None c = rw c.in-At.is (sym (text_none c.args.self.now c.in-At.k (sym c.in-None.ensures)))
