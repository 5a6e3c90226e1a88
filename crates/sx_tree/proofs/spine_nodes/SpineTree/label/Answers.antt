use Rattle.std.proofs.Common.{ap, sym, ◌∙◌}
use Rattle.sx_tree.specs.Seen.{label_of}
use Rattle.sx_tree.proofs.SpineNodes.{seen_item, label_none}
use Rattle.sx_tree.proofs.spine_nodes.SpineTree.label.Goals as goal

pub returns-in-Some : goal.returns-in-Some
returns-in-Some c = rw c.in-At.is (c.label.ensures ∙ sym (ap label_of (seen_item c.args.self.now c.in-At.k c.in-Some.item.now (sym c.in-Some.ensures))))

pub returns-in-None : goal.returns-in-None
returns-in-None c = rw c.in-At.is (sym (label_none c.args.self.now c.in-At.k (sym c.in-None.ensures)))
