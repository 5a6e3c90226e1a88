use Rattle.std.proofs.Common.{ap, sym, ◌∙◌}
use Rattle.sx_tree.specs.Seen.{kind_of}
use Rattle.sx_tree.proofs.SpineNodes.{seen_item, seen_leaf, seen_none}
use Rattle.sx_tree.proofs.spine_nodes.SpineTree.kind.Goals as goal

pub returns-in-Some-default : goal.returns-in-Some-default
returns-in-Some-default c =
    rw c.in-At.is (c.kind.ensures ∙ sym (ap kind_of (seen_item c.args.self.now c.in-At.k c.in-Some-default.item.now (sym c.in-Some-default.ensures))))

pub returns-in-None-Some : goal.returns-in-None-Some
returns-in-None-Some c =
    rw c.in-At.is
    (c.kind-in-None-Some.ensures ∙ sym (ap kind_of (seen_leaf c.args.self.now c.in-At.k c.in-None-Some.leaf.now (sym c.in-None-Some.ensures'))))

pub returns-in-None-None : goal.returns-in-None-None
returns-in-None-None c =
    rw c.in-At.is (sym (ap kind_of (seen_none c.args.self.now c.in-At.k (sym c.in-None-None.ensures) (sym c.in-None-None.ensures'))))
