use Rattle.std.proofs.Common.{sym, ◌∙◌}
use Rattle.sx_tree.proofs.SpineNodes.{attributes_item, attributes_none}
use Rattle.sx_tree.proofs.ancestors.Spine.attrs.Goals as goal

pub returns-in-Some-clause-value : goal.returns-in-Some-clause-value
returns-in-Some-clause-value c =
    c.attrs.ensures.value ∙ sym (attributes_item c.args.self.now c.args.k c.in-Some.item.now (sym c.in-Some.ensures))

pub returns-in-None-clause-value : goal.returns-in-None-clause-value
returns-in-None-clause-value c = sym (attributes_none c.args.self.now c.args.k (sym c.in-None.ensures))
