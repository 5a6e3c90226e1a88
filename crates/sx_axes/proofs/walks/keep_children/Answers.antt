use Rattle.std.proofs.Common.{◌≡◌, ap, sym, ◌∙◌}
use Rattle.sx_axes.proofs.Chains.{children-walk}
use Rattle.sx_axes.proofs.walks.keep_children.Goals as goal
use Rattle.sx_axes.specs.Axes.{along}
use Rattle.sx_axes.specs.Ways.{with_later}
use Rattle.sx_tree.specs.declared.steps.Axis.TheVariants as axis

pub returns : goal.returns
returns g c =
    let t = g.T.Tree.places c.args.t.now in
    let is : along t axis.Child c.args.from ≡ with_later t c.first_child.result =
    children-walk t c.args.from ∙ sym (ap (with_later t) c.first_child.ensures) in
    rw is c.keep_with_later.ensures
