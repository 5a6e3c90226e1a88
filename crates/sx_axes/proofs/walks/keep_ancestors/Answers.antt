use Rattle.std.proofs.Common.{◌≡◌, ap, sym, ◌∙◌}
use Rattle.sx_axes.proofs.Chains.{ancestors-walk}
use Rattle.sx_axes.proofs.walks.keep_ancestors.Goals as goal
use Rattle.sx_axes.specs.Axes.{along}
use Rattle.sx_axes.specs.Ways.{with_ancestors}
use Rattle.sx_tree.specs.declared.steps.Axis.TheVariants as axis

pub returns : goal.returns
returns g c =
    let t = g.T.Tree.places c.args.t.now in
    let is : along t axis.Ancestor c.args.from ≡ with_ancestors t c.parent.result =
    ancestors-walk t c.args.from ∙ sym (ap (with_ancestors t) c.parent.ensures) in
    rw is c.keep_with_ancestors.ensures
