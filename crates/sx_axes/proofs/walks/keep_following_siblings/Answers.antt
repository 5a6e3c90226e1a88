use Rattle.std.proofs.Common.{◌≡◌, ap, sym, ◌∙◌}
use Rattle.sx_axes.proofs.Chains.{later-walk}
use Rattle.sx_axes.proofs.Parents.{later-nodes}
use Rattle.sx_axes.proofs.walks.keep_following_siblings.Goals as goal
use Rattle.sx_axes.specs.Axes.{along}
use Rattle.sx_axes.specs.Ways.{with_later}
use Rattle.sx_tree.specs.declared.steps.Axis.TheVariants as axis

pub returns : goal.returns
returns g c =
    let t = g.T.Tree.places c.args.t.now in
    let is : along t axis.FollowingSibling c.args.from ≡ with_later t c.next_sibling.result =
    later-nodes t c.args.from c.is_tree.ensures ∙ later-walk t c.args.from ∙ sym (ap (with_later t) c.next_sibling.ensures) in
    rw is c.keep_with_later.ensures
