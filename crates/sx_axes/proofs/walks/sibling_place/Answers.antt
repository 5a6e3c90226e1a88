use Rattle.std.proofs.Common.{ap, ◌∙◌}
use Rattle.sx_axes.proofs.Chains.{place_in-at}
use Rattle.sx_axes.proofs.walks.sibling_place.Goals as goal
use Rattle.sx_axes.specs.Ways.{place_in}
use Rattle.sx_tree.specs.TreeView.{first_place, sibling_places}

pub returns : goal.returns
returns g c =
    let t = g.T.Tree.places c.args.t.now in
    c.place_in.ensures ∙ ap place_in c.next_sibling.ensures ∙ place_in-at (first_place (sibling_places t c.args.place))
