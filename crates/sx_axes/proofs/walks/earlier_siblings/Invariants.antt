use Rattle.std.proofs.Common.{◌≡◌, ◌++◌}
use Rattle.sx_axes.proofs.Chains.{rest_of, ahead_of}
use Rattle.sx_axes.proofs.walks.earlier_siblings.Given as goal
use Rattle.sx_axes.specs.Axes.{places_before, children_of}
use Rattle.sx_tree.specs.TreeView.{first_place, outer_places, sibling_places}

abbrev pub invariant-loop-next : goal.invariant-loop-next
invariant-loop-next g l =
    let t = g.T.Tree.places l.t in
    l.earlier ++ places_before l.place (rest_of sibling_places t l.next)
    ≡ places_before l.place (children_of t (first_place (outer_places t l.place)))

abbrev pub decreases-loop-next : goal.decreases-loop-next
decreases-loop-next g l = ahead_of (g.T.Tree.places l.t) l.next
