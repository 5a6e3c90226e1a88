use Rattle.std.proofs.Common.{drop, map}
use Rattle.sx_axes.proofs.Passing.{Leaves}
use Rattle.sx_axes.proofs.walks.keep_attributes.Given as goal
use Rattle.sx_axes.specs.Axes.{attributes, attribute_nodes}
use Rattle.sx_tree.specs.TreeView.{attributes_at}

abbrev pub invariant-loop-number : goal.invariant-loop-number
invariant-loop-number g l =
    let t = g.T.Tree.places l.t in
    Leaves l.sought t (attributes t l.place) l.fn.out l.out
    (attribute_nodes l.place l.number (drop l.number (map (λ a. a.label) (attributes_at t l.place))))
