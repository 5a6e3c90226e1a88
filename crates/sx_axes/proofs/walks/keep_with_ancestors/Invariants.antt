use Rattle.sx_axes.proofs.Chains.{back}
use Rattle.sx_axes.proofs.Passing.{Leaves}
use Rattle.sx_axes.proofs.walks.keep_with_ancestors.Given as goal
use Rattle.sx_axes.specs.Ways.{with_ancestors}

abbrev pub invariant-loop-next : goal.invariant-loop-next
invariant-loop-next g l =
    let t = g.T.Tree.places l.t in Leaves l.sought t (with_ancestors t l.fn.first) l.fn.out l.out (with_ancestors t l.next)

abbrev pub decreases-loop-next : goal.decreases-loop-next
decreases-loop-next g l = back l.next
