use Rattle.sx_axes.proofs.Chains.{ahead}
use Rattle.sx_axes.proofs.Passing.{Leaves}
use Rattle.sx_axes.proofs.walks.keep_with_later.Given as goal
use Rattle.sx_axes.specs.Ways.{with_later}

abbrev pub invariant-loop-next : goal.invariant-loop-next
invariant-loop-next g l =
    let t = g.T.Tree.places l.t in Leaves l.sought t (with_later t l.fn.first) l.fn.out l.out (with_later t l.next)

abbrev pub decreases-loop-next : goal.decreases-loop-next
decreases-loop-next g l = ahead (g.T.Tree.places l.t) l.next
