use Rattle.std.proofs.Common.{length}
use Rattle.sx_axes.proofs.Passing.{Leaves}
use Rattle.sx_axes.proofs.walks.keep_backward.Given as goal
use Rattle.sx_axes.specs.Axes.{at_places, reversed}

abbrev pub invariant-loop-place : goal.invariant-loop-place
invariant-loop-place g l =
    let t = g.T.Tree.places l.t in
    Leaves l.sought t (at_places (reversed l.fn.places)) l.fn.out l.out (at_places (reversed l.places))

abbrev pub decreases-loop-place : goal.decreases-loop-place
decreases-loop-place g l = length l.places
