use Rattle.sx_axes.proofs.Passing.{Leaves}
use Rattle.sx_axes.proofs.Backward.{Below, remaining}
use Rattle.sx_axes.proofs.walks.keep_before.Given as goal
use Rattle.sx_axes.specs.Axes.{at_places, preceding_places}

abbrev pub invariant-loop-before : goal.invariant-loop-before
invariant-loop-before g l =
    let t = g.T.Tree.places l.t in
    record {
      left : Leaves l.sought t (at_places (preceding_places t l.place)) l.fn.out l.out (at_places (remaining t l.outer l.before));
      below : Below l.outer l.before;
    }
