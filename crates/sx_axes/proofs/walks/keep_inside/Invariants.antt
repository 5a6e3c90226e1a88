use Rattle.sx_axes.proofs.Parents.{Between}
use Rattle.sx_axes.proofs.Passing.{Leaves}
use Rattle.sx_axes.proofs.Spans.{inner_from}
use Rattle.sx_axes.proofs.walks.keep_inside.Given as goal
use Rattle.sx_axes.specs.Axes.{at_places}
use Rattle.sx_tree.specs.TreeView.{depth_at, inside_places}

abbrev pub invariant-loop-next : goal.invariant-loop-next
invariant-loop-next g l =
    let t = g.T.Tree.places l.t in
    record {
      left : Leaves l.sought t (at_places (inside_places t l.place)) l.fn.out l.out
          (at_places (inner_from t (depth_at t.entries l.place) l.next));
      between : Between t.entries l.place l.next;
    }
