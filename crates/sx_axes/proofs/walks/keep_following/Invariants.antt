use Rattle.sx_axes.proofs.Passing.{Leaves}
use Rattle.sx_axes.proofs.walks.keep_following.Given as goal
use Rattle.sx_axes.specs.Axes.{at_places, following_places}
use Rattle.sx_axes.specs.Ways.{places_from}

abbrev pub invariant-loop-place : goal.invariant-loop-place
invariant-loop-place g l =
    let t = g.T.Tree.places l.t in
    Leaves l.sought t (at_places (following_places t l.fn.from)) l.fn.out l.out (at_places (places_from t l.place))
