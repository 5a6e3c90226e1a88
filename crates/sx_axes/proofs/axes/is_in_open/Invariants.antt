use Rattle.std.proofs.Common.{◌≡◌}
use Rattle.sx_axes.proofs.Chains.{back}
use Rattle.sx_axes.proofs.axes.is_in_open.Given as goal
use Rattle.sx_axes.proofs.Openness.{any_open_with}
use Rattle.sx_axes.specs.Axes.{any_open, ancestor_places}

abbrev pub invariant-loop-next : goal.invariant-loop-next
invariant-loop-next g l =
    let t = g.T.Tree.places l.t in any_open_with t l.next ≡ any_open t (ancestor_places t l.fn.from)

abbrev pub decreases-loop-next : goal.decreases-loop-next
decreases-loop-next g l = back l.next
