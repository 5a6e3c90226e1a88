use Rattle.std.proofs.Common.{◌≡◌}
use Rattle.sx_axes.proofs.Parents.{last_of}
use Rattle.sx_axes.proofs.walks.place_behind.Given as goal

abbrev pub invariant-outward : goal.invariant-outward
invariant-outward g l = let t = g.T.Tree.places l.t in last_of t l.fn.place ≡ last_of t l.outer

abbrev pub decreases-outward : goal.decreases-outward
decreases-outward g l = l.outer
