use Rattle.std.proofs.Common.{◌++◌}
use Rattle.sx_axes.proofs.Growing.{continues}
use Rattle.sx_axes.proofs.laws.growth.Goals as goal
use Rattle.sx_tree.proofs.Extending.{places_of-extends}
use Rattle.sx_tree.specs.Places.{places_of}

pub returns : goal.returns
returns c = λ names p q n is a in_or_out test.
    continues (places_of p) (places_of (p ++ q)) (places_of-extends p q) names a test n is in_or_out
