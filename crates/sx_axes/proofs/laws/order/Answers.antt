use Rattle.sx_axes.proofs.Sorted.{ordered-in_order, ordered-same}
use Rattle.sx_axes.proofs.laws.order.Goals as goal

pub returns : goal.returns
returns c = record { in_order = ordered-in_order; same = ordered-same }
