use Rattle.std.proofs.Common.{◌≡◌, drop}
use Rattle.sx_fn_seq.specs.Sums.{sum_from, total_of}
use Rattle.sx_fn_seq.proofs.sums.total.Given as goal

abbrev pub invariant-loop-item : goal.invariant-loop-item
invariant-loop-item l = sum_from l.sum (drop l.item-index l.items) ≡ total_of l.items
