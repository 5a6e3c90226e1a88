use Rattle.std.proofs.Common.{◌≡◌, drop}
use Rattle.sx_fn_seq.specs.Best.{best_from}
use Rattle.sx_fn_seq.proofs.extremes.best_from.Given as goal

abbrev pub invariant-loop-item : goal.invariant-loop-item
invariant-loop-item l = best_from l.operator l.texts l.best (drop l.item-index l.items) ≡ best_from l.operator l.texts l.initial.best l.items
