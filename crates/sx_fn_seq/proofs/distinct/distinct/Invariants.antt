use Rattle.std.proofs.Common.{◌≡◌, drop}
use Rattle.sx_fn_seq.specs.Distinct.{distinct_of}
use Rattle.sx_fn_seq.specs.Seeing.{Shows, has_value}
use Rattle.sx_fn_seq.proofs.Distinctness.{kept_from}
use Rattle.sx_fn_seq.proofs.distinct.distinct.Given as goal

abbrev pub invariant-loop-item : goal.invariant-loop-item
invariant-loop-item l = record {
  kept : kept_from l.kept (drop l.item-index l.items) ≡ distinct_of l.items;
  seen : Shows l.seen (has_value l.kept);
}
