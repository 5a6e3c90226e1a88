use Rattle.std.proofs.Common.{◌<◌, length, ◌∙◌, arith}
use Rattle.sx_fn_seq.proofs.Distinctness.{searched, one_more}
use Rattle.sx_fn_seq.proofs.distinct.distinct.Goals as goal

pub loop-item-init : goal.loop-item-init
loop-item-init c = record {
  kept = rw c.new-kept.ensures (searched c.args.items.now);
  seen = rw c.new-kept.ensures c.new-seen.ensures;
}

pub loop-item-preserved : goal.loop-item-preserved
loop-item-preserved c =
    let h : c.loop-item.item-index < length c.args.items.now = omega arith in
    record {
      kept = one_more c.loop-item.kept c.keep.new.kept c.args.items.now c.loop-item.item-index c.item-item.result h c.item-item.is c.in_ok-keep.ensures.kept
          ∙ c.loop-item.invariant.kept;
      seen = c.in_ok-keep.ensures.seen;
    }
