use Rattle.sx_fn_seq.proofs.Additions.{seen_still}
use Rattle.sx_fn_seq.proofs.distinct.keep.Goals as goal

pub returns-clause-seen : goal.returns-clause-seen
returns-clause-seen c =
    seen_still c.args.seen.now c.insert.new.self c.args.kept.now c.args.item.now c.in_ok-insert.field-0 c.in_ok-insert.ensures c.if-branch.false c.requires
