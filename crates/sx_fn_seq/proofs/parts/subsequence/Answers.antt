use Rattle.std.proofs.Common.{sym}
use Rattle.sx_atoms.specs.Positions.{selects}
use Rattle.sx_atoms.specs.Ranges.{range_cut}
use Rattle.sx_fn_seq.proofs.parts.subsequence.Goals as goal

pub returns : goal.returns
returns g c =
    let r = c.range-first.ensures in
    sym (range_cut (selects c.args.positions.now) c.range-first.result.0 c.range-first.result.1 c.args.items.now r.order r.exact)
