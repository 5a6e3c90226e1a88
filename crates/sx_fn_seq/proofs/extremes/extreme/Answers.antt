use Rattle.std.proofs.Common.{◌<◌, length, Ok, Err, ap, sym, ◌∙◌, arith}
use Rattle.sx_fn_seq.proofs.Bests.{extreme_some}
use Rattle.sx_fn_seq.proofs.extremes.extreme.Goals as goal

pub returns-in_ok-single-in-Ok : goal.returns-in_ok-single-in-Ok
returns-in_ok-single-in-Ok c =
    let some : 0 < length c.args.items.now = omega arith in
    ap Ok c.in_ok-single-in-Ok.ensures
    ∙ sym (extreme_some c.args.operator c.requires c.args.items.now c.first-item.result (Ok c.in-Ok.best) some c.first-item.is (sym c.in_ok-best.ensures ∙ c.in-Ok.is))

pub returns-in-Err : goal.returns-in-Err
returns-in-Err c =
    let some : 0 < length c.args.items.now = omega arith in
    sym (extreme_some c.args.operator c.requires c.args.items.now c.first-item.result (Err c.in-Err.code) some c.first-item.is (sym c.in_ok-best.ensures ∙ c.in-Err.is))
