use Rattle.std.proofs.Common.{sym, ◌∙◌}
use Rattle.sx_fn_seq.proofs.Bests.{read_fails}
use Rattle.sx_fn_seq.proofs.extremes.number.Goals as goal

pub returns-in-Err : goal.returns-in-Err
returns-in-Err c =
    sym (read_fails c.args.texts c.args.item.now _ _ c.in-Untyped.is (sym c.in_ok-decimal-in-Untyped.ensures ∙ c.in-Err.is))
