use Rattle.std.proofs.Common.{sym, ◌∙◌}
use Rattle.std.specs.Option.{option_copied}
use Rattle.sx_atoms.proofs.ArgumentReadings.{start_fails, count_fails}
use Rattle.sx_atoms.proofs.arguments.positions.Goals as goal

pub returns-in-Err : goal.returns-in-Err
returns-in-Err c = sym (start_fails c.args.start.now (option_copied c.args.count) c.in-Err.code (sym c.in_ok-first.ensures ∙ c.in-Err.is))

pub returns-in-Err-2 : goal.returns-in-Err-2
returns-in-Err-2 c =
    rw c.in-Some.is (sym (count_fails c.args.start.now c.in-Some.count.now c.in-Ok.first c.in-Err-2.code
    (sym c.in_ok-first.ensures ∙ c.in-Ok.is) (sym c.in_ok-many-in-Some.ensures ∙ c.in-Err-2.is)))
