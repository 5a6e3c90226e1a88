use Rattle.sx_lines.specs.Print.{escape}
use Rattle.sx_lines.proofs.LineBytes.{pair_line, pair_split}
use Rattle.std.proofs.Common.{◌∷◌, ◌++◌}
use Rattle.sx_lines.proofs.lines.read_value.Goals as goal

pub returns-in-None-clause-none : goal.returns-in-None-clause-none
returns-in-None-clause-none c = λ l is e.
    let p = pair_line l (c.args.name.now ++ 32 ∷ c.args.rest.now) is e in
    c.in-None.ensures (escape p.0.value) (pair_split p.0 c.args.name.now c.args.rest.now p.1 c.requires p.2).1
