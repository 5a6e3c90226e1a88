use Rattle.std.proofs.Common.{◌∷◌, ◌++◌, subst}
use Rattle.sx_lines.specs.Normal.{IsName}
use Rattle.sx_lines.specs.Lines.{word_cdata}
use Rattle.sx_lines.proofs.LineBytes.{pair_line, pair_parts}
use Rattle.sx_lines.proofs.lines.read_pair_parts.Goals as goal

pub returns-in-None-2-clause-none : goal.returns-in-None-2-clause-none
returns-in-None-2-clause-none c = λ l is e.
    let p = pair_line l (c.args.name.now ++ 32 ∷ (word_cdata ++ c.args.value.now)) is e in
    let parts = pair_parts p.0 c.args.name.now c.args.value.now p.1 c.requires p.2 in
    (rw c.in-None-2.is at c.in_ok-value-in-Some.ensures.none) p.0.value p.1.1 parts.1

pub returns-in-None-clause-none : goal.returns-in-None-clause-none
returns-in-None-clause-none c = λ l is e.
    let p = pair_line l (c.args.name.now ++ 32 ∷ (word_cdata ++ c.args.value.now)) is e in
    let parts = pair_parts p.0 c.args.name.now c.args.value.now p.1 c.requires p.2 in
    (rw c.in-None.is at c.in_ok-name.ensures.none) (subst IsName parts.0 p.1.0)
