use Rattle.std.proofs.Common.{◌∷◌, ◌++◌, length, sym, subst}
use Rattle.std.proofs.lemmas.Bool.Decides.{Decides-eqb}
use Rattle.sx_lines.specs.Normal.{IsTarget}
use Rattle.sx_lines.proofs.LineBytes.{instruction_line, content_split, no_bytes}
use Rattle.sx_lines.proofs.lines.read_content.Goals as goal

pub returns-then-is_empty-clause-none : goal.returns-then-is_empty-clause-none
returns-then-is_empty-clause-none c = λ l is e.
    let i = instruction_line l (c.args.target.now ++ 32 ∷ c.args.content.now) is e in
    let split = content_split i.0 i.1 c.args.target.now c.args.content.now i.2 c.requires i.4 in
    split.2 (no_bytes c.args.content.now ((Decides-eqb (length c.args.content.now) 0).0 (sym c.if-is_empty.ensures)))

pub returns-in-None-2-clause-none : goal.returns-in-None-2-clause-none
returns-in-None-2-clause-none c = λ l is e.
    let i = instruction_line l (c.args.target.now ++ 32 ∷ c.args.content.now) is e in
    let split = content_split i.0 i.1 c.args.target.now c.args.content.now i.2 c.requires i.4 in
    (rw c.in-None-2.is at c.in_ok-content-in-Some.ensures.none) i.1 i.3 split.1

pub returns-in-None-clause-none : goal.returns-in-None-clause-none
returns-in-None-clause-none c = λ l is e.
    let i = instruction_line l (c.args.target.now ++ 32 ∷ c.args.content.now) is e in
    let split = content_split i.0 i.1 c.args.target.now c.args.content.now i.2 c.requires i.4 in
    (rw c.in-None.is at c.in_ok-target.ensures.none) (subst IsTarget split.0 i.2)
