use Rattle.std.proofs.Common.{◌∷◌, ap, ◌∙◌, subst}
use Rattle.std.proofs.lemmas.List.{append-nil}
use Rattle.std.proofs.lemmas.Str.{IsUtf8-nil}
use Rattle.sx_lines.specs.Normal.{IsTarget}
use Rattle.sx_lines.proofs.LineBytes.{instruction_line, content_none}
use Rattle.sx_lines.proofs.lines.read_instruction.Goals as goal

pub returns-in-Some-2-clause-found : goal.returns-in-Some-2-clause-found
returns-in-Some-2-clause-found c =
    let found = rw c.in-Some-2.is at c.in_ok-target-in-None.ensures.found in
    rw c.new.ensures ((found.0, IsUtf8-nil), ap (λ l. 63 ∷ l) (append-nil c.in-Some-2.target ∙ found.1))

pub returns-in-None-2-clause-none : goal.returns-in-None-2-clause-none
returns-in-None-2-clause-none c = λ l is e.
    let i = instruction_line l c.args.bytes.now is e in
    let split = content_none i.0 i.1 c.args.bytes.now c.in-None.ensures i.4 in
    (rw c.in-None-2.is at c.in_ok-target-in-None.ensures.none) (subst IsTarget split.0 i.2)
