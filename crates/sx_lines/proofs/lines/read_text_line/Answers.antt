use Rattle.std.proofs.Common.{length, sym, ap, ◌∙◌, arith}
use Rattle.std.proofs.lemmas.Bool.Decides.{Decides-eqb}
use Rattle.sx_lines.proofs.Escapes.{escape_nothing}
use Rattle.sx_lines.proofs.LineBytes.{text_line, no_bytes}
use Rattle.sx_lines.proofs.lines.read_text_line.Goals as goal

pub returns-then-is_empty-clause-none : goal.returns-then-is_empty-clause-none
returns-then-is_empty-clause-none c = λ l is e.
    let t = text_line l c.args.bytes.now is e in
    let none = no_bytes c.args.bytes.now ((Decides-eqb (length c.args.bytes.now) 0).0 (sym c.if-is_empty.ensures)) in
    let nothing = escape_nothing t.0 (t.3 ∙ none) in
    omega (arith, ap length nothing, t.2)
