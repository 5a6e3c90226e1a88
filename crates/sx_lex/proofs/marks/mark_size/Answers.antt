use Rattle.std.proofs.Common.{◌∙◌, ap, sym, arith}
use mir.Val.{bool_byte}
use Rattle.sx_lex.proofs.Table.{double_front, front_by_first}
use Rattle.sx_lex.proofs.marks.mark_size.Goals as goal

pub returns-in-len1 : goal.returns-in-len1
returns-in-len1 c =
    front_by_first c.args.bytes.now c.from.result (omega arith) (c.from.ensures ∙ ap bool_byte c.is_single.ensures) (λ more. absurd (omega arith))

pub returns-then-is_double : goal.returns-then-is_double
returns-then-is_double c = double_front c.args.bytes.now c.in-len2-up.len_at_least (sym c.is_double.ensures ∙ c.if-is_double.true)

pub returns-else-is_double : goal.returns-else-is_double
returns-else-is_double c =
    front_by_first c.args.bytes.now c.from-else-is_double.result (omega arith) (c.from-else-is_double.ensures ∙ ap bool_byte c.is_single-else-is_double.ensures)
    (λ _. sym c.is_double.ensures ∙ c.if-is_double.false)
