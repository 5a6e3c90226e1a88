use Rattle.std.proofs.Common.{◌∙◌, arith}
use Rattle.sx_lex.proofs.Table.{single_table}
use Rattle.sx_lex.proofs.marks.is_single.Goals as goal

pub returns : goal.returns
returns c = c.contains.ensures.value ∙ single_table c.args.byte (omega arith)
