use Rattle.sx_lines.proofs.ReadBack.{one_list}
use Rattle.sx_lines.proofs.laws.printing.Goals as goal

pub returns : goal.returns
returns c = one_list
