use Rattle.sx_sheet.proofs.Breaks.{one_line}
use Rattle.sx_sheet.proofs.laws.one_line.Goals as goal

pub returns : goal.returns
returns c = one_line
