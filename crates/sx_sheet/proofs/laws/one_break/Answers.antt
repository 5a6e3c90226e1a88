use Rattle.sx_sheet.proofs.Breaks.{one_break}
use Rattle.sx_sheet.proofs.laws.one_break.Goals as goal

pub returns : goal.returns
returns c = one_break
