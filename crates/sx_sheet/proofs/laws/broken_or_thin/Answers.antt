use Rattle.sx_sheet.proofs.Breaks.{broken_or_thin}
use Rattle.sx_sheet.proofs.laws.broken_or_thin.Goals as goal

pub returns : goal.returns
returns c = broken_or_thin
