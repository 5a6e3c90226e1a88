use Rattle.sx_sheet.proofs.Closing.{on_a_token}
use Rattle.sx_sheet.proofs.laws.on_a_token.Goals as goal

pub returns : goal.returns
returns c = on_a_token
