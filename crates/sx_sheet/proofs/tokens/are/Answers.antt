use Rattle.sx_sheet.proofs.Told.{length_at}
use Rattle.sx_sheet.proofs.tokens.are.Goals as goal

pub returns : goal.returns
returns c names = rw (length_at names c.args.attrs.now)
