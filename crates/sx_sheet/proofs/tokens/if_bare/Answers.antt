use Rattle.sx_sheet.proofs.Told.{not_bare}
use Rattle.sx_sheet.specs.Shown.{shown}
use Rattle.sx_sheet.proofs.tokens.if_bare.Goals as goal

pub returns-else-is_empty : goal.returns-else-is_empty
returns-else-is_empty c names = not_bare names c.args.attrs.now (shown names c.args.token) c.if-is_empty.ensures
