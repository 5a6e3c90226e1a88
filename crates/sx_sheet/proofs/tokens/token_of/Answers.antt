use Rattle.std.proofs.Common.{[]}
use Rattle.sx_named.specs.Named.{name_at, attributes_at}
use Rattle.sx_sheet.proofs.Told.{known_start}
use Rattle.sx_sheet.proofs.tokens.token_of.Goals as goal

pub returns-in-Start-clause-known : goal.returns-in-Start-clause-known
returns-in-Start-clause-known c =
    known_start c.args.names.now c.start_token.result
    (record { name = name_at c.args.names.now c.in-Start.label; attributes = attributes_at c.args.names.now c.as_slice.result.now; spaces = [] })
    c.start_token.ensures.token
