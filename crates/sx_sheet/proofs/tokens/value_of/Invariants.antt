use Rattle.std.proofs.Common.{◌≡◌, drop}
use Rattle.sx_named.specs.Named.{attributes_at}
use Rattle.sx_sheet.specs.Tokens.{value_named}
use Rattle.sx_sheet.proofs.tokens.value_of.Given as goal

abbrev pub invariant-loop-attr : goal.invariant-loop-attr
invariant-loop-attr l = value_named (attributes_at l.names (drop l.attr-index l.attrs)) l.local ≡ value_named (attributes_at l.names l.attrs) l.local
