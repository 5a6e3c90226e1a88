use Rattle.std.proofs.Common.{◌≡◌, drop}
use Rattle.sx_parse.specs.Flat as flat
use Rattle.sx_parse.proofs.reader.run.Given as goal

abbrev pub invariant-loop-at : goal.invariant-loop-at
invariant-loop-at l = flat.run (flat.seen l.reader) l.at (drop l.at l.lexemes) ≡ flat.run (flat.start l.pattern) 0 l.lexemes
