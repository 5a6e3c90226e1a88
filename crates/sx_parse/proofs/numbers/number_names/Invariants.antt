use Rattle.std.proofs.Common.{length}
use Rattle.sx_names.specs.Numbering.{KeepsPlaces}
use Rattle.sx_parse.proofs.Naming.{IsNumberedTo}
use Rattle.sx_parse.proofs.numbers.number_names.Given as goal

abbrev pub invariant-loop-role : goal.invariant-loop-role
invariant-loop-role l =
    IsNumberedTo l.scope l.text l.roles l.tokens l.fn.names l.names l.numbers (length l.yielded) × KeepsPlaces l.fn.names l.names
