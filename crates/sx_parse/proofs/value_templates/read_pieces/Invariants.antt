use Rattle.std.proofs.Common.{length, ◌-◌}
use Rattle.sx_parse.proofs.Turning.{IsTurning}
use Rattle.sx_parse.proofs.value_templates.read_pieces.Given as goal

abbrev pub invariant-pieces : goal.invariant-pieces
invariant-pieces l = IsTurning l.scope l.s l.fn.names l.names l.fn.at l.at l.offset l.parts

abbrev pub decreases-pieces : goal.decreases-pieces
decreases-pieces l = length l.s - l.offset
