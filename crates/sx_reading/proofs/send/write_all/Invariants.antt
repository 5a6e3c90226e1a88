use Rattle.std.proofs.Common.{length}
use Rattle.sx_reading.specs.Frame.{Sending}
use Rattle.sx_reading.proofs.send.write_all.Given as goal

abbrev pub invariant-loop-rest : goal.invariant-loop-rest
invariant-loop-rest g l = Sending l.out l.piece l.rest (g.D.Desk.seen l.fn.desk) (g.D.Desk.seen l.desk)

abbrev pub decreases-loop-rest : goal.decreases-loop-rest
decreases-loop-rest g l = length l.rest
