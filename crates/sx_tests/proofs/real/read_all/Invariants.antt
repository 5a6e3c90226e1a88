use Rattle.std.proofs.Common.{◌<◌, length}
use Rattle.sx_tests.proofs.real.read_all.Given as goal

-- the file stays among those that were opened
abbrev pub invariant-loop : goal.invariant-loop
invariant-loop g l = l.file < length (g.D.Desk.seen l.desk).opened
