use Rattle.std.proofs.Common.{refl}
use Rattle.sx_desk.specs.declared.desk.Out.TheVariants as out
use Rattle.sx_reading.proofs.Frames.{same}
use Rattle.sx_reading.proofs.Turns.{no_memory}
use Rattle.sx_reading.proofs.reading.transfer.Goals as goal

pub returns-in-Err-clause-frame : goal.returns-in-Err-clause-frame
returns-in-Err-clause-frame g c = same c.args.file out.Result (g.D.Desk.seen c.args.desk.now)

pub returns-in-Err-clause-runs : goal.returns-in-Err-clause-runs
returns-in-Err-clause-runs g c = λ written outcome stands. no_memory written outcome c.args.file (g.D.Desk.seen c.args.desk.now) c.requires.untouched

pub returns-in-Err-clause-left : goal.returns-in-Err-clause-left
returns-in-Err-clause-left g c = λ written outcome stands some. absurd (some refl)

pub returns-in-Err-clause-keeps : goal.returns-in-Err-clause-keeps
returns-in-Err-clause-keeps g c = g.met.C.Consumer.keeps_same c.args.consumer.now
