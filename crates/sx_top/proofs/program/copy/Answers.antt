use Rattle.sx_reading.proofs.Headlines.{run_of}
use Rattle.sx_top.specs.Copy.{copy_written, copy_outcome}
use Rattle.sx_top.proofs.Loadings.{quiet_of}
use Rattle.sx_top.proofs.program.copy.Goals as goal

pub returns-in-Ok-clause-headline : goal.returns-in-Ok-clause-headline
returns-in-Ok-clause-headline g c =
    run_of copy_written copy_outcome c.args.name.now (g.D.Desk.seen c.args.desk.now) (g.D.Desk.seen c.open_file.new.self) (g.D.Desk.seen c.copy_opened.new.desk) c.in-Ok.file c.copy_opened.result c.in-Ok.ensures c.copy_opened.ensures.runs

pub returns-in-Ok-clause-quiet : goal.returns-in-Ok-clause-quiet
returns-in-Ok-clause-quiet g c =
    quiet_of c.args.name.now (g.D.Desk.seen c.args.desk.now) (g.D.Desk.seen c.open_file.new.self) (g.D.Desk.seen c.copy_opened.new.desk) c.in-Ok.file c.in-Ok.ensures c.copy_opened.ensures.frame
