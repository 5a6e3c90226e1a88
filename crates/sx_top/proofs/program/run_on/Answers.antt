use Rattle.std.proofs.Common.{subst}
use Rattle.sx_limits.specs.Limits.{stated}
use Rattle.sx_limits.specs.declared.limits.Limits.{Limits}
use Rattle.sx_reading.specs.Transforming.{Transforms}
use Rattle.sx_reading.proofs.Headlines.{run_of}
use Rattle.sx_top.specs.Run.{run_written, run_outcome}
use Rattle.sx_top.proofs.Loadings.{quiet_of}
use Rattle.sx_top.proofs.program.run_on.Goals as goal

pub returns-in-Ok-clause-headline : goal.returns-in-Ok-clause-headline
returns-in-Ok-clause-headline g c = λ ready.
    let sheet = c.args.sheet.now in
    let names = c.args.names.now in
    run_of (run_written sheet names stated) (run_outcome sheet names stated) c.args.name.now
    (g.D.Desk.seen c.args.desk.now) (g.D.Desk.seen c.open_file.new.self) (g.D.Desk.seen c.transform.new.desk) c.in-Ok.file c.transform.result c.in-Ok.ensures
    (subst (λ (l : Limits). Transforms (run_written sheet names l) (run_outcome sheet names l) c.in-Ok.file (g.D.Desk.seen c.open_file.new.self) (g.D.Desk.seen c.transform.new.desk) c.transform.result) c.stated.ensures
    (c.transform.ensures.runs ready))

pub returns-in-Ok-clause-quiet : goal.returns-in-Ok-clause-quiet
returns-in-Ok-clause-quiet g c =
    quiet_of c.args.name.now (g.D.Desk.seen c.args.desk.now) (g.D.Desk.seen c.open_file.new.self) (g.D.Desk.seen c.transform.new.desk) c.in-Ok.file c.in-Ok.ensures c.transform.ensures.frame
