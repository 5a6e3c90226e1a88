use Rattle.sx_reading.proofs.Turns.{no_memory}
use Rattle.sx_top.specs.Copy.{copy_written, copy_outcome}
use Rattle.sx_top.proofs.Programs.{copies_by}
use Rattle.sx_top.proofs.program.copy_opened.Goals as goal

pub returns-in-Ok-clause-runs : goal.returns-in-Ok-clause-runs
returns-in-Ok-clause-runs g c =
    copies_by c.in-Ok.sheet c.new-names.result c.stated.result c.args.file (g.D.Desk.seen c.args.desk.now) (g.D.Desk.seen c.transform.new.desk) c.transform.result c.in-Ok.ensures c.new-names.ensures c.stated.ensures
    c.transform.ensures.runs

pub returns-in-Err-clause-runs : goal.returns-in-Err-clause-runs
returns-in-Err-clause-runs g c = no_memory copy_written copy_outcome c.args.file (g.D.Desk.seen c.args.desk.now) c.requires.untouched
