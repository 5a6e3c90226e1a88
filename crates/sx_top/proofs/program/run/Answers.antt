use Rattle.std.proofs.Common.{inl}
use Rattle.sx_top.proofs.Programs.{runs_loaded, quiet_then}
use Rattle.sx_top.proofs.program.run.Goals as goal

pub returns-in-Ok-clause-runs : goal.returns-in-Ok-clause-runs
returns-in-Ok-clause-runs g c =
    runs_loaded c.args.sheet.now c.args.document.now _ c.in-Ok.loaded (g.D.Desk.seen c.args.desk.now) (g.D.Desk.seen c.load.new.desk) (g.D.Desk.seen c.run_on.new.desk) c.run_on.result c.in-Ok.ensures.loads c.run_on.ensures.headline

pub returns-in-Ok-clause-quiet : goal.returns-in-Ok-clause-quiet
returns-in-Ok-clause-quiet g c =
    quiet_then (g.D.Desk.seen c.args.desk.now) (g.D.Desk.seen c.load.new.desk) (g.D.Desk.seen c.run_on.new.desk) c.in-Ok.ensures.quiet c.run_on.ensures.quiet

pub returns-clause-runs : goal.returns-clause-runs
returns-clause-runs g c = inl c.in-Err.ensures.loads
