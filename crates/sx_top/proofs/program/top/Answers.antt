use Rattle.std.proofs.Common.{ap, ◌∙◌}
use Rattle.sx_reading.proofs.Diagnostics.{quiet_same, says_line}
use Rattle.sx_top.proofs.Programs.{runs_command, runs_nothing}
use Rattle.sx_top.proofs.program.top.Goals as goal
use Rattle.sx_top.proofs.program.top.Goals.{in-Some, in-None}

pub returns-clause-runs : goal.returns-clause-runs
returns-clause-runs g c =
    let old = g.D.Desk.seen c.args.desk.now in
    let mid = g.D.Desk.seen c.match-parse_words.desk in
    let new = g.D.Desk.seen c.write_all.new.desk in
    elim c.match-parse_words.branch [
      | in-Some w ↦ runs_command _ _ c.as_slice.result.now old (g.D.Desk.seen w.carry_out-status.new.desk) mid new w.carry_out-status.result c.match-parse_words.status c.write_all.result
          w.in-Some.ensures (ap g.D.Desk.seen w.desk-is) w.status-is w.carry_out-status.ensures.does c.write_all.ensures
      | in-None w ↦ runs_nothing _ c.as_slice.result.now old mid new c.match-parse_words.status c.write_all.result
          w.in-None.ensures (ap g.D.Desk.seen w.desk-is) w.status-is c.write_all.ensures
    ]

pub returns-clause-says : goal.returns-clause-says
returns-clause-says g c =
    let old = g.D.Desk.seen c.args.desk.now in
    let mid = g.D.Desk.seen c.match-parse_words.desk in
    let new = g.D.Desk.seen c.write_all.new.desk in
    elim c.match-parse_words.branch [
      | in-Some w ↦ says_line c.as_slice.result.now _ old (g.D.Desk.seen w.carry_out-status.new.desk) mid new c.write_all.result (c.as_slice.ensures.value ∙ c.diagnostic.ensures) (ap g.D.Desk.seen w.desk-is) w.carry_out-status.ensures.quiet c.write_all.ensures
      | in-None w ↦ says_line c.as_slice.result.now _ old old mid new c.write_all.result (c.as_slice.ensures.value ∙ c.diagnostic.ensures) (ap g.D.Desk.seen w.desk-is) (quiet_same old) c.write_all.ensures
    ]
