use Rattle.std.proofs.lemmas.Result.{err_from_is_err_and}
use Rattle.sx_reading.proofs.Frames.{sent_more, send_failed}
use Rattle.sx_reading.proofs.send.write_all.Goals as goal

pub returns-in_err-count : goal.returns-in_err-count
returns-in_err-count g c =
    let p = err_from_is_err_and c.from_residual.result c.from_residual.ensures.1 in
    rw p.1 (send_failed c.args.out c.args.piece.now c.loop-rest.rest.now (g.D.Desk.seen c.args.desk.now) (g.D.Desk.seen c.loop-rest.desk) (g.D.Desk.seen c.write.new.self) _ _ c.loop-rest.invariant c.in_err-count.ensures)

pub loop-rest-preserved : goal.loop-rest-preserved
loop-rest-preserved g c =
    rw c.split_at.ensures.back (sent_more c.args.out c.args.piece.now c.loop-rest.rest.now (g.D.Desk.seen c.args.desk.now) (g.D.Desk.seen c.loop-rest.desk) (g.D.Desk.seen c.write.new.self) c.in_ok-count.count c.loop-rest.invariant c.in_ok-count.ensures)
