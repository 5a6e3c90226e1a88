use Rattle.std.proofs.Common.{◌≤◌, ◌++◌, take, length, length-take, false, arith}
use Rattle.sx_desk.specs.declared.desk.Out.TheVariants as out
use Rattle.sx_reading.specs.Turn.{is_end}
use Rattle.sx_reading.proofs.Frames.{then, of_read}
use Rattle.sx_reading.proofs.Turns.{stops_reading, read_feeds, memory_wanting, stops_bare, turned, some_came}
use Rattle.sx_reading.proofs.Marks.{end_is}
use Rattle.sx_reading.proofs.reading.take_turn.Goals as goal

pub returns-in-Err-clause-frame : goal.returns-in-Err-clause-frame
returns-in-Err-clause-frame g c = of_read c.args.file out.Result (g.D.Desk.seen c.args.desk.now) (g.D.Desk.seen c.read.new.self) c.read.new.buf _ c.in-Err.ensures

pub returns-in-Err-clause-after : goal.returns-in-Err-clause-after
returns-in-Err-clause-after g c = λ written outcome start b run stands.
    stops_reading written outcome (g.C.Consumer.stands c.args.consumer.now written outcome) c.args.file start (g.D.Desk.seen c.read.new.self) (g.D.Desk.seen c.args.desk.now) b c.read.new.buf c.in-Err.field-0 run
    c.in-Err.ensures stands

pub returns-in-Err-clause-keeps : goal.returns-in-Err-clause-keeps
returns-in-Err-clause-keeps g c = g.met.C.Consumer.keeps_same c.args.consumer.now

pub returns-in-Err-advance-clause-frame : goal.returns-in-Err-advance-clause-frame
returns-in-Err-advance-clause-frame g c = of_read c.args.file out.Result (g.D.Desk.seen c.args.desk.now) (g.D.Desk.seen c.read.new.self) c.read.new.buf _ c.in-Ok.ensures

pub returns-in-Err-advance-clause-after : goal.returns-in-Err-advance-clause-after
returns-in-Err-advance-clause-after g c = λ written outcome start b run stands.
    let n = c.in-Ok.count in
    let buf = c.read.new.buf in
    let le : n ≤ length buf = c.in-Ok.ensures.at_most in
    let few : n ≤ 65536 = omega (arith, le, c.requires.small) in
    stops_bare written outcome (g.C.Consumer.stands c.advance.new.consumer written outcome) c.args.file start (g.D.Desk.seen c.read.new.self)
    (memory_wanting written outcome c.args.file start (g.D.Desk.seen c.read.new.self) b (take n buf) (is_end (take n buf)) run.meaning.grows
    (read_feeds written outcome c.args.file n start (g.D.Desk.seen c.args.desk.now) (g.D.Desk.seen c.read.new.self) b buf run c.in-Ok.ensures le few))

pub returns-clause-frame : goal.returns-clause-frame
returns-clause-frame g c =
    then (of_read c.args.file out.Result (g.D.Desk.seen c.args.desk.now) (g.D.Desk.seen c.read.new.self) c.read.new.buf _ c.in-Ok.ensures) (c.flush.ensures.frame c.args.file)

pub returns-clause-after : goal.returns-clause-after
returns-clause-after g c = λ written outcome start b run stands.
    let n = c.in-Ok.count in
    let buf = c.read.new.buf in
    let le : n ≤ length buf = c.in-Ok.ensures.at_most in
    let few : n ≤ 65536 = omega (arith, le, c.requires.small) in
    let fed = read_feeds written outcome c.args.file n start (g.D.Desk.seen c.args.desk.now) (g.D.Desk.seen c.read.new.self) b buf run c.in-Ok.ensures le few in
    let e = is_end (take n buf) in
    let after = c.flush.ensures.after written outcome c.args.file start (b ++ take n buf) (written b false) e fed (c.in-Ok-advance.ensures.fed written outcome b (written b false) stands) in
    turned written outcome (g.C.Consumer.stands c.flush.new.consumer written outcome) c.args.file start (g.D.Desk.seen c.flush.new.desk) b (take n buf) e c.flush.result
    (λ going.
    let some : 1 ≤ n = some_came e n (end_is n buf le) going in
    omega (arith, length-take n buf)) after

pub returns-clause-keeps : goal.returns-clause-keeps
returns-clause-keeps g c = g.met.C.Consumer.keeps_then c.args.consumer.now c.advance.new.consumer c.flush.new.consumer c.advance.ensures.keeps c.flush.ensures.keeps
