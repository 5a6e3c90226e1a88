use Rattle.std.proofs.Common.{◌≤◌, ◌^◌, ◌++◌, [], false, length, length-append, arith}
use Rattle.sx_reading.proofs.Frames.{then}
use Rattle.sx_reading.proofs.Turns.{begins}
use Rattle.sx_reading.proofs.reading.run.Goals as goal

pub returns-in-Some-clause-frame : goal.returns-in-Some-clause-frame
returns-in-Some-clause-frame g c = c.flush.ensures.frame c.args.file

pub returns-in-Some-clause-runs : goal.returns-in-Some-clause-runs
returns-in-Some-clause-runs g c = λ written outcome stands.
    (c.in-Some.ensures.after written outcome c.args.file (g.D.Desk.seen c.args.desk.now) [] [] false
    (begins written outcome c.args.file (g.D.Desk.seen c.args.desk.now) c.requires.untouched) stands).transforms

pub returns-in-Some-clause-left : goal.returns-in-Some-clause-left
returns-in-Some-clause-left g c = λ written outcome stands.
    (c.in-Some.ensures.after written outcome c.args.file (g.D.Desk.seen c.args.desk.now) [] [] false
    (begins written outcome c.args.file (g.D.Desk.seen c.args.desk.now) c.requires.untouched) stands).left

pub reads-init : goal.reads-init
reads-init g c = record {
  frame = c.flush.ensures.frame c.args.file;
  keeps = c.flush.ensures.keeps;
  running = λ written outcome stands.
      let after = c.in-None.ensures.after written outcome c.args.file (g.D.Desk.seen c.args.desk.now) [] [] false
      (begins written outcome c.args.file (g.D.Desk.seen c.args.desk.now) c.requires.untouched) stands in
      ([], omega arith, after.1, after.2);
}

pub reads-preserved : goal.reads-preserved
reads-preserved g c = record {
  frame = then c.reads.invariant.frame c.take_turn.ensures.frame;
  keeps = g.met.C.Consumer.keeps_then c.args.consumer.now c.reads.consumer c.take_turn.new.consumer c.reads.invariant.keeps c.take_turn.ensures.keeps;
  running = λ written outcome stands.
      let before = c.reads.invariant.running written outcome stands in
      let b = before.0 in
      let so_far : c.reads.count ≤ length b = before.1 in
      let after = c.in-None-take_turn.ensures.after written outcome (g.D.Desk.seen c.args.desk.now) b before.2 before.3 in
      let some : 1 ≤ length after.0 = after.1 in
      (b ++ after.0, omega (arith, length-append b after.0), after.2, after.3);
}

pub returns-in-Some-take_turn-clause-frame : goal.returns-in-Some-take_turn-clause-frame
returns-in-Some-take_turn-clause-frame g c = then c.reads.invariant.frame c.take_turn.ensures.frame

pub returns-in-Some-take_turn-clause-runs : goal.returns-in-Some-take_turn-clause-runs
returns-in-Some-take_turn-clause-runs g c = λ written outcome stands.
    let before = c.reads.invariant.running written outcome stands in
    (c.in-Some-take_turn.ensures.after written outcome (g.D.Desk.seen c.args.desk.now) before.0 before.2 before.3).transforms

pub returns-in-Some-take_turn-clause-left : goal.returns-in-Some-take_turn-clause-left
returns-in-Some-take_turn-clause-left g c = λ written outcome stands.
    let before = c.reads.invariant.running written outcome stands in
    (c.in-Some-take_turn.ensures.after written outcome (g.D.Desk.seen c.args.desk.now) before.0 before.2 before.3).left

pub returns-in-Some-take_turn-clause-keeps : goal.returns-in-Some-take_turn-clause-keeps
returns-in-Some-take_turn-clause-keeps g c =
    g.met.C.Consumer.keeps_then c.args.consumer.now c.reads.consumer c.take_turn.new.consumer c.reads.invariant.keeps c.take_turn.ensures.keeps

pub returns-clause-runs : goal.returns-clause-runs
returns-clause-runs g c = λ written outcome stands.
    let before = c.reads.invariant.running written outcome stands in
    let so_far : c.reads.count ≤ length before.0 = before.1 in
    let within : length before.0 ≤ 2 ^ 40 = before.2.within in
    absurd (omega arith)
