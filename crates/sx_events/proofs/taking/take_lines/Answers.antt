use Rattle.std.proofs.Common.{◌+◌, ◌≤◌, arith}
use Rattle.sx_esis.specs.LineReader.{unread}
use Rattle.sx_names.proofs.Places.{KeepsPlaces-trans}
use Rattle.sx_events.specs.Pending.{IsIdle}
use Rattle.sx_events.specs.Standing.{events_in}
use Rattle.sx_events.proofs.taking.take_lines.Goals as goal

pub loop-lines-preserved : goal.loop-lines-preserved
loop-lines-preserved c =
    let idle : IsIdle c.loop-lines.pending = c.is_empty.ensures.0 c.loop-lines-test.true in
    let next = c.in_ok-take_next.ensures in
    let so_far = c.loop-lines.invariant in
    let before = so_far.no_more in
    let fewer : unread c.take_next.new.lines + events_in c.take_next.new.standing.run c.take_next.new.pending ≤ unread c.loop-lines.lines + events_in c.loop-lines.standing.run c.loop-lines.pending = rw c.in-Line.is at next.no_more in
    record {
      along = λ b ended given line a. (rw c.in-Line.is at next.after) b ended given line idle (so_far.along b ended given line a);
      no_more = omega (arith, before, fewer);
      kept = KeepsPlaces-trans _ _ _ so_far.kept next.kept;
      distinct = λ d. next.distinct (so_far.distinct d);
    }

pub returns-in-All-clause-after : goal.returns-in-All-clause-after
returns-in-All-clause-after c = λ b ended given line a.
    (rw c.in-All.is at c.in_ok-take_next.ensures.after) b ended given line (c.is_empty.ensures.0 c.loop-lines-test.true) (c.loop-lines.invariant.along b ended given line a)

pub returns-in-All-clause-kept : goal.returns-in-All-clause-kept
returns-in-All-clause-kept c = KeepsPlaces-trans _ _ _ c.loop-lines.invariant.kept c.in_ok-take_next.ensures.kept

pub returns-in-Broken-clause-after : goal.returns-in-Broken-clause-after
returns-in-Broken-clause-after c = λ b ended given line a.
    (rw c.in-Broken.is at c.in_ok-take_next.ensures.after) b ended given line (c.is_empty.ensures.0 c.loop-lines-test.true) (c.loop-lines.invariant.along b ended given line a)

pub returns-in-Broken-clause-kept : goal.returns-in-Broken-clause-kept
returns-in-Broken-clause-kept c = KeepsPlaces-trans _ _ _ c.loop-lines.invariant.kept c.in_ok-take_next.ensures.kept
