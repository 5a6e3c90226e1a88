use Rattle.std.proofs.Common.{◌≤◌, ◌-◌, ◌^◌, ◌+◌, List, [], ℕ, length, false}
use Rattle.sx_desk.specs.declared.desk.Out.TheVariants as out
use Rattle.sx_reading.specs.Frame.{Frame}
use Rattle.sx_reading.specs.Transforming.{WrittenFor, OutcomeFor}
use Rattle.sx_reading.specs.Turn.{Running}
use Rattle.sx_reading.proofs.reading.run.Given as goal

abbrev pub invariant-reads : goal.invariant-reads
invariant-reads g l = record {
  frame : Frame l.file out.Result (g.D.Desk.seen l.fn.desk) (g.D.Desk.seen l.desk);
  keeps : g.C.Consumer.keeps l.fn.consumer l.consumer;
  running : (written : WrittenFor) (outcome : OutcomeFor) → g.C.Consumer.stands l.fn.consumer written outcome [] false []
      → (b : List ℕ) × (l.count ≤ length b)
      × Running written outcome l.file (g.D.Desk.seen l.fn.desk) (g.D.Desk.seen l.desk) b
      × g.C.Consumer.stands l.consumer written outcome b false (written b false);
}

abbrev pub decreases-reads : goal.decreases-reads
decreases-reads g l = 2 ^ 40 + 1 - l.count
