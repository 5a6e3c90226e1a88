use Rattle.std.proofs.Common.{◌+◌, ◌≤◌, List, ℕ, Bool}
use Rattle.sx_esis.specs.LineReader.{unread}
use Rattle.sx_names.specs.Numbering.{IsDistinct, KeepsPlaces}
use Rattle.sx_events.specs.Reader.{Along}
use Rattle.sx_events.specs.Standing.{events_in}
use Rattle.sx_events.proofs.taking.take_lines.Given as goal

abbrev pub invariant-loop-lines : goal.invariant-loop-lines
invariant-loop-lines l = record {
  along : (b : List ℕ) (ended : Bool) (given line : ℕ) → Along l.fn.lines l.fn.standing l.fn.pending l.limits l.fn.names b ended given line → Along l.lines l.standing l.pending l.limits l.names b ended given line;
  no_more : unread l.lines + events_in l.standing.run l.pending ≤ unread l.fn.lines + events_in l.fn.standing.run l.fn.pending;
  kept : KeepsPlaces l.fn.names l.names;
  distinct : IsDistinct l.fn.names → IsDistinct l.names;
}

abbrev pub decreases-loop-lines : goal.decreases-loop-lines
decreases-loop-lines l = unread l.lines
