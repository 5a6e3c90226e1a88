use Rattle.std.proofs.Common.{◌≡◌, ◌+◌, ◌*◌, false, length}
use Rattle.sx_parse.specs.Numbered.{counts, numbers_in}
use Rattle.sx_parse.specs.Raised.{left_of, whole_level, levels_behind, raised, levels_ended, levels_waiting}
use Rattle.sx_parse.proofs.numbering.number_in.Given as goal

-- the levels give the whole_level, whose parts left have the numbers from the next one on
abbrev pub invariant-loop-part : goal.invariant-loop-part
invariant-loop-part l = record {
  expr : raised l.levels (whole_level l.level l.at.next) (levels_behind l.level l.at.next) ≡ (numbers_in l.fn.expr l.fn.outside).from l.fn.at.next;
  next : levels_ended l.levels (levels_behind l.level l.at.next) ≡ l.fn.at.next + (numbers_in l.fn.expr l.fn.outside).count;
  line : l.at.line ≡ l.fn.at.line;
}

abbrev pub decreases-loop-part : goal.decreases-loop-part
decreases-loop-part l = 2 * (levels_waiting l.levels + counts false (left_of l.level)) + length l.levels
