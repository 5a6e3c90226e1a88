use Rattle.std.proofs.Common.{◌≡◌, List, ◌++◌, length}
use Rattle.sx_lines.specs.declared.lines.Line.{Line}
use Rattle.sx_lines.specs.Lines.{AreLines, joined_lines}
use Rattle.sx_lines.specs.Reader.{ReadsAs}
use Rattle.sx_lines.proofs.reading.read_back.Given as goal

abbrev pub invariant-loop-line : goal.invariant-loop-line
invariant-loop-line l = (lines : List Line) × AreLines lines × (joined_lines lines ++ l.rest ≡ l.fn.bytes) × ReadsAs l.reader lines

abbrev pub decreases-loop-line : goal.decreases-loop-line
decreases-loop-line l = length l.rest
