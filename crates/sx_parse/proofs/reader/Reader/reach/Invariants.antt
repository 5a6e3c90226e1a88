use Rattle.std.proofs.Common.{◌≡◌, length}
use Rattle.sx_parse.specs.Flat as flat
use Rattle.sx_parse.specs.Flat.{seen}
use Rattle.sx_parse.proofs.reader.Reader.reach.Given as goal

abbrev pub invariant-loop-frame : goal.invariant-loop-frame
invariant-loop-frame l = flat.joined_at l.floor (seen l.self) l.operands ≡ flat.joined_at l.fn.floor (seen l.initial.self) l.initial.operands

abbrev pub decreases-loop-frame : goal.decreases-loop-frame
decreases-loop-frame l = length l.self.frames
