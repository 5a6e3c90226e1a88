use Rattle.std.proofs.Common.{◌++◌, ℕ, List, false, take}
use Rattle.sx_build.specs.Asked.{Asked, all_asked_at}
use Rattle.sx_machine.specs.Writer.{WriterStands}
use Rattle.sx_machine.proofs.writer.Writer.push_all.Given as goal

abbrev pub invariant-loop-raw : goal.invariant-loop-raw
invariant-loop-raw l = (asked : List Asked) (given : ℕ) → WriterStands l.initial.self asked false given
    → WriterStands l.self (asked ++ all_asked_at l.names (take l.raw-index l.raws)) false given
