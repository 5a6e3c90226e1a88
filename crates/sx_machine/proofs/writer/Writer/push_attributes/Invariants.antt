use Rattle.std.proofs.Common.{◌≡◌, ◌++◌, ℕ, List, false, length, reverse}
use Rattle.sx_build.specs.Asked.{Asked}
use Rattle.sx_named.specs.Named.{attributes_at}
use Rattle.sx_machine.specs.Writer.{WriterStands, asked_attributes}
use Rattle.sx_machine.proofs.writer.Writer.push_attributes.Given as goal

abbrev pub invariant-loop-attr : goal.invariant-loop-attr
invariant-loop-attr l = (asked : List Asked) (given : ℕ) → WriterStands l.initial.self asked false given
    → (so_far : List Asked) × WriterStands l.self so_far false given
    × (so_far ++ asked_attributes (attributes_at l.names (reverse l.turned)) ≡ asked ++ asked_attributes (attributes_at l.names (reverse l.initial.turned)))

abbrev pub decreases-loop-attr : goal.decreases-loop-attr
decreases-loop-attr l = length l.turned
