use Rattle.std.proofs.Common.{◌≡◌, length, map, Some, None}
use Rattle.sx_parse.specs.Lexemes as spec
use Rattle.sx_parse.proofs.words.found.Given as goal

abbrev pub invariant-loop-table : goal.invariant-loop-table
invariant-loop-table g l =
    spec.found (map (λ row. (row.0.now, Some row.1)) l.table) l.text None ≡ spec.found (map (λ row. (row.0.now, Some row.1)) l.initial.table) l.text None

abbrev pub decreases-loop-table : goal.decreases-loop-table
decreases-loop-table g l = length l.table
