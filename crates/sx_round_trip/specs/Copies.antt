-- A copy, as built events.
use Rattle.std.specs.Prelude.{ℕ, true, List, []}
use Rattle.sx_lines.specs.declared.events.Built.{Built}
use Rattle.sx_limits.specs.Limits.{stated}
use Rattle.sx_top.specs.Copy.{copy_sheet}
use Rattle.sx_top.specs.Run.{happened, result_on}

-- the built events of the copy of a document's bytes
abbrev pub copied : List ℕ → List Built
copied b = (result_on copy_sheet [] stated (happened stated b true)).built
