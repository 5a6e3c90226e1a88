-- The stylesheet of a copy: every node is copied (XSLT 3.0, 6.7.2, shallow copy).
use Rattle.std.specs.Prelude.{[], ◌∷◌}
use Rattle.sx_kinds.specs.declared.sheets.Sheet.{Sheet}
use Rattle.sx_kinds.specs.declared.sheets.OnNoMatch.TheVariants.{ShallowCopy}
use Rattle.sx_machine.specs.Meaning.{thin_mode}
use Rattle.sx_limits.specs.Limits.{stated}
use Rattle.sx_reading.specs.Transforming.{WrittenFor, OutcomeFor}
use Rattle.sx_top.specs.Run.{run_written, run_outcome}

-- the unnamed mode alone, which is streamable and copies what no template matches, and no template
abbrev pub copy_sheet : Sheet
copy_sheet = record { modes = thin_mode ShallowCopy ∷ []; templates = []; constructs = 0 }

-- what a copy writes for bytes, and where they end; no name stands in its stylesheet
abbrev pub copy_written : WrittenFor
copy_written = run_written copy_sheet [] stated

abbrev pub copy_outcome : OutcomeFor
copy_outcome = run_outcome copy_sheet [] stated
