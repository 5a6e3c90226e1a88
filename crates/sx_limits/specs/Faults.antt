-- What is wrong with a document, as it is told.
use Rattle.std.specs.Prelude.{ℕ, Bool, true, false, List, codes}
use Rattle.sx_limits.specs.declared.faults.Which.{Which}
use Rattle.sx_limits.specs.declared.faults.Which.TheVariants as which

-- the document goes beyond a limit
abbrev pub is_limit : Which → Bool
is_limit which.NotUtf8 = false
is_limit which.BadEscape = false
is_limit which.BadCommand = false
is_limit which.BadAttr = false
is_limit which.Sdata = false
is_limit which.Unsupported = false
is_limit which.LooseAttr = false
is_limit which.EndMismatch = false
is_limit which.AfterRoot = false
is_limit which.NoRoot = false
is_limit which.Truncated = false
is_limit which.DoubleAttr = false
is_limit which.UnboundPrefix = false
is_limit which.Line = true
is_limit which.TextRun = true
is_limit which.Attrs = true
is_limit which.Depth = true
is_limit which.Bytes = true
is_limit which.Nodes = true

-- the name that diagnostic lines have for it
abbrev pub fault_name : Which → List ℕ
fault_name which.NotUtf8 = codes "NotUtf8"
fault_name which.BadEscape = codes "BadEscape"
fault_name which.BadCommand = codes "BadCommand"
fault_name which.BadAttr = codes "BadAttr"
fault_name which.Sdata = codes "Sdata"
fault_name which.Unsupported = codes "Unsupported"
fault_name which.LooseAttr = codes "LooseAttr"
fault_name which.EndMismatch = codes "EndMismatch"
fault_name which.AfterRoot = codes "AfterRoot"
fault_name which.NoRoot = codes "NoRoot"
fault_name which.Truncated = codes "Truncated"
fault_name which.DoubleAttr = codes "DoubleAttr"
fault_name which.UnboundPrefix = codes "UnboundPrefix"
fault_name which.Line = codes "Line"
fault_name which.TextRun = codes "TextRun"
fault_name which.Attrs = codes "Attrs"
fault_name which.Depth = codes "Depth"
fault_name which.Bytes = codes "Bytes"
fault_name which.Nodes = codes "Nodes"
