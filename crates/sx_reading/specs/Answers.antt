-- What a status is to the user.
use Rattle.std.specs.Prelude.{ℕ, List, [], ◌∷◌, ◌++◌, codes, decimal}
use Rattle.sx_atoms.specs.Codes.{name_of}
use Rattle.sx_atoms.specs.declared.error_codes.Code.{Code}
use Rattle.sx_limits.specs.Faults as faults
use Rattle.sx_limits.specs.declared.faults.DocFault.{DocFault}
use Rattle.sx_reading.specs.declared.status.Input.{Input}
use Rattle.sx_reading.specs.declared.status.Input.TheVariants as input
use Rattle.sx_reading.specs.declared.status.Status.{Status}
use Rattle.sx_reading.specs.declared.status.Status.TheVariants as status

-- the exit status of the program
abbrev pub status_number : Status → ℕ
status_number status.Ok = 0
status_number status.Usage = 1
status_number (status.Static c l) = 2
status_number (status.Dynamic c) = 3
status_number (status.Malformed i f) = 4
status_number status.OpenFault = 5
status_number status.ReadFault = 6
status_number status.WriteFault = 7
status_number (status.Limit i f) = 8
status_number status.OutOfMemory = 9

-- the line of an error on a line of the stylesheet, whose number it names
abbrev pub static_line : Code → ℕ → List ℕ
static_line code line = codes "error " ++ name_of code ++ codes " line " ++ decimal line ++ 10 ∷ []

-- the line of an error that was found while the document was read
abbrev pub dynamic_line : Code → List ℕ
dynamic_line code = codes "error " ++ name_of code ++ 10 ∷ []

-- the word for an input
abbrev pub input_name : Input → List ℕ
input_name input.Sheet = codes "sheet"
input_name input.Document = codes "document"

-- the line of an input that is broken off: which input, then these words, what is wrong, and the number of the line
abbrev pub fault_line : Input → List ℕ → DocFault → List ℕ
fault_line input between fault =
    codes "error " ++ input_name input ++ between ++ faults.fault_name fault.which ++ codes " line " ++ decimal fault.line ++ 10 ∷ []

-- the line on the diagnostic output
abbrev pub diagnostic_of : Status → List ℕ
diagnostic_of status.Ok = []
diagnostic_of status.Usage = codes "error usage" ++ 10 ∷ []
diagnostic_of (status.Static c l) = static_line c l
diagnostic_of (status.Dynamic c) = dynamic_line c
diagnostic_of (status.Malformed i f) = fault_line i (codes "-") f
diagnostic_of status.OpenFault = codes "error open" ++ 10 ∷ []
diagnostic_of status.ReadFault = codes "error read" ++ 10 ∷ []
diagnostic_of status.WriteFault = codes "error write" ++ 10 ∷ []
diagnostic_of (status.Limit i f) = fault_line i (codes "-limit-") f
diagnostic_of status.OutOfMemory = codes "error memory" ++ 10 ∷ []
