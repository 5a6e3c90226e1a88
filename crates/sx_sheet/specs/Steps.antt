-- What a token makes of a reader.
use Rattle.std.specs.Prelude.{◌≡◌, ℕ, ◌+◌, Option, option_map}
use Rattle.sx_named.specs.Named.{Name}
use Rattle.sx_names.specs.Numbering.{NameTable}
use Rattle.sx_sheet.specs.Looking.{GivesNumbers}
use Rattle.sx_sheet.specs.Machine.{SheetState, state_of_reader}
use Rattle.sx_sheet.specs.Shown.{shown, IsShown}
use Rattle.sx_sheet.specs.Tokens.{Token}
use Rattle.sx_sheet.specs.declared.reader.Reader.{Reader}
use Rattle.sx_sheet.specs.declared.tokens.Token.{Token as TokenRead}

-- whatever stood in front, the reader is behind one more token what this step makes of the machine's state
abbrev pub StepsTo : (SheetState → SheetState) → Reader → Reader → Type 0
StepsTo step_by old new = (tokens : ℕ) → state_of_reader (tokens + 1) new ≡ step_by (state_of_reader tokens old)

-- the same where names are looked up as the table gives them, and the token may be refused
abbrev pub StepsAs : ((Name → Option ℕ) → SheetState → Option SheetState) → NameTable → Reader → Option Reader → Type 0
StepsAs step_by names old new =
    (look : Name → Option ℕ) (tokens : ℕ) → GivesNumbers names look →
    option_map (state_of_reader (tokens + 1)) new ≡ step_by look (state_of_reader tokens old)

-- the same at a token, by each table that has its name
abbrev pub StepsAt : ((Name → Option ℕ) → SheetState → Token → Option SheetState) → TokenRead → Reader → Option Reader → Type 0
StepsAt step_by token old new =
    (names : NameTable) (look : Name → Option ℕ) (tokens : ℕ) → IsShown names token → GivesNumbers names look →
    option_map (state_of_reader (tokens + 1)) new ≡ step_by look (state_of_reader tokens old) (shown names token)

-- the same at a token for which nothing is looked up
abbrev pub StepsWithout : (SheetState → Token → Option SheetState) → TokenRead → Reader → Option Reader → Type 0
StepsWithout step_by token old new =
    (names : NameTable) (tokens : ℕ) → option_map (state_of_reader (tokens + 1)) new ≡ step_by (state_of_reader tokens old) (shown names token)
