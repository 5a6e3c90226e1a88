-- What the tokens of a reader show.
use Rattle.std.specs.Prelude.{ℕ, ◌<◌, List, [], length}
use Rattle.sx_names.specs.Numbering.{NameTable, uri_at, local_at}
use Rattle.sx_named.specs.Named.{Name}
use Rattle.sx_sheet.specs.declared.tokens.Token.{Token}
use Rattle.sx_sheet.specs.declared.tokens.Token.TheVariants as token
use Rattle.sx_sheet.specs.Tokens as tokens

-- the name with this number by a table of names, without a prefix
abbrev pub bare_name : NameTable → ℕ → Name
bare_name names n = record { prefix = []; uri = uri_at names n; local = local_at names n }

-- what a token shows, by a table of names
abbrev pub shown : NameTable → Token → tokens.Token
shown names token.StartsSheet = tokens.starts_sheet
shown names (token.StartsMode m) = tokens.starts_mode m
shown names (token.StartsTemplate name) = tokens.starts_template name.now
shown names (token.StartsLiteral n) = tokens.starts_literal (bare_name names n)
shown names token.StartsText = tokens.starts_text
shown names token.StartsApply = tokens.starts_apply
shown names token.Ends = tokens.ends
shown names (token.Says s) = tokens.says s.now
shown names token.Closes = tokens.closes
shown names token.Strange = tokens.strange

-- the table has the name of a literal element
abbrev pub IsShown : NameTable → Token → Type 0
IsShown names token.StartsSheet = Unit {0}
IsShown names (token.StartsMode m) = Unit {0}
IsShown names (token.StartsTemplate name) = Unit {0}
IsShown names (token.StartsLiteral n) = n < length names
IsShown names token.StartsText = Unit {0}
IsShown names token.StartsApply = Unit {0}
IsShown names token.Ends = Unit {0}
IsShown names (token.Says s) = Unit {0}
IsShown names token.Closes = Unit {0}
IsShown names token.Strange = Unit {0}
