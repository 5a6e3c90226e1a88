-- What one token does to the names of an expression.
use Rattle.std.specs.Prelude.{ℕ, List}
use Rattle.sx_parse.specs.declared.roles.Role.{Role}
use Rattle.sx_parse.specs.declared.roles.Role.TheVariants as role
use Rattle.sx_parse.specs.Numbers.{NameEntry, number_in, with_name}

-- these names behind a token of this role that is written as this name: one more if it is a name, and new
abbrev pub names_with_role : Role → List NameEntry → NameEntry → List NameEntry
names_with_role role.Name names name = with_name names name
names_with_role r names name = names

-- its number among these names; 0 where it is no name
abbrev pub number_with : Role → List NameEntry → NameEntry → ℕ
number_with role.Name names name = number_in names name
number_with r names name = 0
