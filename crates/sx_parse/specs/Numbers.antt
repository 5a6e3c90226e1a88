-- The numbers of the names of an expression.
use Rattle.std.specs.Prelude.{ℕ, suc, Bool, true, false, ◌&&◌, List, [], ◌∷◌, ◌++◌, bytes_eq, if◌then◌else◌}
use Rattle.sx_chars.specs.Names.{local_of}
use Rattle.sx_lex.specs.declared.kinds.Token.{Token}
use Rattle.sx_names.specs.Scope.{ScopeBindings}
use Rattle.sx_parse.specs.declared.roles.Role.{Role}
use Rattle.sx_parse.specs.declared.roles.Role.TheVariants as role
use Rattle.sx_parse.specs.Checks.{name_uri, or_none}
use Rattle.sx_parse.specs.Lexemes.{text_of_token}

-- a name: its namespace and its local name
abbrev pub NameEntry : Type 0
NameEntry = List ℕ × List ℕ

-- the name that is written so
abbrev pub expanded : ScopeBindings → List ℕ → NameEntry
expanded scope text = (or_none (name_uri scope text), local_of text)

abbrev pub same_name : NameEntry → NameEntry → Bool
same_name a b = bytes_eq a.0 b.0 && bytes_eq a.1 b.1

-- the place of a name among these, or their number where it is not there
abbrev pub number_in : List NameEntry → NameEntry → ℕ
number_in [] name = 0
number_in (other ∷ others) name = if same_name other name then 0 else suc (number_in others name)

abbrev pub is_among_names : List NameEntry → NameEntry → Bool
is_among_names [] name = false
is_among_names (other ∷ others) name = if same_name other name then true else is_among_names others name

-- these names, with one more behind them if it is new
abbrev pub with_name : List NameEntry → NameEntry → List NameEntry
with_name names name = if is_among_names names name then names else names ++ name ∷ []

abbrev pub with_names : List NameEntry → List NameEntry → List NameEntry
with_names names [] = names
with_names names (name ∷ others) = with_names (with_name names name) others

-- the names of elements, attributes and variables among tokens with these roles
abbrev pub names_among : ScopeBindings → List ℕ → List Role → List Token → List NameEntry
names_among scope text [] ts = []
names_among scope text (r ∷ rs) [] = []
names_among scope text (role.Name ∷ rs) (token ∷ ts) = expanded scope (text_of_token text token) ∷ names_among scope text rs ts
names_among scope text (r ∷ rs) (token ∷ ts) = names_among scope text rs ts

-- for each token the number of its name where it has one, and else 0
abbrev pub numbers_among : List NameEntry → ScopeBindings → List ℕ → List Role → List Token → List ℕ
numbers_among names scope text [] ts = []
numbers_among names scope text (r ∷ rs) [] = []
numbers_among names scope text (role.Name ∷ rs) (token ∷ ts) = number_in names (expanded scope (text_of_token text token)) ∷ numbers_among names scope text rs ts
numbers_among names scope text (r ∷ rs) (token ∷ ts) = 0 ∷ numbers_among names scope text rs ts
