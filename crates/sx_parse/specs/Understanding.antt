-- A text that was read, with what its reading left.
use Rattle.std.specs.Prelude.{◌≡◌, ℕ, ◌≤◌, Bool, List, length, Option, Some, None}
use Rattle.sx_lex.specs.declared.kinds.Token.{Token}
use Rattle.sx_names.specs.Scope.{ScopeBindings}
use Rattle.sx_parse.specs.declared.nodes.Node.{Node}
use Rattle.sx_parse.specs.declared.roles.Role.{Role}
use Rattle.sx_parse.specs.Answers.{IsRead}
use Rattle.sx_parse.specs.Grammar.{Tree}
use Rattle.sx_parse.specs.Lexing.{AreParts}
use Rattle.sx_parse.specs.Nodes.{nodes}
use Rattle.sx_parse.specs.Roles.{roles}

-- a text is read: its tokens, the list of its derivation, and the roles of its tokens
pub record IsUnderstood (p : Bool) (scope : ScopeBindings) (text : List ℕ) (ts : List Token) (given : List Node) (said : List Role) : Type 0 where
  pub tree : Tree
  pub is : IsRead p scope text ts tree
  pub nodes_are : given ≡ nodes tree
  pub roles_are : said ≡ roles 0 tree
  pub parts : AreParts text ts
  pub few : length ts ≤ length text

-- the number of the token at which reading stops, by that at which no reading goes on, or else by the break behind the last token
abbrev pub stop_of : Option ℕ → Option ℕ → ℕ → Option ℕ
stop_of (Some k) stop count = Some k
stop_of None (Some offset) count = Some count
stop_of None None count = None
