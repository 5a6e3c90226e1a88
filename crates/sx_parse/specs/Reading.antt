-- What reading a list of tokens gives: the one derivation, or the first token at which no reading goes on, and with that some
-- derivation that begins with the tokens before it.
use Rattle.std.specs.Prelude.{◌≡◌, ℕ, Bool, true, false, List, [], ◌∷◌, ◌++◌, take, Option, Some, None}
use Rattle.sx_parse.specs.declared.lexemes.Lexeme.{Lexeme}
use Rattle.sx_parse.specs.declared.lexemes.Lexeme.TheVariants as lexeme
use Rattle.sx_parse.specs.declared.lexemes.Mark.TheVariants as mark
use Rattle.sx_parse.specs.declared.nodes.Node.{Node}
use Rattle.sx_parse.specs.declared.roles.Role.{Role}
use Rattle.sx_parse.specs.Grammar.{Tree, Fits, tokens, Derives, IsFault}
use Rattle.sx_parse.specs.Nodes.{nodes}
use Rattle.sx_parse.specs.Roles.{roles}

-- a token that makes of the name before it something else than a name: a function or a kind, an axis, or a word before a variable
abbrev pub turns : Lexeme → Bool
turns (lexeme.Mark mark.Open) = true
turns (lexeme.Mark mark.Colons) = true
turns (lexeme.Mark mark.Dollar) = true
turns l = false

-- the first of these tokens, if there is one, is none of those
abbrev pub SaysNothing : List Lexeme → Type 0
SaysNothing [] = Unit {0}
SaysNothing (l ∷ ls) = turns l ≡ false

-- whether the last of these tokens is a name
abbrev pub ends_in_name : List Lexeme → Bool
ends_in_name [] = false
ends_in_name (lexeme.Name w place ∷ []) = true
ends_in_name (l ∷ []) = false
ends_in_name (l ∷ m ∷ ls) = ends_in_name (m ∷ ls)

-- a derivation that begins with these tokens, in which the last of them, where it is a name, is what it is by itself
pub record HasContinuation (p : Bool) (ts : List Lexeme) (t : Tree) : Type 0 where
  pub rest : List Lexeme
  pub fits : Fits p 0 t
  pub tokens_are : tokens t ≡ ts ++ rest
  pub quiet : ends_in_name ts ≡ true → SaysNothing rest

-- all was read: the derivation, its list and its roles
pub record IsWholeReading (p : Bool) (ts : List Lexeme) (given : List Node) (said : List Role) : Type 0 where
  pub tree : Tree
  pub derives : Derives p ts tree
  pub nodes_are : given ≡ nodes tree
  pub roles_are : said ≡ roles 0 tree

-- no reading goes on at the token with this number: the roles are those of the tokens before it
pub record IsStopped (p : Bool) (ts : List Lexeme) (k : ℕ) (said : List Role) : Type 0 where
  pub fault : IsFault p ts k
  pub tree : Tree
  pub continues : HasContinuation p (take k ts) tree
  pub roles_are : said ≡ take k (roles 0 tree)

abbrev pub IsReadAs : Bool → List Lexeme → List Node → List Role → Option ℕ → Type 0
IsReadAs p ts given said None = IsWholeReading p ts given said
IsReadAs p ts given said (Some k) = IsStopped p ts k said
