-- The tokens of a text, up to where it breaks.
use Rattle.std.specs.Prelude.{◌≡◌, ℕ, ◌<◌, ◌≤◌, List, [], ◌∷◌, length, Option, Some, None}
use Rattle.std.specs.Str.{IsCharBoundary}
use Rattle.sx_lex.specs.Tokens.{AreTokens, BreaksBehind, kind_of}
use Rattle.sx_lex.specs.declared.kinds.Token.{Token}
use Rattle.sx_parse.specs.declared.lexemes.Lexeme.{Lexeme}
use Rattle.sx_parse.specs.Lexemes.{text_of_token, lexemes_of}

-- these are the tokens of a text, or those in front of the offset at which none begins
abbrev pub AreRead : List ℕ → List Token → Option ℕ → Type 0
AreRead text ts None = AreTokens 0 text ts
AreRead text ts (Some offset) = BreaksBehind 0 text ts offset

-- a token is a part of a text, which may be cut at both ends of it, and its kind is that of the part
pub record IsPart (text : List ℕ) (token : Token) : Type 0 where
  pub order : token.start < token.end
  pub begins : IsCharBoundary text token.start
  pub ends : IsCharBoundary text token.end
  pub kind : kind_of (text_of_token text token) ≡ Some token.kind

-- each of these tokens is a part of a text
abbrev pub AreParts : List ℕ → List Token → Type 0
AreParts text [] = Unit {0}
AreParts text (token ∷ others) = IsPart text token × AreParts text others

-- what reading the tokens of a text gives: the tokens, of which there are no more than bytes, what they are to the grammar, and
-- the offset at which no token begins, if there is one
pub record IsLexed (text : List ℕ) (ts : List Token) (ls : List Lexeme) (stop : Option ℕ) : Type 0 where
  pub read : AreRead text ts stop
  pub parts : AreParts text ts
  pub few : length ts ≤ length text
  pub lexemes : ls ≡ lexemes_of text ts
