-- The texts of literals.
use Rattle.std.specs.Prelude.{◌≡◌, ℕ, true, List}
use Rattle.sx_lex.specs.Tokens.{is_literal}
use Rattle.sx_lex.specs.declared.kinds.TokenKind.{TokenKind}
use Rattle.sx_lex.specs.declared.kinds.TokenKind.TheVariants as token_kind

-- a text in quotes where the kind is not that of a number
abbrev pub IsLiteral : TokenKind → List ℕ → Type 0
IsLiteral token_kind.Integer text = Unit {0}
IsLiteral token_kind.Decimal text = Unit {0}
IsLiteral kind text = is_literal text ≡ true
