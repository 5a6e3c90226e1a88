-- The tokens of expressions (XPath 3.1, A.2). A text is its bytes.
use Rattle.std.specs.Prelude.{◌≡◌, ℕ, ◌+◌, ◌-◌, ◌<◌, ◌≤◌, Bool, false, ◌&&◌, ◌||◌, ◌==◌, nat_lt, bytes_eq, codes, count_by, if◌then◌else◌, List, [], ◌∷◌, length, take, drop, Option, Some, None, IsSome}
use Rattle.std.specs.Char.{is_ascii_digit}
use Rattle.std.specs.List.{list_all, list_any, prefix_len}
use Rattle.std.specs.Str.{IsCharBoundary}
use Rattle.sx_chars.specs.Names.{is_ncname, is_qname, before, behind, is_white_space}
use Rattle.sx_lex.specs.declared.kinds.Token.{Token}
use Rattle.sx_lex.specs.declared.kinds.TokenKind.{TokenKind}
use Rattle.sx_lex.specs.declared.kinds.TokenKind.TheVariants as kind

-- a name: a QName (XPath 3.1, A.2.1)
abbrev pub is_name : List ℕ → Bool
is_name text = is_qname text

-- what stands in front of a colon and what stands behind it are a name and an asterisk, in either order (XPath 3.1, A.1, Wildcard)
abbrev pub are_wild : List ℕ → Option (List ℕ) → Bool
are_wild front None = false
are_wild front (Some back) = (is_ncname front && bytes_eq back (codes "*")) || (bytes_eq front (codes "*") && is_ncname back)

-- a wildcard of one part: an NCName and `:*`, or `*:` and an NCName (XPath 3.1, A.1, Wildcard)
abbrev pub is_wild : List ℕ → Bool
is_wild text = are_wild (before 58 text) (behind 58 text)

-- an IntegerLiteral: one digit or more (XPath 3.1, A.2.1)
abbrev pub is_integer : List ℕ → Bool
is_integer text = list_all is_ascii_digit text && nat_lt 0 (length text)

-- a point (XPath 3.1, A.2.1, DecimalLiteral)
abbrev pub is_point : ℕ → Bool
is_point c = c == 46

-- a DecimalLiteral: one digit or more, and one point before, among or behind them (XPath 3.1, A.2.1)
abbrev pub is_decimal_literal : List ℕ → Bool
is_decimal_literal text = list_all (λ c. is_ascii_digit c || is_point c) text && (count_by is_point text == 1) && nat_lt 1 (length text)

-- what stands behind the first quote of a literal: it ends in that quote, and has it besides only doubled (XPath 3.1, A.2.1,
-- StringLiteral, EscapeQuot, EscapeApos)
abbrev pub closes : ℕ → List ℕ → Bool
closes quote [] = false
closes quote (c ∷ []) = c == quote
closes quote (c ∷ d ∷ rest) = if c == quote then d == quote && closes quote rest else closes quote (d ∷ rest)

-- a quotation mark or an apostrophe (XPath 3.1, A.2.1, StringLiteral)
abbrev pub is_quote : ℕ → Bool
is_quote c = c == 34 || c == 39

-- a StringLiteral: text in quotes of one kind, in which that quote stands doubled (XPath 3.1, A.2.1)
abbrev pub is_literal : List ℕ → Bool
is_literal [] = false
is_literal (quote ∷ rest) = is_quote quote && closes quote rest

-- the symbols that are tokens of their own (XPath 3.1, A.2)
abbrev pub mark_texts : List (List ℕ)
mark_texts =
    codes "(" ∷ codes ")" ∷ codes "[" ∷ codes "]" ∷ codes "," ∷ codes "$" ∷ codes "@" ∷ codes "?" ∷ codes "." ∷ codes ".." ∷ codes "/"
    ∷ codes "//" ∷ codes "::" ∷ codes ":=" ∷ codes "|" ∷ codes "||" ∷ codes "!" ∷ codes "!=" ∷ codes "=" ∷ codes "<" ∷ codes "<="
    ∷ codes ">" ∷ codes ">=" ∷ codes "+" ∷ codes "-" ∷ codes "*" ∷ []

-- a mark: one of these symbols (XPath 3.1, A.2)
unfoldable pub is_mark : List ℕ → Bool
is_mark text = list_any (bytes_eq text) mark_texts

-- the first kind of these whose test holds
abbrev pub first_kind : List (Bool × TokenKind) → Option TokenKind
first_kind [] = None
first_kind (row ∷ rows) = if row.0 then Some row.1 else first_kind rows

-- the tests of the kinds on a text
abbrev pub kinds : List ℕ → List (Bool × TokenKind)
kinds text =
    (is_name text, kind.Name)
    ∷ (is_wild text, kind.Wild)
    ∷ (is_integer text, kind.Integer)
    ∷ (is_decimal_literal text, kind.Decimal)
    ∷ (is_literal text, kind.Str)
    ∷ (is_mark text, kind.Mark)
    ∷ []

-- the kind of a token, by its text, where the text is a token (XPath 3.1, A.2)
unfoldable pub kind_of : List ℕ → Option TokenKind
kind_of text = first_kind (kinds text)

-- the front of so many bytes is a token, and no longer front, cut between characters, is one (XPath 3.1, A.2, longest match)
pub record IsLongest (text : List ℕ) (size : ℕ) : Type 0 where
  pub boundary : IsCharBoundary text size
  pub token : IsSome (kind_of (take size text))
  pub longest : (more : ℕ) → size < more → IsCharBoundary text more → kind_of (take more text) ≡ None

-- no front, cut between characters, is a token (XPath 3.1, A.2)
abbrev pub NoToken : List ℕ → Type 0
NoToken text = (size : ℕ) → 0 < size → IsCharBoundary text size → kind_of (take size text) ≡ None

-- how many bytes of white space stand in front (XPath 3.1, A.2.4)
abbrev pub white_len : List ℕ → ℕ
white_len text = prefix_len is_white_space text

-- the first token of a text that stands at a place: the longest behind the white space, with its kind and its span (XPath 3.1, A.2)
pub record IsFirst (place : ℕ) (text : List ℕ) (token : Token) : Type 0 where
  pub begins : token.start ≡ place + white_len text
  pub order : token.start ≤ token.end
  pub longest : IsLongest (drop (white_len text) text) (token.end - token.start)
  pub kind : kind_of (take (token.end - token.start) (drop (white_len text) text)) ≡ Some token.kind

-- the tokens of a text that stands at a place (XPath 3.1, A.2): none where it is white space; else the first, and those of what
-- stands behind it
abbrev pub AreTokens : ℕ → List ℕ → List Token → Type 0
AreTokens place text [] = white_len text ≡ length text
AreTokens place text (token ∷ others) = IsFirst place text token × AreTokens token.end (drop (token.end - place) text) others

-- a text that stands at a place has these tokens, and behind them and white space, at the offset, bytes with which no token begins
-- (XPath 3.1, A.2)
abbrev pub BreaksBehind : ℕ → List ℕ → List Token → ℕ → Type 0
BreaksBehind place text [] offset = (offset ≡ place + white_len text) × (white_len text < length text) × NoToken (drop (white_len text) text)
BreaksBehind place text (token ∷ others) offset = IsFirst place text token × BreaksBehind token.end (drop (token.end - place) text) others offset

-- a text that stands at a place has tokens up to an offset at which no token begins (XPath 3.1, A.2)
abbrev pub BreaksAt : ℕ → List ℕ → ℕ → Type 0
BreaksAt place text offset = (tokens : List Token) × BreaksBehind place text tokens offset
