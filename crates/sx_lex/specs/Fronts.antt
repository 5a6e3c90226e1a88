-- What stands at the front of a text.
use Rattle.std.specs.Prelude.{◌≡◌, ◌≢◌, ℕ, ◌-◌, ◌<◌, ◌≤◌, Bool, true, false, ◌&&◌, ◌||◌, ◌==◌, ◌++◌, nat_le, List, length, take, drop, slice_index, Some}
use Rattle.std.specs.Char.{encode_utf8, is_ascii_digit}
use Rattle.std.specs.List.{list_all}
use Rattle.std.specs.Str.{IsCharBoundary, chars}
use Rattle.sx_chars.specs.Names.{is_further}
use Rattle.sx_lex.specs.Tokens.{IsLongest, kind_of, is_point}
use Rattle.sx_lex.specs.declared.kinds.TokenKind.{TokenKind}

-- the longest token at the front is of this kind and has so many bytes
pub record IsToken (text : List ℕ) (kind : TokenKind) (size : ℕ) : Type 0 where
  pub longest : IsLongest text size
  pub is : kind_of (take size text) ≡ Some kind

-- the longest front of bytes that passes has so many, and ends in ASCII; 0 where none passes
pub record IsLongestFront (passes : List ℕ → Bool) (text : List ℕ) (size : ℕ) : Type 0 where
  pub within : size ≤ length text
  pub ascii : 0 < size → slice_index text (size - 1) < 128
  pub is : 0 < size → passes (take size text) ≡ true
  pub longest : (more : ℕ) → size < more → more ≤ length text → passes (take more text) ≡ false

-- the longest front of characters that passes has so many bytes; 0 where none passes
pub record IsTextFront (passes : List ℕ → Bool) (text : List ℕ) (size : ℕ) : Type 0 where
  pub boundary : IsCharBoundary text size
  pub is : 0 < size → passes (take size text) ≡ true
  pub longest : (more : ℕ) → size < more → IsCharBoundary text more → passes (take more text) ≡ false

-- a text begins with a character that goes on no name
abbrev pub StopsName : List ℕ → Type 0
StopsName text = (c : ℕ) × (rest : List ℕ) × (text ≡ encode_utf8 c ++ rest) × (is_further c ≡ false)

-- the characters of a front of so many bytes go on a name, and the one behind them does not
pub record IsNameRun (text : List ℕ) (size : ℕ) : Type 0 where
  pub boundary : IsCharBoundary text size
  pub all : list_all is_further (chars (take size text)) ≡ true
  pub stops : size < length text → StopsName (drop size text)

-- a byte with which a name or a character beyond ASCII begins
abbrev pub begins_name : ℕ → Bool
begins_name c = (nat_le 65 c && nat_le c 90) || c == 95 || (nat_le 97 c && nat_le c 122) || nat_le 128 c

-- a text begins with a digit, or with a point and a digit
abbrev pub begins_number : List ℕ → Bool
begins_number text = is_ascii_digit (slice_index text 0) || (is_point (slice_index text 0) && is_ascii_digit (slice_index text 1))

-- a front of bytes without a quote, which stands behind it unless the text ends there
pub record IsQuoteFree (quote : ℕ) (text : List ℕ) (size : ℕ) : Type 0 where
  pub within : size ≤ length text
  pub free : (at : ℕ) → at < size → slice_index text at ≢ quote
  pub stops : size < length text → slice_index text size ≡ quote
