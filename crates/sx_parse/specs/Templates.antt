-- Value templates (XSLT 3.0, 5.6.1): fixed text, in which braces stand doubled, and expressions in braces.
use Rattle.std.specs.Prelude.{◌≡◌, ℕ, suc, ◌-◌, ◌<◌, ◌≤◌, ◌⊎◌, Bool, true, false, not, ◌&&◌, ◌||◌, ◌==◌, List, [], ◌∷◌, ◌++◌, length, take, drop, slice_index, if◌then◌else◌}
use Rattle.std.specs.Str.{IsCharBoundary}
use Rattle.sx_lex.specs.Tokens.{is_quote}
use Rattle.sx_atoms.specs.declared.error_codes.Code.TheVariants as code
use Rattle.sx_parse.specs.declared.faults.SyntaxFault.{SyntaxFault}
use Rattle.sx_parse.specs.declared.templates.Next.{Next}
use Rattle.sx_parse.specs.declared.templates.Next.TheVariants as next

-- text of its own, or the text of an expression
pub data Piece : Type 0 where
  fixed : List ℕ → Piece
  inner : List ℕ → Piece

-- `{` or `}`
abbrev pub is_brace : ℕ → Bool
is_brace c = c == 123 || c == 125

-- fixed text as it is piece_written
abbrev pub doubled : List ℕ → List ℕ
doubled [] = []
doubled (c ∷ cs) = if is_brace c then c ∷ c ∷ doubled cs else c ∷ doubled cs

-- a piece as it is piece_written
abbrev pub piece_written : Piece → List ℕ
piece_written (fixed text) = doubled text
piece_written (inner text) = 123 ∷ text ++ 125 ∷ []

abbrev pub all_written : List Piece → List ℕ
all_written [] = []
all_written (piece ∷ pieces) = piece_written piece ++ all_written pieces

abbrev pub begins_with : ℕ → List ℕ → Bool
begins_with brace [] = false
begins_with brace (c ∷ cs) = c == brace

-- whether text ends outside of literals and has no `}` outside of them; the number is the quote of the literal in which it begins, or 0
abbrev pub is_closed : ℕ → List ℕ → Bool
is_closed quote [] = quote == 0
is_closed quote (c ∷ cs) =
    if quote == 0 then (if is_quote c then is_closed c cs else not (c == 125) && is_closed 0 cs)
    else (if c == quote then is_closed 0 cs else is_closed quote cs)

-- whether there is a `}` outside of literals
abbrev pub closes_in : ℕ → List ℕ → Bool
closes_in quote [] = false
closes_in quote (c ∷ cs) =
    if quote == 0 then (if is_quote c then closes_in c cs else c == 125 || closes_in 0 cs)
    else (if c == quote then closes_in 0 cs else closes_in quote cs)

-- fixed text is not empty, and stands behind no fixed text where the flag is set; the text of an expression begins with no `{`
abbrev pub ArePieces : Bool → List Piece → Type 0
ArePieces behind [] = Unit {0}
ArePieces behind (fixed [] ∷ pieces) = ⊥
ArePieces behind (fixed (c ∷ cs) ∷ pieces) = (behind ≡ false) × ArePieces true pieces
ArePieces behind (inner text ∷ pieces) = (begins_with 123 text ≡ false) × (is_closed 0 text ≡ true) × ArePieces false pieces

-- a `{` that no `}` matches
pub record IsUnclosed (rest : List ℕ) : Type 0 where
  pub behind : List ℕ
  pub begins : rest ≡ 123 ∷ behind
  pub single : begins_with 123 behind ≡ false
  pub never : closes_in 0 behind ≡ false

-- a `}` that no `{` matches
pub record IsUnopened (rest : List ℕ) : Type 0 where
  pub behind : List ℕ
  pub begins : rest ≡ 125 ∷ behind
  pub single : begins_with 125 behind ≡ false

abbrev pub unclosed_at : ℕ → SyntaxFault
unclosed_at offset = record { code = code.Xtse0350; offset = offset }

abbrev pub unopened_at : ℕ → SyntaxFault
unopened_at offset = record { code = code.Xtse0370; offset = offset }

-- behind its pieces, at this offset, a template ends
abbrev pub EndsText : List ℕ → Type 0
EndsText rest = rest ≡ []

-- behind its pieces, at this offset, a template has a brace that nothing matches
abbrev pub Breaks : ℕ → List ℕ → SyntaxFault → Type 0
Breaks offset rest fault = (IsUnclosed rest × (fault ≡ unclosed_at offset)) ⊎ (IsUnopened rest × (fault ≡ unopened_at offset))

-- a text is cut into these pieces, up to its end or to a brace that nothing matches
pub record IsCutInPieces (text : List ℕ) (pieces : List Piece) (rest : List ℕ) : Type 0 where
  pub written : text ≡ all_written pieces ++ rest
  pub cut : ArePieces false pieces
  pub stops : EndsText rest ⊎ (IsUnclosed rest ⊎ IsUnopened rest)

-- fixed text goes on no further here: nothing is left, or a brace that is not doubled
abbrev pub StopsFixed : List ℕ → Type 0
StopsFixed [] = Unit {0}
StopsFixed (c ∷ cs) = (is_brace c ≡ true) × (begins_with c cs ≡ false)

-- fixed text stands in front, and so many bytes of it as it is piece_written
pub record IsFixedFront (text rest : List ℕ) (size : ℕ) : Type 0 where
  pub within : size ≤ length rest
  pub written : take size rest ≡ doubled text
  pub stops : StopsFixed (drop size rest)

-- so many bytes stand in front of the first `}` outside of literals
pub record IsClosedFront (rest : List ℕ) (size : ℕ) : Type 0 where
  pub within : size < length rest
  pub closed : is_closed 0 (take size rest) ≡ true
  pub mark : slice_index rest size ≡ 125

-- the quote of the literal that is open behind one more byte, or 0; before it, the first
abbrev pub quote_behind : ℕ → ℕ → ℕ
quote_behind quote c = if quote == 0 then (if is_quote c then c else 0) else (if c == quote then 0 else quote)

-- whether a byte ends the text of an expression, where a literal with this quote is open, or none
abbrev pub ends : ℕ → ℕ → Bool
ends quote c = quote == 0 && c == 125

-- fixed text, which is not empty, stands from an offset up to another, and goes on no further
pub record IsFixedNext (text : List ℕ) (offset : ℕ) (fixed_text : List ℕ) (end : ℕ) : Type 0 where
  pub begins : offset < end
  pub front : IsFixedFront fixed_text (drop offset text) (end - offset)
  pub boundary : IsCharBoundary text end

-- behind a `{` at an offset the text of an expression stands, up to a `}`
pub record IsInnerNext (text : List ℕ) (offset start end : ℕ) : Type 0 where
  pub opens : slice_index text offset ≡ 123
  pub begins : start ≡ suc offset
  pub order : start ≤ end
  pub single : begins_with 123 (drop start text) ≡ false
  pub front : IsClosedFront (drop start text) (end - start)
  pub starts : IsCharBoundary text start
  pub ends_at : IsCharBoundary text end
  pub goes_on : IsCharBoundary text (suc end)

-- what stands next in a template: its end, fixed text, the text of an expression, or a brace that nothing matches
abbrev pub IsNext : List ℕ → ℕ → Next → Type 0
IsNext text offset next.End = length text ≤ offset
IsNext text offset (next.Fixed fixed_text end) = IsFixedNext text offset fixed_text end
IsNext text offset (next.Inner start end) = IsInnerNext text offset start end
IsNext text offset (next.Fault fault) = Breaks offset (drop offset text) fault
