-- The words of the laws.
use Rattle.std.specs.Prelude.{◌≡◌, ℕ, ◌-◌, ◌<◌, ◌≤◌, true, List, [], ◌∷◌, length, take, drop}
use Rattle.std.specs.List.{list_all}
use Rattle.std.specs.Str.{IsCharBoundary}
use Rattle.sx_chars.specs.Names.{is_white_space}
use Rattle.sx_lex.specs.declared.kinds.Token.{Token}

-- all bytes of a text from one place up to another are white space
abbrev pub IsWhite : List ℕ → ℕ → ℕ → Type 0
IsWhite text from to = list_all is_white_space (take (to - from) (drop from text)) ≡ true

-- from a place on the spans of these tokens are in order, not empty and within the text, and all else is white space
abbrev pub AreSpans : List ℕ → ℕ → List Token → Type 0
AreSpans text place [] = (place ≤ length text) × IsWhite text place (length text)
AreSpans text place (token ∷ others) =
    (place ≤ token.start) × (token.start < token.end) × (token.end ≤ length text) × IsWhite text place token.start × AreSpans text token.end others

-- a text may be cut at both ends of each of these tokens, since no character has bytes on both sides
abbrev pub AreCuts : List ℕ → List Token → Type 0
AreCuts text [] = Unit {0}
AreCuts text (token ∷ others) = IsCharBoundary text token.start × IsCharBoundary text token.end × AreCuts text others
