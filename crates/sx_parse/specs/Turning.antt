-- How far a value template is read.
use Rattle.std.specs.Prelude.{◌≡◌, ℕ, ◌+◌, ◌*◌, ◌<◌, ◌≤◌, ◌⊎◌, Bool, true, false, List, [], ◌∷◌, ◌++◌, drop, length}
use Rattle.std.specs.Str.{IsCharBoundary}
use Rattle.sx_kinds.specs.declared.expressions.AvtPart.{AvtPart}
use Rattle.sx_names.specs.Scope.{ScopeBindings}
use Rattle.sx_parse.specs.declared.value_templates.Turn.{Turn}
use Rattle.sx_parse.specs.declared.value_templates.Turn.TheVariants as turn
use Rattle.sx_parse.specs.Numbers.{NameEntry}
use Rattle.sx_parse.specs.Parsed.{AreTemplateParts, ArePiecesRead, IsRefusedInside, IsUnmatched}
use Rattle.sx_parse.specs.Templates.{Piece, fixed, inner, all_written, ArePieces, StopsFixed}

-- whether the last piece is fixed text; the flag, where there is none
abbrev pub ends_fixed : Bool → List Piece → Bool
ends_fixed flag [] = flag
ends_fixed flag (fixed text ∷ pieces) = ends_fixed true pieces
ends_fixed flag (inner text ∷ pieces) = ends_fixed false pieces

-- up to an offset a text is cut into these pieces
pub record IsCutTo (text : List ℕ) (pieces : List Piece) (offset : ℕ) : Type 0 where
  pub written : text ≡ all_written pieces ++ drop offset text
  pub cut : ArePieces false pieces
  pub apart : ends_fixed false pieces ≡ true → StopsFixed (drop offset text)
  pub boundary : IsCharBoundary text offset

-- up to an offset a text is cut into pieces that are read as these parts, their names and numbers behind the first ones
pub record IsReadTo (scope : ScopeBindings) (text : List ℕ) (line : ℕ) (old : List NameEntry) (n offset : ℕ) (parts : List AvtPart) (new : List NameEntry) (m : ℕ) : Type 0 where
  pub pieces : List Piece
  pub cut : IsCutTo text pieces offset
  pub read : ArePiecesRead scope pieces
  pub parts_are : AreTemplateParts scope line pieces old n parts new m
  pub more : n ≤ m
  pub few : m ≤ n + 2 * offset

-- what a turn at an offset shows of a text that is read up to there: it is read to its end, or refused here, or read further
abbrev pub Turns : ScopeBindings → List ℕ → ℕ → List NameEntry → ℕ → ℕ → Turn → List AvtPart → List NameEntry → ℕ → Type 0
Turns scope text line old n offset turn.Whole parts new m =
    (length text ≤ offset) × IsReadTo scope text line old n offset parts new m
Turns scope text line old n offset (turn.Refused fault) parts new m =
    (IsRefusedInside scope text fault ⊎ IsUnmatched scope text fault) × IsReadTo scope text line old n offset parts new m
Turns scope text line old n offset (turn.Behind end) parts new m =
    (offset < end) × IsReadTo scope text line old n end parts new m
