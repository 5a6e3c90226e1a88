-- What the calls of this crate answer.
use Rattle.std.specs.Prelude.{◌≡◌, ℕ, suc, ◌+◌, ◌<◌, ◌≤◌, ◌⊎◌, false, true, List, [], ◌∷◌, ◌++◌, length, map, Result, MatchResult}
use Rattle.sx_kinds.specs.Formed.{IsFormed}
use Rattle.sx_kinds.specs.declared.constructs.Construct.{Construct}
use Rattle.sx_kinds.specs.declared.constructs.ConstructKind.TheVariants as kind
use Rattle.sx_kinds.specs.declared.expressions.AvtPart.{AvtPart}
use Rattle.sx_kinds.specs.declared.expressions.AvtPart.TheVariants as avt_part
use Rattle.sx_kinds.specs.declared.expressions.Expr.{Expr}
use Rattle.sx_kinds.specs.declared.expressions.Pattern.{Pattern}
use Rattle.sx_lex.specs.declared.kinds.Token.{Token}
use Rattle.sx_names.specs.Scope.{ScopeBindings}
use Rattle.sx_parse.specs.declared.faults.Numbering.{Numbering}
use Rattle.sx_parse.specs.declared.faults.SyntaxFault.{SyntaxFault}
use Rattle.sx_parse.specs.declared.nodes.Node.{Node}
use Rattle.sx_parse.specs.declared.roles.Role.{Role}
use Rattle.sx_parse.specs.Answers.{IsFaulty, IsRead, IsRefused, meaning_in, names_with, too_long}
use Rattle.sx_parse.specs.Checks.{most_bytes, takes_arguments}
use Rattle.sx_parse.specs.Grammar.{Tree}
use Rattle.sx_parse.specs.Numbered.{construct_count, counts, in_order, numbered, numbers_in}
use Rattle.sx_parse.specs.Nodes.{nodes}
use Rattle.sx_parse.specs.Numbers.{NameEntry}
use Rattle.sx_parse.specs.Roles.{roles}
use Rattle.sx_parse.specs.Says.{says, alternatives}
use Rattle.sx_parse.specs.Templates.{Piece, fixed, inner, piece_written, all_written, ArePieces, Breaks}

-- a text is read as this expression, its constructs numbered from a number on, and its names are added to these
pub record IsSaid (scope : ScopeBindings) (text : List ℕ) (line : ℕ) (old : List NameEntry) (n : ℕ) (new : List NameEntry) (m : ℕ) (e : Expr) : Type 0 where
  pub tokens : List Token
  pub tree : Tree
  pub is : IsRead false scope text tokens tree
  pub names : new ≡ names_with scope text tokens tree old
  pub expression : e ≡ numbered n (says (meaning_in scope text tokens tree new line) tree)
  pub next : m ≡ n + construct_count (says (meaning_in scope text tokens tree new line) tree)

-- what a text that was read says with these names: for the derivation with these nodes and roles, its expression without numbers
abbrev pub IsSaying : ScopeBindings → List ℕ → List Token → List Node → List Role → ℕ → List NameEntry → List NameEntry → Expr → Type 0
IsSaying scope text ts given said line old new e =
    (t : Tree) → given ≡ nodes t → said ≡ roles 0 t → (new ≡ names_with scope text ts t old) × (e ≡ says (meaning_in scope text ts t new line) t)

-- the answer for an expression
pub record IsExpression (scope : ScopeBindings) (text : List ℕ) (old new : List NameEntry) (at after : Numbering) (e : Expr) : Type 0 where
  pub within : length text ≤ most_bytes
  pub is : IsSaid scope text at.line old at.next new after.next e
  pub line : after.line ≡ at.line

-- the construct of a pattern
abbrev pub pattern_at : Numbering → Construct
pattern_at at = record { number = at.next; line = at.line; kind = kind.Pattern }

-- a text is read as this pattern, its constructs numbered from a number on, and its names are added to these
pub record IsPatternOf (scope : ScopeBindings) (text : List ℕ) (old new : List NameEntry) (at after : Numbering) (q : Pattern) : Type 0 where
  pub tokens : List Token
  pub tree : Tree
  pub is : IsRead true scope text tokens tree
  pub names : new ≡ names_with scope text tokens tree old
  pub construct : q.construct ≡ pattern_at at
  pub alternatives_are : q.alternatives ≡ in_order true (suc at.next) (map numbers_in (alternatives (meaning_in scope text tokens tree new at.line) tree))
  pub next : after.next ≡ suc at.next + counts true (map numbers_in (alternatives (meaning_in scope text tokens tree new at.line) tree))
  pub line : after.line ≡ at.line

-- the answer for a pattern
pub record IsPattern (scope : ScopeBindings) (text : List ℕ) (old new : List NameEntry) (at after : Numbering) (q : Pattern) : Type 0 where
  pub within : length text ≤ most_bytes
  pub is : IsPatternOf scope text old new at after q

-- ---- value templates

-- the parts of pieces, one behind another: fixed text as it is, and each expression with its names and numbers behind those before it
abbrev pub AreTemplateParts : ScopeBindings → ℕ → List Piece → List NameEntry → ℕ → List AvtPart → List NameEntry → ℕ → Type 0
AreTemplateParts scope line [] old n parts new m = (parts ≡ []) × (new ≡ old) × (m ≡ n)
AreTemplateParts scope line (fixed text ∷ pieces) old n [] new m = ⊥
AreTemplateParts scope line (fixed text ∷ pieces) old n (part ∷ parts) new m = (part ≡ avt_part.Fixed text) × AreTemplateParts scope line pieces old n parts new m
AreTemplateParts scope line (inner text ∷ pieces) old n [] new m = ⊥
AreTemplateParts scope line (inner text ∷ pieces) old n (part ∷ parts) new m =
    (e : Expr) × (names : List NameEntry) × (k : ℕ)
    × (part ≡ avt_part.Inner e) × IsSaid scope text line old n names k e × AreTemplateParts scope line pieces names k parts new m

-- the answer for a value template
pub record IsTemplate (scope : ScopeBindings) (text : List ℕ) (old new : List NameEntry) (at after : Numbering) (parts : List AvtPart) : Type 0 where
  pub within : length text ≤ most_bytes
  pub pieces : List Piece
  pub are : ArePieces false pieces
  pub text_is : text ≡ all_written pieces
  pub parts_are : AreTemplateParts scope at.line pieces old at.next parts new after.next
  pub line : after.line ≡ at.line

-- the expressions among these parts are formed, their calls with as many arguments as their functions take
abbrev pub AreFormedParts : List AvtPart → Type 0
AreFormedParts [] = Unit {0}
AreFormedParts (avt_part.Fixed text ∷ parts) = AreFormedParts parts
AreFormedParts (avt_part.Inner e ∷ parts) = IsFormed takes_arguments e × AreFormedParts parts

-- a fault in the text of an expression that stands at an offset
abbrev pub shifted : ℕ → SyntaxFault → SyntaxFault
shifted offset fault = record { code = fault.code; offset = offset + fault.offset }

-- all of these pieces are read
abbrev pub ArePiecesRead : ScopeBindings → List Piece → Type 0
ArePiecesRead scope [] = Unit {0}
ArePiecesRead scope (fixed text ∷ pieces) = ArePiecesRead scope pieces
ArePiecesRead scope (inner text ∷ pieces) = ((ts : List Token) × (t : Tree) × IsRead false scope text ts t) × ArePiecesRead scope pieces

-- behind pieces that are read stands an expression that is refused
pub record IsRefusedInside (scope : ScopeBindings) (text : List ℕ) (fault : SyntaxFault) : Type 0 where
  pub pieces : List Piece
  pub refused : List ℕ
  pub are : ArePieces false (pieces ++ inner refused ∷ [])
  pub read : ArePiecesRead scope pieces
  pub rest : List ℕ
  pub text_is : text ≡ all_written pieces ++ piece_written (inner refused) ++ rest
  pub inside : SyntaxFault
  pub refusal : IsRefused false scope refused inside
  pub fault_is : fault ≡ shifted (suc (length (all_written pieces))) inside

-- behind pieces that are read stands a brace that nothing matches
pub record IsUnmatched (scope : ScopeBindings) (text : List ℕ) (fault : SyntaxFault) : Type 0 where
  pub pieces : List Piece
  pub are : ArePieces false pieces
  pub read : ArePiecesRead scope pieces
  pub rest : List ℕ
  pub text_is : text ≡ all_written pieces ++ rest
  pub breaks : Breaks (length (all_written pieces)) rest fault

-- why a value template is refused
abbrev pub IsFaultyTemplate : ScopeBindings → List ℕ → SyntaxFault → Type 0
IsFaultyTemplate scope text fault =
    ((most_bytes < length text) × (fault ≡ too_long)) ⊎ ((length text ≤ most_bytes) × (IsRefusedInside scope text fault ⊎ IsUnmatched scope text fault))

-- what is answered for an expression: it, or why the text is none
abbrev pub AnswersExpression : ScopeBindings → List ℕ → List NameEntry → List NameEntry → Numbering → Numbering → Result Expr SyntaxFault → Type 0
AnswersExpression scope text old new at after answer = MatchResult answer (IsExpression scope text old new at after) (IsFaulty false scope text)

-- for a pattern
abbrev pub AnswersPattern : ScopeBindings → List ℕ → List NameEntry → List NameEntry → Numbering → Numbering → Result Pattern SyntaxFault → Type 0
AnswersPattern scope text old new at after answer = MatchResult answer (IsPattern scope text old new at after) (IsFaulty true scope text)

-- for a value template
abbrev pub AnswersTemplate : ScopeBindings → List ℕ → List NameEntry → List NameEntry → Numbering → Numbering → Result (List AvtPart) SyntaxFault → Type 0
AnswersTemplate scope text old new at after answer = MatchResult answer (IsTemplate scope text old new at after) (IsFaultyTemplate scope text)
