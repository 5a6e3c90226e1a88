-- The syntax of thin stylesheets, and the tokens that it is written with.
use Rattle.std.specs.Prelude.{◌≡◌, ◌<◌, ◌≤◌, ℕ, suc, List, [], ◌∷◌, ◌++◌, length, take, slice_index_or, map}
use Rattle.sx_kinds.specs.declared.sheets.OnNoMatch.{OnNoMatch}
use Rattle.sx_named.specs.Named.{Name}
use Rattle.sx_sheet.specs.Tokens.{Token, starts_sheet, starts_mode, starts_template, starts_literal, starts_text, starts_apply, ends, says, closes, LinedToken}

-- Instructions one behind another: a literal element with its content, a text, or an application of templates; then
-- those that follow.
pub data ThinBody : Type 0 where
  nil : ThinBody
  literal : Name → ThinBody → ThinBody → ThinBody
  words : List ℕ → ThinBody → ThinBody
  apply : ThinBody → ThinBody

-- a template: the name that it matches, and its body
pub record TemplateSyntax : Type 0 where
  pub name : List ℕ
  pub body : ThinBody

-- a stylesheet: what its mode does with nodes that no template matches, and its templates
pub record SheetSyntax : Type 0 where
  pub no_match : OnNoMatch
  pub templates : List TemplateSyntax

-- ---- the tokens

-- no token for the empty text, one for another
abbrev pub said : List ℕ → List Token
said [] = []
said (c ∷ s) = says (c ∷ s) ∷ []

-- the tokens of a body: a literal element or an instruction has a start and an end
abbrev pub tokens_of_body : ThinBody → List Token
tokens_of_body nil = []
tokens_of_body (literal name b rest) = starts_literal name ∷ tokens_of_body b ++ ends ∷ tokens_of_body rest
tokens_of_body (words s rest) = starts_text ∷ said s ++ ends ∷ tokens_of_body rest
tokens_of_body (apply rest) = starts_apply ∷ ends ∷ tokens_of_body rest

-- the tokens of templates: the start, the body and the end of each
abbrev pub tokens_of_templates : List TemplateSyntax → List Token
tokens_of_templates [] = []
tokens_of_templates (t ∷ ts) = starts_template t.name ∷ tokens_of_body t.body ++ ends ∷ tokens_of_templates ts

-- the tokens of a stylesheet: its start, its mode, its templates, its end, and the end of the input
abbrev pub tokens_of_sheet : SheetSyntax → List Token
tokens_of_sheet s = starts_sheet ∷ starts_mode s.no_match ∷ ends ∷ tokens_of_templates s.templates ++ ends ∷ closes ∷ []

-- ---- thin stylesheets

-- the tokens are a thin stylesheet
pub record IsThin (tokens : List Token) : Type 0 where
  pub syntax : SheetSyntax
  pub written : tokens_of_sheet syntax ≡ tokens

-- the tokens are the first ones of a thin stylesheet
pub record BeginsThin (tokens : List Token) : Type 0 where
  pub more : List Token
  pub thin : IsThin (tokens ++ more)

-- The tokens break off behind so many: those before begin a thin stylesheet, and with the next one they do not; or all of them
-- begin one and are none.
pub record BreaksAfter (tokens : List Token) (before : ℕ) : Type 0 where
  pub within : before ≤ length tokens
  pub begins : BeginsThin (take before tokens)
  pub here : before < length tokens → BeginsThin (take (suc before) tokens) → ⊥
  pub at_end : before ≡ length tokens → IsThin tokens → ⊥

-- the tokens, without their lines, and the lines
abbrev pub tokens_in : List LinedToken → List Token
tokens_in lined = map (λ t. t.token) lined

abbrev pub lines_in : List LinedToken → List ℕ
lines_in lined = map (λ t. t.line) lined

-- the last of the tokens is the end of the input
pub record IsClosed (tokens : List Token) : Type 0 where
  pub front : List Token
  pub last : front ++ closes ∷ [] ≡ tokens

-- The tokens break off on a line: that of the first event that no thin stylesheet has there. (Where all of them begin a thin
-- stylesheet and are none, which the close of the input excludes, the line is 0.)
pub record BreaksOn (lined : List LinedToken) (line : ℕ) : Type 0 where
  pub before : ℕ
  pub breaks : BreaksAfter (tokens_in lined) before
  pub line_is : line ≡ slice_index_or (lines_in lined) before 0
