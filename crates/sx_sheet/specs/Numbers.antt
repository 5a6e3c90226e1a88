-- The stylesheet that a syntax stands for: its constructs with their numbers and lines.
use Rattle.std.specs.Prelude.{◌≡◌, ℕ, ◌+◌, true, List, [], ◌∷◌, slice_get, slice_index_or, Some, None}
use Rattle.sx_tree.specs.declared.events.Label.{Label}
use Rattle.sx_named.specs.Named.{Name}
use Rattle.sx_kinds.specs.declared.constructs.Construct.{Construct}
use Rattle.sx_kinds.specs.declared.constructs.ConstructKind.{ConstructKind}
use Rattle.sx_kinds.specs.declared.constructs.ConstructKind.TheVariants as kind
use Rattle.sx_kinds.specs.declared.constructs.NamePattern.{NamePattern}
use Rattle.sx_kinds.specs.declared.constructs.InstrForm.TheVariants as form
use Rattle.sx_kinds.specs.declared.constructs.Instr.{Instr}
use Rattle.sx_kinds.specs.declared.constructs.Instr.TheViews.{roll-Instr}
use Rattle.sx_kinds.specs.declared.sheets.Template.{Template}
use Rattle.sx_kinds.specs.declared.sheets.Mode.{Mode}
use Rattle.sx_kinds.specs.declared.sheets.OnNoMatch.{OnNoMatch}
use Rattle.sx_kinds.specs.declared.sheets.Sheet.{Sheet}
use Rattle.sx_sheet.specs.Tokens.{Token, LinedToken}
use Rattle.sx_sheet.specs.Syntax.{ThinBody, nil, literal, words, apply, TemplateSyntax, SheetSyntax, said, tokens_of_sheet, tokens_in, lines_in}
use Rattle.sx_names.specs.Numbering.{NameTable}

-- ---- places

-- how many constructs have started, and how many tokens were read
pub record NumberPlace : Type 0 where
  pub constructs : ℕ
  pub tokens : ℕ

-- the same by its parts
abbrev pub number_place : ℕ → ℕ → NumberPlace
number_place c t = record { constructs = c; tokens = t }

-- behind a token that starts a construct
abbrev pub place_opened : NumberPlace → NumberPlace
place_opened p = number_place (p.constructs + 1) (p.tokens + 1)

-- behind a token that starts none
abbrev pub passed : NumberPlace → NumberPlace
passed p = number_place p.constructs (p.tokens + 1)

-- behind these tokens, which start no construct
abbrev pub passed_all : NumberPlace → List Token → NumberPlace
passed_all p [] = p
passed_all p (t ∷ ts) = passed_all (passed p) ts

-- behind the start of a template, whose pattern is a construct too
abbrev pub place_entered : NumberPlace → NumberPlace
place_entered p = number_place (p.constructs + 2) (p.tokens + 1)

-- behind a body
abbrev pub past : NumberPlace → ThinBody → NumberPlace
past p nil = p
past p (literal name b rest) = past (passed (past (place_opened p) b)) rest
past p (words s rest) = past (passed (passed_all (place_opened p) (said s))) rest
past p (apply rest) = past (passed (place_opened p)) rest

-- behind a template
abbrev pub past_template : NumberPlace → TemplateSyntax → NumberPlace
past_template p t = passed (past (place_entered p) t.body)

-- behind templates
abbrev pub past_templates : NumberPlace → List TemplateSyntax → NumberPlace
past_templates p [] = p
past_templates p (t ∷ ts) = past_templates (past_template p t) ts

-- behind the start of the stylesheet and its mode: three tokens, no construct
abbrev pub past_head : NumberPlace
past_head = number_place 0 3

-- ---- constructs

-- the construct that starts on this line behind so many
abbrev pub construct_on : ℕ → ℕ → ConstructKind → Construct
construct_on line count k = record { number = count + 1; line = line; kind = k }

-- the pattern of the template that starts on this line behind so many constructs
abbrev pub pattern_on : ℕ → ℕ → ℕ → NamePattern
pattern_on line count n = record { construct = record { number = count + 2; line = line; kind = kind.Pattern }; name = n }

-- the name with this number, without a prefix
abbrev pub label_of : ℕ → Label
label_of n = record { number = n; prefix = [] }

-- a literal element that is this construct, with the name of this number, and this content
abbrev pub literal_with : Construct → ℕ → List Instr → Instr
literal_with c n b = roll-Instr (record { construct = c; form = form.Literal (label_of n); body = b })

-- a text that is this construct
abbrev pub text_with : Construct → List ℕ → Instr
text_with c s = roll-Instr (record { construct = c; form = form.Text s; body = [] })

-- an application of templates that is this construct
abbrev pub apply_with : Construct → Instr
apply_with c = roll-Instr (record { construct = c; form = form.ApplyTemplates; body = [] })

-- a template that is this construct, with this pattern and this body
abbrev pub template_with : Construct → NamePattern → List Instr → Template
template_with c p b = record { construct = c; pattern = Some p; body = b }

-- a name in no namespace, without a prefix
abbrev pub plain : List ℕ → Name
plain local = record { prefix = []; uri = []; local = local }

-- ---- the stylesheet

-- where the tokens have these lines
module _ (lines : List ℕ) where
  -- the line of the token at a number_place
  abbrev pub line_at : NumberPlace → ℕ
  line_at p = slice_index_or lines p.tokens 0

  -- the construct that starts there
  abbrev pub next_construct : NumberPlace → ConstructKind → Construct
  next_construct p k = construct_on (line_at p) p.constructs k

-- where the tokens have these lines, and names these numbers
module _ (lines : List ℕ) (number : Name → ℕ) where
  -- the instructions of a body that begins at this number_place
  abbrev pub instrs_of : NumberPlace → ThinBody → List Instr
  instrs_of p nil = []
  instrs_of p (literal name b rest) =
      literal_with (next_construct lines p kind.Literal) (number name) (instrs_of (place_opened p) b) ∷ instrs_of (passed (past (place_opened p) b)) rest
  instrs_of p (words s rest) = text_with (next_construct lines p kind.Text) s ∷ instrs_of (passed (passed_all (place_opened p) (said s))) rest
  instrs_of p (apply rest) = apply_with (next_construct lines p kind.ApplyTemplates) ∷ instrs_of (passed (place_opened p)) rest

  -- the template that begins at this number_place: it and its pattern are two constructs on one line
  abbrev pub template_of : NumberPlace → TemplateSyntax → Template
  template_of p t = template_with (next_construct lines p kind.Template) (pattern_on (line_at lines p) p.constructs (number (plain t.name))) (instrs_of (place_entered p) t.body)

  -- the templates that begin at this number_place
  abbrev pub templates_of : NumberPlace → List TemplateSyntax → List Template
  templates_of p [] = []
  templates_of p (t ∷ ts) = template_of p t ∷ templates_of (past_template p t) ts

-- the one mode of a thin stylesheet: it is unnamed, declared and streamable
abbrev pub thin_mode : OnNoMatch → Mode
thin_mode m = record { name = None; declared = true; streamable = true; no_match = m }

-- a stylesheet with this one mode
abbrev pub sheet_with : OnNoMatch → List Template → ℕ → Sheet
sheet_with m templates constructs = record { modes = thin_mode m ∷ []; templates = templates; constructs = constructs }

-- the stylesheet of the syntax, where the tokens have these lines, and names these numbers
abbrev pub sheet_of : List ℕ → (Name → ℕ) → SheetSyntax → Sheet
sheet_of lines number s = sheet_with s.no_match (templates_of lines number past_head s.templates) (past_templates past_head s.templates).constructs

-- ---- the numbers of names

-- where this is said of names
module _ (N : Name → Type 0) where
  -- it holds of the names of all literal elements
  abbrev pub AllBody : ThinBody → Type 0
  AllBody nil = Unit {0}
  AllBody (literal name b rest) = N name × AllBody b × AllBody rest
  AllBody (words s rest) = AllBody rest
  AllBody (apply rest) = AllBody rest

  -- it holds of the names that templates match, which are in no namespace, and of those in their bodies
  abbrev pub AllTemplates : List TemplateSyntax → Type 0
  AllTemplates [] = Unit {0}
  AllTemplates (t ∷ ts) = N (plain t.name) × AllBody t.body × AllTemplates ts

-- the table has the name at its number
abbrev pub HasNumber : NameTable → (Name → ℕ) → Name → Type 0
HasNumber names number name = slice_get names (number name) ≡ Some (name.uri, name.local)

-- The stylesheet is that of a syntax whose tokens these are, and the table has the numbers of all its names.
pub record IsSheetOf (lined : List LinedToken) (names : NameTable) (sheet : Sheet) : Type 0 where
  pub syntax : SheetSyntax
  pub written : tokens_of_sheet syntax ≡ tokens_in lined
  pub number : Name → ℕ
  pub known : AllTemplates (HasNumber names number) syntax.templates
  pub says : sheet ≡ sheet_of (lines_in lined) number syntax
