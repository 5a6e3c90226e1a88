-- Parts of thin stylesheets, and what a reader has read of them.
use Rattle.std.proofs.Common.{ℕ, List, [], ◌∷◌, ◌++◌}
use Rattle.sx_kinds.specs.declared.constructs.Construct.{Construct}
use Rattle.sx_kinds.specs.declared.constructs.ConstructKind.TheVariants as kind
use Rattle.sx_kinds.specs.declared.constructs.Instr.{Instr}
use Rattle.sx_kinds.specs.declared.sheets.OnNoMatch.{OnNoMatch}
use Rattle.sx_kinds.specs.declared.sheets.OnNoMatch.TheVariants.{TextOnlyCopy}
use Rattle.sx_named.specs.Named.{Name}
use Rattle.sx_sheet.specs.declared.reader.Frame.{Frame}
use Rattle.sx_sheet.specs.declared.stages.Stage.{Stage}
use Rattle.sx_sheet.specs.declared.stages.Stage.TheVariants as stage
use Rattle.sx_sheet.specs.declared.stages.TemplateStart.{TemplateStart}
use Rattle.sx_sheet.specs.Tokens.{Token, starts_sheet, starts_mode, starts_template, starts_literal, starts_text, starts_apply, ends, says, closes}
use Rattle.sx_sheet.specs.Syntax.{ThinBody, TemplateSyntax, tokens_of_body, tokens_of_templates}
use Rattle.sx_sheet.specs.Numbers.{NumberPlace, number_place, place_opened, passed, place_entered, past, past_head, line_at, next_construct, text_with, apply_with, instrs_of, templates_of, past_templates, plain, AllBody, AllTemplates}
use Rattle.sx_sheet.specs.Machine.{SheetState, state, template_start, frame}

-- an open literal element
pub record Level : Type 0 where
  pub name : Name
  pub before : ThinBody

abbrev pub level : Name → ThinBody → Level
level n b = record { name = n; before = b }

-- a template that has not ended, behind those that have
pub record Inner : Type 0 where
  pub no_match : OnNoMatch
  pub done : List TemplateSyntax
  pub name : List ℕ
  pub outer : List Level
  pub body : ThinBody

-- What was read: nothing, the start of the stylesheet, or that and the start of its mode; templates; those and a part of one that
-- has not ended, where an `xsl:text` or an `xsl:apply-templates` may have started; all but the end of the input; or all.
pub data Part : Type 0 where
  nothing : Part
  begun : Part
  moded : OnNoMatch → Part
  between : OnNoMatch → List TemplateSyntax → Part
  within : Inner → Part
  texting : Inner → Part
  texted : Inner → ℕ → List ℕ → Part
  applied : Inner → Part
  ended : OnNoMatch → List TemplateSyntax → Part
  closed : OnNoMatch → List TemplateSyntax → Part

-- ---- the tokens read

abbrev pub head : OnNoMatch → List Token
head m = starts_sheet ∷ starts_mode m ∷ ends ∷ []

abbrev pub outer_tokens : List Level → List Token
outer_tokens [] = []
outer_tokens (l ∷ ls) = outer_tokens ls ++ tokens_of_body l.before ++ starts_literal l.name ∷ []

abbrev pub inner_tokens : Inner → List Token
inner_tokens i = (head i.no_match ++ tokens_of_templates i.done) ++ starts_template i.name ∷ outer_tokens i.outer ++ tokens_of_body i.body

abbrev pub tokens_of : Part → List Token
tokens_of nothing = []
tokens_of begun = starts_sheet ∷ []
tokens_of (moded m) = starts_sheet ∷ starts_mode m ∷ []
tokens_of (between m ts) = head m ++ tokens_of_templates ts
tokens_of (within i) = inner_tokens i
tokens_of (texting i) = inner_tokens i ++ starts_text ∷ []
tokens_of (texted i c s) = (inner_tokens i ++ starts_text ∷ []) ++ says (c ∷ s) ∷ []
tokens_of (applied i) = inner_tokens i ++ starts_apply ∷ []
tokens_of (ended m ts) = (head m ++ tokens_of_templates ts) ++ ends ∷ []
tokens_of (closed m ts) = ((head m ++ tokens_of_templates ts) ++ ends ∷ []) ++ closes ∷ []

-- ---- places behind them

-- behind templates
abbrev pub base : List TemplateSyntax → NumberPlace
base ts = past_templates past_head ts

-- behind the start of the innermost of these elements
abbrev pub inside_of : NumberPlace → List Level → NumberPlace
inside_of p [] = p
inside_of p (l ∷ ls) = place_opened (past (inside_of p ls) l.before)

-- where the body that has not ended begins, and how far it was read
abbrev pub body_start : Inner → NumberPlace
body_start i = inside_of (place_entered (base i.done)) i.outer

abbrev pub here : Inner → NumberPlace
here i = past (body_start i) i.body

-- ---- the reader behind them

module _ (lines : List ℕ) (nm : Name → ℕ) where
  abbrev pub frames : NumberPlace → List Level → List Frame
  frames p [] = []
  frames p (l ∷ ls) = frame (nm l.name) (next_construct lines (past (inside_of p ls) l.before) kind.Literal) (instrs_of lines nm (inside_of p ls) l.before) ∷ frames p ls

  abbrev pub starting : Inner → TemplateStart
  starting i = template_start (line_at lines (base i.done)) (base i.done).constructs (nm (plain i.name))

  abbrev pub inner_state : Stage → Inner → List Instr → NumberPlace → SheetState
  inner_state g i b p = state g i.no_match (templates_of lines nm past_head i.done) (frames (place_entered (base i.done)) i.outer) b p

  abbrev pub read_so_far : Inner → List Instr
  read_so_far i = instrs_of lines nm (body_start i) i.body

  abbrev pub text_start : Inner → Construct
  text_start i = next_construct lines (here i) kind.Text

  abbrev pub shows : Part → SheetState
  shows nothing = state stage.Sheet TextOnlyCopy [] [] [] (number_place 0 0)
  shows begun = state stage.Mode TextOnlyCopy [] [] [] (number_place 0 1)
  shows (moded m) = state stage.ModeEnd m [] [] [] (number_place 0 2)
  shows (between m ts) = state stage.Templates m (templates_of lines nm past_head ts) [] [] (base ts)
  shows (within i) = inner_state (stage.Body (starting i)) i (read_so_far i) (here i)
  shows (texting i) = inner_state (stage.Text (starting i) (text_start i)) i (read_so_far i) (place_opened (here i))
  shows (texted i c s) = inner_state (stage.TextEnd (starting i)) i (read_so_far i ++ text_with (text_start i) (c ∷ s) ∷ []) (passed (place_opened (here i)))
  shows (applied i) = inner_state (stage.ApplyEnd (starting i)) i (read_so_far i ++ apply_with (next_construct lines (here i) kind.ApplyTemplates) ∷ []) (place_opened (here i))
  shows (ended m ts) = state stage.Close m (templates_of lines nm past_head ts) [] [] (passed (base ts))
  shows (closed m ts) = state stage.End m (templates_of lines nm past_head ts) [] [] (passed (passed (base ts)))

-- ---- what holds of all names in a part

module _ (N : Name → Type 0) where
  abbrev pub GoodOuter : List Level → Type 0
  GoodOuter [] = Unit {0}
  GoodOuter (l ∷ ls) = N l.name × AllBody N l.before × GoodOuter ls

  abbrev pub GoodInner : Inner → Type 0
  GoodInner i = AllTemplates N i.done × N (plain i.name) × GoodOuter i.outer × AllBody N i.body

  abbrev pub Good : Part → Type 0
  Good (between m ts) = AllTemplates N ts
  Good (within i) = GoodInner i
  Good (texting i) = GoodInner i
  Good (texted i c s) = GoodInner i
  Good (applied i) = GoodInner i
  Good (ended m ts) = AllTemplates N ts
  Good (closed m ts) = AllTemplates N ts
  Good p = Unit {0}
