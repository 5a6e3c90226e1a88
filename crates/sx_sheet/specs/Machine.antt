-- What a reader does at a token.
use Rattle.std.specs.Prelude.{ℕ, Bool, true, false, List, [], ◌∷◌, ◌++◌, reverse, Option, Some, None}
use Rattle.sx_kinds.specs.declared.constructs.Construct.{Construct}
use Rattle.sx_kinds.specs.declared.constructs.ConstructKind.TheVariants as kind
use Rattle.sx_kinds.specs.declared.constructs.Instr.{Instr}
use Rattle.sx_kinds.specs.declared.sheets.OnNoMatch.{OnNoMatch}
use Rattle.sx_kinds.specs.declared.sheets.OnNoMatch.TheVariants.{TextOnlyCopy}
use Rattle.sx_kinds.specs.declared.sheets.Template.{Template}
use Rattle.sx_named.specs.Named.{Name}
use Rattle.sx_sheet.specs.declared.stages.Stage.{Stage}
use Rattle.sx_sheet.specs.declared.stages.Stage.TheVariants as stage
use Rattle.sx_sheet.specs.declared.stages.TemplateStart.{TemplateStart}
use Rattle.sx_sheet.specs.declared.reader.Frame.{Frame}
use Rattle.sx_sheet.specs.declared.reader.Reader.{Reader}
use Rattle.sx_sheet.specs.Tokens.{Token, starts_sheet, starts_mode, starts_template, starts_literal, starts_text, starts_apply, ends, says, closes}
use Rattle.sx_sheet.specs.Numbers.{NumberPlace, number_place, place_opened, passed, place_entered, line_at, construct_on, pattern_on, literal_with, text_with, apply_with, template_with, plain}

-- what was read: the open elements with the innermost first, the body so far, and the templates that have ended
pub record SheetState : Type 0 where
  pub stage : Stage
  pub no_match : OnNoMatch
  pub templates : List Template
  pub outer : List Frame
  pub body : List Instr
  pub place : NumberPlace

-- the same by its parts
abbrev pub state : Stage → OnNoMatch → List Template → List Frame → List Instr → NumberPlace → SheetState
state g m ts fs b p = record { stage = g; no_match = m; templates = ts; outer = fs; body = b; place = p }

-- what a reader has read, which is so many tokens
abbrev pub state_of_reader : ℕ → Reader → SheetState
state_of_reader tokens r = state r.stage r.no_match r.templates (reverse r.outer) r.body (number_place r.constructs tokens)

-- nothing was read
abbrev pub first_state : SheetState
first_state = state stage.Sheet TextOnlyCopy [] [] [] (number_place 0 0)

-- behind a token that starts no construct
abbrev pub on_to_stage : SheetState → Stage → SheetState
on_to_stage s g = state g s.no_match s.templates s.outer s.body (passed s.place)

-- behind a token that ends the last instruction of the body
abbrev pub with_instr : SheetState → Stage → Instr → SheetState
with_instr s g i = state g s.no_match s.templates s.outer (s.body ++ i ∷ []) (passed s.place)

-- with the number of a name, if it is looked up
abbrev pub state_with_number : Option ℕ → (ℕ → SheetState) → Option SheetState
state_with_number None f = None
state_with_number (Some n) f = Some (f n)

-- a token at a stage that expects but one
abbrev pub fixed : Stage → SheetState → Token → Option SheetState
fixed stage.Sheet s starts_sheet = Some (on_to_stage s stage.Mode)
fixed stage.Mode s (starts_mode m) = Some (state stage.ModeEnd m s.templates s.outer s.body (passed s.place))
fixed stage.ModeEnd s ends = Some (on_to_stage s stage.Templates)
fixed (stage.TextEnd t) s ends = Some (on_to_stage s (stage.Body t))
fixed (stage.ApplyEnd t) s ends = Some (on_to_stage s (stage.Body t))
fixed stage.Close s closes = Some (on_to_stage s stage.End)
fixed g s token = None

-- the template that starts on this line behind so many constructs, and its pattern
abbrev pub template_start : ℕ → ℕ → ℕ → TemplateStart
template_start line count n = record { construct = construct_on line count kind.Template; pattern = pattern_on line count n }

-- an open literal element
abbrev pub frame : ℕ → Construct → List Instr → Frame
frame n c b = record { number = n; construct = c; before = b }

-- a literal element with the name of this number starts on this line
abbrev pub with_literal : ℕ → TemplateStart → SheetState → ℕ → SheetState
with_literal line t s n =
    state (stage.Body t) s.no_match s.templates (frame n (construct_on line s.place.constructs kind.Literal) s.body ∷ s.outer) [] (place_opened s.place)

-- an application of templates starts on this line
abbrev pub with_apply : ℕ → TemplateStart → SheetState → SheetState
with_apply line t s =
    state (stage.ApplyEnd t) s.no_match s.templates s.outer (s.body ++ apply_with (construct_on line s.place.constructs kind.ApplyTemplates) ∷ []) (place_opened s.place)

-- the innermost literal element ends, or the template where none is open
abbrev pub end_innermost : TemplateStart → SheetState → List Frame → SheetState
end_innermost t s [] = state stage.Templates s.no_match (s.templates ++ template_with t.construct t.pattern s.body ∷ []) [] [] (passed s.place)
end_innermost t s (f ∷ fs) = state (stage.Body t) s.no_match s.templates fs (f.before ++ literal_with f.construct f.number s.body ∷ []) (passed s.place)

-- a text that is not empty is said in an `xsl:text`
abbrev pub say : TemplateStart → Construct → SheetState → List ℕ → Option SheetState
say t c s [] = None
say t c s (x ∷ xs) = Some (with_instr s (stage.TextEnd t) (text_with c (x ∷ xs)))

-- behind the first_state of an `xsl:text`
abbrev pub in_text : TemplateStart → Construct → SheetState → Token → Option SheetState
in_text t c s (says w) = say t c s w
in_text t c s ends = Some (with_instr s (stage.Body t) (text_with c []))
in_text t c s token = None

-- where names are looked up so
module _ (look : Name → Option ℕ) where
  -- a template starts, or the stylesheet ends
  abbrev pub between : ℕ → SheetState → Token → Option SheetState
  between line s (starts_template name) =
      state_with_number (look (plain name)) (λ n. state (stage.Body (template_start line s.place.constructs n)) s.no_match s.templates s.outer s.body (place_entered s.place))
  between line s ends = Some (on_to_stage s stage.Close)
  between line s token = None

  -- in a body an instruction starts, or the innermost element ends
  abbrev pub inside_template : ℕ → TemplateStart → SheetState → Token → Option SheetState
  inside_template line t s (starts_literal name) = state_with_number (look name) (with_literal line t s)
  inside_template line t s starts_text = Some (state (stage.Text t (construct_on line s.place.constructs kind.Text)) s.no_match s.templates s.outer s.body (place_opened s.place))
  inside_template line t s starts_apply = Some (with_apply line t s)
  inside_template line t s ends = Some (end_innermost t s s.outer)
  inside_template line t s token = None

  -- a token on a line at a stage
  abbrev pub step_at : ℕ → Stage → SheetState → Token → Option SheetState
  step_at line stage.Templates s token = between line s token
  step_at line (stage.Body t) s token = inside_template line t s token
  step_at line (stage.Text t c) s token = in_text t c s token
  step_at line g s token = fixed g s token

  -- what was read with one token more, which is on this line
  abbrev pub next_state : ℕ → SheetState → Token → Option SheetState
  next_state line s token = step_at line s.stage s token

-- and so on, where the reader goes on
abbrev pub then_state : Option SheetState → (SheetState → Option SheetState) → Option SheetState
then_state None f = None
then_state (Some s) f = f s

-- what was read with these tokens more, where the reader goes on at each
abbrev pub run_states : List ℕ → (Name → Option ℕ) → SheetState → List Token → Option SheetState
run_states lines look s [] = Some s
run_states lines look s (t ∷ ts) = then_state (next_state look (line_at lines s.place) s t) (λ next. run_states lines look next ts)

-- whether nothing is left to be read
abbrev pub is_last : Stage → Bool
is_last stage.End = true
is_last g = false
