-- What is known of a stylesheet that was read.
use Rattle.std.proofs.Common.{◌≡◌, ◌<◌, ◌⊎◌, inl, inr, ℕ, Bool, true, false, not, ◌&&◌, List, [], ◌∷◌, length, Option, Some, None, IfSome, ap, sym, subst, if◌then◌else◌}
use Rattle.std.proofs.lemmas.Option.{slice_get_within}
use Rattle.sx_kinds.specs.declared.constructs.Construct.{Construct}
use Rattle.sx_kinds.specs.declared.constructs.Instr.{Instr}
use Rattle.sx_kinds.specs.declared.constructs.NamePattern.{NamePattern}
use Rattle.sx_kinds.specs.declared.sheets.OnNoMatch.{OnNoMatch}
use Rattle.sx_kinds.specs.declared.sheets.OnNoMatch.TheVariants.{TextOnlyCopy, ShallowCopy}
use Rattle.sx_kinds.specs.declared.sheets.Sheet.{Sheet}
use Rattle.sx_kinds.specs.declared.sheets.Template.{Template}
use Rattle.sx_named.specs.Named.{Name, named}
use Rattle.sx_sheet.specs.declared.reading.LinedEvent.{LinedEvent}
use Rattle.sx_sheet.specs.Tokens.{Token, LinedToken, token_of, is_blank_token, is_in_text, put_said, tokens_from, tokens_of}
use Rattle.sx_sheet.specs.Syntax.{ThinBody, nil, literal, words, apply, TemplateSyntax, said, tokens_in, lines_in}
use Rattle.sx_sheet.specs.Numbers.{NumberPlace, place_opened, passed, passed_all, past, past_template, past_head, place_entered, instrs_of, templates_of, literal_with, text_with, apply_with, template_with, thin_mode, HasNumber, IsSheetOf, AllBody, AllTemplates}
use Rattle.sx_sheet.proofs.Bodies.{all-weaker}
use Rattle.sx_sheet.proofs.Told.{IsTold, token_told}
use Rattle.sx_names.specs.Numbering.{NameTable}

-- ---- its mode

abbrev AllTold : List Token → Type 0
AllTold [] = Unit {0}
AllTold (t ∷ ts) = IsTold t × AllTold ts

put_told : (skips : Bool) (t : Token) (line : ℕ) (rest : List LinedToken) → IsTold t → AllTold (tokens_in rest) → AllTold (tokens_in (if skips then rest else record { token = t; line = line } ∷ rest))
put_told true t line rest h k = k
put_told false t line rest h k = (h, k)

said_told : (b : Bool) (o : Option Token) (line : ℕ) (rest : Bool → List LinedToken) → IfSome o IsTold → ((c : Bool) → AllTold (tokens_in (rest c))) → AllTold (tokens_in (put_said b o line rest))
said_told b None line rest h k = k b
said_told b (Some t) line rest h k = put_told (is_blank_token t && not b) t line (rest (is_in_text b t)) h (k (is_in_text b t))

all_told : (known : NameTable) (events : List LinedEvent) (b : Bool) → AllTold (tokens_in (tokens_from known events b))
all_told known [] b = tt
all_told known (e ∷ events) b = said_told b (token_of (named known e.event)) e.line (tokens_from known events) (token_told (named known e.event)) (λ c. all_told known events c)

two_modes : (m : OnNoMatch) (modes : OnNoMatch → Type 0) → (m ≡ TextOnlyCopy) ⊎ (m ≡ ShallowCopy) → modes m → modes TextOnlyCopy ⊎ modes ShallowCopy
two_modes m modes h k = elim h as (λ _. modes TextOnlyCopy ⊎ modes ShallowCopy) [
  | inl e ↦ inl (subst modes e k)
  | inr e ↦ inr (subst modes e k)
]

-- it has but one mode, which is unnamed, declared and streamable, and copies text only or shallowly
pub thin_modes : (known : NameTable) (events : List LinedEvent) (names : NameTable) (sheet : Sheet) → IsSheetOf (tokens_of known events) names sheet →
    (sheet.modes ≡ thin_mode TextOnlyCopy ∷ []) ⊎ (sheet.modes ≡ thin_mode ShallowCopy ∷ [])
thin_modes known events names sheet r =
    let told = rw (sym r.written) at (all_told known events false) in
    two_modes r.syntax.no_match (λ m. sheet.modes ≡ thin_mode m ∷ []) told.1.0 (ap (λ (s : Sheet). s.modes) r.says)

-- ---- its names

-- What is said of instructions and of templates holds where it holds of none, and of more with a name of a number below the
-- count.
pub record AreBuilt (count : ℕ) (P : List Instr → Type 0) (Q : List Template → Type 0) : Type 0 where
  pub empty : P []
  pub literals : (c : Construct) (n : ℕ) (b rest : List Instr) → n < count → P b → P rest → P (literal_with c n b ∷ rest)
  pub texts : (c : Construct) (s : List ℕ) (rest : List Instr) → P rest → P (text_with c s ∷ rest)
  pub applies : (c : Construct) (rest : List Instr) → P rest → P (apply_with c ∷ rest)
  pub none : Q []
  pub templates : (c : Construct) (p : NamePattern) (b : List Instr) (rest : List Template) → p.name < count → P b → Q rest → Q (template_with c p b ∷ rest)

module _ (lines : List ℕ) (number : Name → ℕ) (count : ℕ) (P : List Instr → Type 0) (Q : List Template → Type 0) (built : AreBuilt count P Q) where
  instrs_hold : (b : ThinBody) (p : NumberPlace) → AllBody (λ name. number name < count) b → P (instrs_of lines number p b)
  instrs_hold nil p h = built.empty
  instrs_hold (literal name b rest) p h =
      built.literals _ (number name) (instrs_of lines number (place_opened p) b) (instrs_of lines number (passed (past (place_opened p) b)) rest) h.0 (instrs_hold b (place_opened p) h.1) (instrs_hold rest (passed (past (place_opened p) b)) h.2)
  instrs_hold (words s rest) p h = built.texts _ s (instrs_of lines number (passed (passed_all (place_opened p) (said s))) rest) (instrs_hold rest (passed (passed_all (place_opened p) (said s))) h)
  instrs_hold (apply rest) p h = built.applies _ (instrs_of lines number (passed (place_opened p)) rest) (instrs_hold rest (passed (place_opened p)) h)

  templates_hold : (ts : List TemplateSyntax) (p : NumberPlace) → AllTemplates (λ name. number name < count) ts → Q (templates_of lines number p ts)
  templates_hold [] p h = built.none
  templates_hold (t ∷ ts) p h =
      built.templates _ _ (instrs_of lines number (place_entered p) t.body) (templates_of lines number (past_template p t) ts) h.0 (instrs_hold t.body (place_entered p) h.1) (templates_hold ts (past_template p t) h.2)

-- what holds so holds of its templates, whose names all have numbers in the table
pub names_known : (lined : List LinedToken) (names : NameTable) (sheet : Sheet) (P : List Instr → Type 0) (Q : List Template → Type 0) → IsSheetOf lined names sheet → AreBuilt (length names) P Q → Q sheet.templates
names_known lined names sheet P Q r built =
    let all : AllTemplates (λ name. r.number name < length names) r.syntax.templates = all-weaker (HasNumber names r.number) (λ name. r.number name < length names) (λ name e. slice_get_within names (r.number name) (name.uri, name.local) e) r.syntax.templates r.known in
    subst Q (ap (λ (s : Sheet). s.templates) (sym r.says)) (templates_hold (lines_in lined) r.number (length names) P Q built r.syntax.templates past_head all)
