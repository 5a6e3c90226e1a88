-- What a reader does at a token.
use Rattle.std.proofs.Common.{zero, suc, arith, ◌≡◌, ◌==◌, ◌<◌, ℕ, false, List, [], ◌∷◌, length, Option, Some, None, slice_get, refl}
use Rattle.std.specs.Option.{option_map_or}
use Rattle.sx_kinds.specs.declared.constructs.Construct.{Construct}
use Rattle.sx_sheet.specs.declared.stages.Stage.{Stage}
use Rattle.sx_sheet.specs.declared.stages.Stage.TheVariants as stage
use Rattle.sx_sheet.specs.declared.stages.TemplateStart.{TemplateStart}
use Rattle.sx_sheet.specs.Tokens.{Token}
use Rattle.sx_sheet.specs.Numbers.{text_with}
use Rattle.sx_sheet.specs.Machine.{SheetState, say, with_instr, state_with_number, fixed, step_at}
use Rattle.sx_sheet.specs.Looking.{GivesNumbers}
use Rattle.sx_sheet.specs.Shown.{bare_name}
use Rattle.sx_named.specs.Named.{Name}
use Rattle.sx_names.specs.Numbering.{NameTable}

pub says_some : (t : TemplateStart) (c : Construct) (s : SheetState) (w : List ℕ) → (length w == 0) ≡ false → say t c s w ≡ Some (with_instr s (stage.TextEnd t) (text_with c w))
says_some t c s [] e = absurd cc
says_some t c s (x ∷ w) e = refl

-- a name of the table is looked up
looked_by : (look : Name → Option ℕ) (n : ℕ) (f : ℕ → SheetState) (x : Name) → look x ≡ Some n → state_with_number (look x) f ≡ Some (f n)
looked_by look n f x e = rw e refl

absent : (names : NameTable) (n : ℕ) → slice_get names n ≡ None → n < length names → ⊥
absent [] n e h = omega (arith, h)
absent (x ∷ xs) zero e h = absurd cc
absent (x ∷ xs) (suc n) e h = absent xs n e (omega (arith, h))

named_by : (names : NameTable) (n : ℕ) (o : Option (List ℕ × List ℕ)) → slice_get names n ≡ o → n < length names →
    slice_get names n ≡ Some (option_map_or (λ x. x.0) o [], option_map_or (λ x. x.1) o [])
named_by names n None e h = absurd (absent names n e h)
named_by names n (Some x) e h = e

pub looked_up : (names : NameTable) (look : Name → Option ℕ) (n : ℕ) (f : ℕ → SheetState) → n < length names → GivesNumbers names look → state_with_number (look (bare_name names n)) f ≡ Some (f n)
looked_up names look n f h g = looked_by look n f (bare_name names n) (g n (bare_name names n) (named_by names n (slice_get names n) refl h))

-- at a stage that expects but one token
pub fixed_at : (look : Name → Option ℕ) (line : ℕ) (g : Stage) (s : SheetState) (t : Token) → (g ≡ stage.Templates → ⊥) → ((b : TemplateStart) → g ≡ stage.Body b → ⊥) → ((b : TemplateStart) (c : Construct) → g ≡ stage.Text b c → ⊥) →
    fixed g s t ≡ step_at look line g s t
fixed_at look line stage.Sheet s t f h k = refl
fixed_at look line stage.Mode s t f h k = refl
fixed_at look line stage.ModeEnd s t f h k = refl
fixed_at look line stage.Templates s t f h k = absurd (f refl)
fixed_at look line (stage.Body b) s t f h k = absurd (h b refl)
fixed_at look line (stage.Text b c) s t f h k = absurd (k b c refl)
fixed_at look line (stage.TextEnd b) s t f h k = refl
fixed_at look line (stage.ApplyEnd b) s t f h k = refl
fixed_at look line stage.Close s t f h k = refl
fixed_at look line stage.End s t f h k = refl
