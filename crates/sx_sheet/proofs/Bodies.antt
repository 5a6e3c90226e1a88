-- Bodies one behind another.
use Rattle.std.proofs.Common.{◌≡◌, ℕ, List, [], ◌∷◌, ◌++◌, refl, ap, sym, append_assoc}
use Rattle.sx_kinds.specs.declared.constructs.ConstructKind.TheVariants as kind
use Rattle.sx_kinds.specs.declared.constructs.Instr.{Instr}
use Rattle.sx_kinds.specs.declared.sheets.Template.{Template}
use Rattle.sx_named.specs.Named.{Name}
use Rattle.sx_sheet.specs.Tokens.{Token, starts_template, starts_literal, starts_text, starts_apply, ends}
use Rattle.sx_sheet.specs.Syntax.{ThinBody, nil, literal, words, apply, TemplateSyntax, tokens_of_body, tokens_of_templates, said}
use Rattle.sx_sheet.specs.Numbers.{NumberPlace, place_opened, passed, passed_all, past, next_construct, instrs_of, literal_with, text_with, apply_with, templates_of, template_of, past_template, past_templates, plain, AllBody, AllTemplates}

abbrev pub join : ThinBody → ThinBody → ThinBody
join nil c = c
join (literal name b rest) c = literal name b (join rest c)
join (words s rest) c = words s (join rest c)
join (apply rest) c = apply (join rest c)

pub past-join : (b c : ThinBody) (p : NumberPlace) → past p (join b c) ≡ past (past p b) c
past-join nil c p = refl
past-join (literal name b rest) c p = past-join rest c (passed (past (place_opened p) b))
past-join (words s rest) c p = past-join rest c (passed (passed_all (place_opened p) (said s)))
past-join (apply rest) c p = past-join rest c (passed (place_opened p))

pub front_assoc : (x y : Token) (a b c d : List Token) → d ≡ b ++ c → x ∷ a ++ y ∷ d ≡ (x ∷ a ++ y ∷ b) ++ c
front_assoc x y a b c d e = rw e (ap (λ (l : List Token). x ∷ l) (sym (append_assoc a (y ∷ b) c)))

pub tokens-join : (b c : ThinBody) → tokens_of_body (join b c) ≡ tokens_of_body b ++ tokens_of_body c
tokens-join nil c = refl
tokens-join (literal name b rest) c = front_assoc (starts_literal name) ends (tokens_of_body b) (tokens_of_body rest) (tokens_of_body c) (tokens_of_body (join rest c)) (tokens-join rest c)
tokens-join (words s rest) c = front_assoc starts_text ends (said s) (tokens_of_body rest) (tokens_of_body c) (tokens_of_body (join rest c)) (tokens-join rest c)
tokens-join (apply rest) c = ap (λ (l : List Token). starts_apply ∷ ends ∷ l) (tokens-join rest c)

pub all-join : (N : Name → Type 0) (b c : ThinBody) → AllBody N b → AllBody N c → AllBody N (join b c)
all-join N nil c g h = h
all-join N (literal name b rest) c g h = (g.0, g.1, all-join N rest c g.2 h)
all-join N (words s rest) c g h = all-join N rest c g h
all-join N (apply rest) c g h = all-join N rest c g h

-- ---- templates

pub past-snoc : (ts : List TemplateSyntax) (t : TemplateSyntax) (p : NumberPlace) → past_templates p (ts ++ t ∷ []) ≡ past_template (past_templates p ts) t
past-snoc [] t p = refl
past-snoc (s ∷ ts) t p = past-snoc ts t (past_template p s)

pub templates_tokens-snoc : (ts : List TemplateSyntax) (t : TemplateSyntax) →
    tokens_of_templates (ts ++ t ∷ []) ≡ tokens_of_templates ts ++ (starts_template t.name ∷ tokens_of_body t.body ++ ends ∷ [])
templates_tokens-snoc [] t = refl
templates_tokens-snoc (s ∷ ts) t = front_assoc (starts_template s.name) ends (tokens_of_body s.body) (tokens_of_templates ts) _ (tokens_of_templates (ts ++ t ∷ [])) (templates_tokens-snoc ts t)

pub all-snoc : (N : Name → Type 0) (ts : List TemplateSyntax) (t : TemplateSyntax) → AllTemplates N ts → N (plain t.name) → AllBody N t.body → AllTemplates N (ts ++ t ∷ [])
all-snoc N [] t g n b = (n, b, tt)
all-snoc N (s ∷ ts) t g n b = (g.0, g.1, all-snoc N ts t g.2 n b)

-- ---- what holds of all names holds of each

pub all-body-weaker : (N M : Name → Type 0) → ((s : Name) → N s → M s) → (b : ThinBody) → AllBody N b → AllBody M b
all-body-weaker N M f nil a = tt
all-body-weaker N M f (literal name b rest) a = (f name a.0, all-body-weaker N M f b a.1, all-body-weaker N M f rest a.2)
all-body-weaker N M f (words s rest) a = all-body-weaker N M f rest a
all-body-weaker N M f (apply rest) a = all-body-weaker N M f rest a

pub all-weaker : (N M : Name → Type 0) → ((s : Name) → N s → M s) → (ts : List TemplateSyntax) → AllTemplates N ts → AllTemplates M ts
all-weaker N M f [] a = tt
all-weaker N M f (t ∷ ts) a = (f (plain t.name) a.0, all-body-weaker N M f t.body a.1, all-weaker N M f ts a.2)

-- ---- what they make, where tokens have these lines and names these numbers

module _ (lines : List ℕ) (nm : Name → ℕ) where
  pub instrs-join : (b c : ThinBody) (p : NumberPlace) → instrs_of lines nm p (join b c) ≡ instrs_of lines nm p b ++ instrs_of lines nm (past p b) c
  instrs-join nil c p = refl
  instrs-join (literal name b rest) c p =
      ap (λ (is : List Instr). literal_with (next_construct lines p kind.Literal) (nm name) (instrs_of lines nm (place_opened p) b) ∷ is) (instrs-join rest c (passed (past (place_opened p) b)))
  instrs-join (words s rest) c p = ap (λ (is : List Instr). text_with (next_construct lines p kind.Text) s ∷ is) (instrs-join rest c (passed (passed_all (place_opened p) (said s))))
  instrs-join (apply rest) c p = ap (λ (is : List Instr). apply_with (next_construct lines p kind.ApplyTemplates) ∷ is) (instrs-join rest c (passed (place_opened p)))

  pub templates-snoc : (ts : List TemplateSyntax) (t : TemplateSyntax) (p : NumberPlace) →
      templates_of lines nm p (ts ++ t ∷ []) ≡ templates_of lines nm p ts ++ template_of lines nm (past_templates p ts) t ∷ []
  templates-snoc [] t p = refl
  templates-snoc (s ∷ ts) t p = ap (λ (l : List Template). template_of lines nm p s ∷ l) (templates-snoc ts t (past_template p s))
