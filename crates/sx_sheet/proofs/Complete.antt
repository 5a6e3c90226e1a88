-- A reader reads every thin stylesheet.
use Rattle.std.proofs.Common.{◌≡◌, ℕ, true, List, [], ◌∷◌, ◌++◌, Option, Some, refl, ap, ◌∙◌, append_assoc}
use Rattle.sx_kinds.specs.declared.constructs.ConstructKind.TheVariants as kind
use Rattle.sx_kinds.specs.declared.constructs.Instr.{Instr}
use Rattle.sx_kinds.specs.declared.sheets.OnNoMatch.{OnNoMatch}
use Rattle.sx_kinds.specs.declared.sheets.Template.{Template}
use Rattle.sx_named.specs.Named.{Name}
use Rattle.sx_sheet.specs.declared.reader.Frame.{Frame}
use Rattle.sx_sheet.specs.declared.stages.Stage.TheVariants as stage
use Rattle.sx_sheet.specs.declared.stages.TemplateStart.{TemplateStart}
use Rattle.sx_sheet.specs.Tokens.{Token, ends, closes}
use Rattle.sx_sheet.specs.Syntax.{ThinBody, nil, literal, words, apply, TemplateSyntax, SheetSyntax, tokens_of_body, tokens_of_templates, tokens_of_sheet}
use Rattle.sx_sheet.specs.Numbers.{NumberPlace, place_opened, passed, place_entered, past_head, line_at, next_construct, literal_with, text_with, apply_with, template_with, plain}
use Rattle.sx_sheet.specs.Machine.{SheetState, state, run_states, frame, template_start, is_last, first_state}

-- where each name is looked up
module _ (lines : List ℕ) (total : Name → ℕ) where
  abbrev pub look : Name → Option ℕ
  look name = Some (total name)

  abbrev in_body : OnNoMatch → TemplateStart → List Template → List Frame → List Instr → NumberPlace → SheetState
  in_body m t ts fs is p = state (stage.Body t) m ts fs is p

  pub record After (m : OnNoMatch) (t : TemplateStart) (ts : List Template) (fs : List Frame) (tokens : List Token) (is : List Instr) (p : NumberPlace) : Type 0 where
    pub body : List Instr
    pub place : NumberPlace
    pub reaches : (more : List Token) → run_states lines look (in_body m t ts fs is p) (tokens ++ more) ≡ run_states lines look (in_body m t ts fs body place) more

  reads_body : (b : ThinBody) (m : OnNoMatch) (t : TemplateStart) (ts : List Template) (fs : List Frame) (is : List Instr) (p : NumberPlace) → After m t ts fs (tokens_of_body b) is p
  reads_body nil m t ts fs is p = record { body = is; place = p; reaches = λ more. refl }
  reads_body (literal name b rest) m t ts fs is p =
      let f : Frame = frame (total name) (next_construct lines p kind.Literal) is in
      let i = reads_body b m t ts (f ∷ fs) [] (place_opened p) in
      let j = reads_body rest m t ts fs (is ++ literal_with f.construct f.number i.body ∷ []) (passed i.place) in
      record {
        body = j.body;
        place = j.place;
        reaches = λ more.
            ap (run_states lines look (in_body m t ts (f ∷ fs) [] (place_opened p))) (append_assoc (tokens_of_body b) (ends ∷ tokens_of_body rest) more)
            ∙ i.reaches (ends ∷ tokens_of_body rest ++ more)
            ∙ j.reaches more;
      }
  reads_body (words [] rest) m t ts fs is p =
      let j = reads_body rest m t ts fs (is ++ text_with (next_construct lines p kind.Text) [] ∷ []) (passed (place_opened p)) in
      record { body = j.body; place = j.place; reaches = λ more. j.reaches more }
  reads_body (words (c ∷ s) rest) m t ts fs is p =
      let j = reads_body rest m t ts fs (is ++ text_with (next_construct lines p kind.Text) (c ∷ s) ∷ []) (passed (passed (place_opened p))) in
      record { body = j.body; place = j.place; reaches = λ more. j.reaches more }
  reads_body (apply rest) m t ts fs is p =
      let j = reads_body rest m t ts fs (is ++ apply_with (next_construct lines p kind.ApplyTemplates) ∷ []) (passed (place_opened p)) in
      record { body = j.body; place = j.place; reaches = λ more. j.reaches more }

  -- ---- templates

  pub record Behind (m : OnNoMatch) (tokens : List Token) (ts : List Template) (p : NumberPlace) : Type 0 where
    pub templates : List Template
    pub place : NumberPlace
    pub reaches : (more : List Token) → run_states lines look (state stage.Templates m ts [] [] p) (tokens ++ more) ≡ run_states lines look (state stage.Templates m templates [] [] place) more

  reads_templates : (ss : List TemplateSyntax) (m : OnNoMatch) (ts : List Template) (p : NumberPlace) → Behind m (tokens_of_templates ss) ts p
  reads_templates [] m ts p = record { templates = ts; place = p; reaches = λ more. refl }
  reads_templates (s ∷ ss) m ts p =
      let t : TemplateStart = template_start (line_at lines p) p.constructs (total (plain s.name)) in
      let i = reads_body s.body m t ts [] [] (place_entered p) in
      let j = reads_templates ss m (ts ++ template_with t.construct t.pattern i.body ∷ []) (passed i.place) in
      record {
        templates = j.templates;
        place = j.place;
        reaches = λ more.
            ap (run_states lines look (in_body m t ts [] [] (place_entered p))) (append_assoc (tokens_of_body s.body) (ends ∷ tokens_of_templates ss) more)
            ∙ i.reaches (ends ∷ tokens_of_templates ss ++ more)
            ∙ j.reaches more;
      }

  pub record Accepts (tokens : List Token) : Type 0 where
    pub last : SheetState
    pub reaches : run_states lines look first_state tokens ≡ Some last
    pub ends : is_last last.stage ≡ true

  pub complete : (s : SheetSyntax) → Accepts (tokens_of_sheet s)
  complete s =
      let j = reads_templates s.templates s.no_match [] past_head in
      record { last = state stage.End s.no_match j.templates [] [] (passed (passed j.place)); reaches = j.reaches (ends ∷ closes ∷ []); ends = refl }
