-- A reader that goes on has read one token more of a part.
use Rattle.std.proofs.Common.{◌≡◌, ℕ, List, [], ◌∷◌, ◌++◌, Option, Some, None, refl, ap, ◌∙◌, append_assoc, append-nil}
use Rattle.sx_kinds.specs.declared.constructs.ConstructKind.TheVariants as kind
use Rattle.sx_kinds.specs.declared.constructs.Instr.{Instr}
use Rattle.sx_kinds.specs.declared.sheets.OnNoMatch.{OnNoMatch}
use Rattle.sx_kinds.specs.declared.sheets.Template.{Template}
use Rattle.sx_named.specs.Named.{Name}
use Rattle.sx_sheet.specs.declared.reader.Frame.{Frame}
use Rattle.sx_sheet.specs.declared.stages.Stage.{Stage}
use Rattle.sx_sheet.specs.declared.stages.Stage.TheVariants as stage
use Rattle.sx_sheet.specs.Tokens.{Token, starts_sheet, starts_mode, starts_template, starts_literal, starts_text, starts_apply, ends, says, closes}
use Rattle.sx_sheet.specs.Syntax.{ThinBody, nil, literal, words, apply, TemplateSyntax, tokens_of_body, tokens_of_templates}
use Rattle.sx_sheet.specs.Numbers.{NumberPlace, place_entered, past, past_head, line_at, next_construct, instrs_of, templates_of, plain, AllBody, AllTemplates}
use Rattle.sx_sheet.specs.Machine as machine
use Rattle.sx_sheet.specs.Machine.{SheetState, state, next_state, state_with_number, template_start, with_literal}
use Rattle.sx_sheet.proofs.Bodies.{join, past-join, instrs-join, tokens-join, all-join, past-snoc, templates-snoc, templates_tokens-snoc, all-snoc}
use Rattle.sx_sheet.proofs.Parts.{Level, level, Inner, Part, nothing, begun, moded, between, within, texting, texted, applied, ended, closed, head, tokens_of, inner_tokens, outer_tokens, base, inside_of, body_start, here, frames, starting, read_so_far, shows, Good, GoodInner, GoodOuter}

same_state : (g : Stage) (m : OnNoMatch) (ts : List Template) (fs : List Frame) (b c : List Instr) (p q : NumberPlace) → b ≡ c → p ≡ q → state g m ts fs b p ≡ state g m ts fs c q
same_state g m ts fs b c p q e f = rw e (rw f refl)

-- ---- lists, over variables

pub behind_join : (f o : List Token) (a : Token) (m n p : List Token) → n ≡ m ++ p → f ++ a ∷ o ++ n ≡ (f ++ a ∷ o ++ m) ++ p
behind_join f o a m n p e = rw e (simp append_assoc)

pub close_tokens : (f o : List Token) (a c d : Token) (l m n : List Token) → n ≡ l ++ (c ∷ m ++ d ∷ []) →
    f ++ a ∷ o ++ n ≡ (f ++ a ∷ (o ++ l ++ c ∷ []) ++ m) ++ d ∷ []
close_tokens f o a c d l m n e = rw e (simp append_assoc)

pub end_tokens : (h t : List Token) (a d : Token) (m n : List Token) → n ≡ t ++ (a ∷ m ++ d ∷ []) → h ++ n ≡ (((h ++ t) ++ a ∷ []) ++ m) ++ d ∷ []
end_tokens h t a d m n e = rw e (simp append_assoc)

open_tokens : (f o : List Token) (a d : Token) (m : List Token) → f ++ a ∷ (o ++ m ++ d ∷ []) ++ [] ≡ (f ++ a ∷ o ++ m) ++ d ∷ []
open_tokens f o a d m = simp (append_assoc, append-nil)

pub two_tokens : (i : List Token) (a b : Token) → i ++ a ∷ b ∷ [] ≡ (i ++ a ∷ []) ++ b ∷ []
two_tokens i a b = simp append_assoc

pub three_tokens : (i : List Token) (a b c : Token) → i ++ a ∷ b ∷ c ∷ [] ≡ ((i ++ a ∷ []) ++ b ∷ []) ++ c ∷ []
three_tokens i a b c = simp append_assoc

module _ (lines : List ℕ) (look : Name → Option ℕ) (nm : Name → ℕ) (N : Name → Type 0) (found : (name : Name) (n : ℕ) → look name ≡ Some n → (nm name ≡ n) × N name) where
  pub record Next (p : Part) (t : Token) (s : SheetState) : Type 0 where
    pub part : Part
    pub is_shown : shows lines nm part ≡ s
    pub tokens : tokens_of part ≡ tokens_of p ++ t ∷ []
    pub good : Good N part

  abbrev pub Goes : Part → Token → Option SheetState → Type 0
  Goes p t None = Unit {0}
  Goes p t (Some s) = Next p t s

  -- ---- between templates

  template_goes : (m : OnNoMatch) (ts : List TemplateSyntax) (name : List ℕ) (o : Option ℕ) → look (plain name) ≡ o → AllTemplates N ts →
      Goes (between m ts) (starts_template name)
      (state_with_number o (λ n. state (stage.Body (template_start (line_at lines (base ts)) (base ts).constructs n)) m (templates_of lines nm past_head ts) [] [] (place_entered (base ts))))
  template_goes m ts name None e h = tt
  template_goes m ts name (Some n) e h =
      let k = found (plain name) n e in
      record {
        part = within (record { no_match = m; done = ts; name = name; outer = []; body = nil });
        is_shown = ap (λ (x : ℕ). state (stage.Body (template_start (line_at lines (base ts)) (base ts).constructs x)) m (templates_of lines nm past_head ts) [] [] (place_entered (base ts))) k.0;
        tokens = append-nil ((head m ++ tokens_of_templates ts) ++ starts_template name ∷ []);
        good = (h, k.1, tt, tt);
      }

  between_goes : (m : OnNoMatch) (ts : List TemplateSyntax) (t : Token) → AllTemplates N ts → Goes (between m ts) t (machine.between look (line_at lines (base ts)) (shows lines nm (between m ts)) t)
  between_goes m ts (starts_template name) h = template_goes m ts name (look (plain name)) refl h
  between_goes m ts ends h = record { part = ended m ts; is_shown = refl; tokens = refl; good = h }
  between_goes m ts t h = tt

  -- ---- in a body

  start_goes : (i : Inner) (name : Name) (o : Option ℕ) → look name ≡ o → GoodInner N i →
      Goes (within i) (starts_literal name) (state_with_number o (with_literal (line_at lines (here i)) (starting lines nm i) (shows lines nm (within i))))
  start_goes i name None e h = tt
  start_goes i name (Some n) e h =
      let k = found name n e in
      record {
        part = within (record { no_match = i.no_match; done = i.done; name = i.name; outer = level name i.body ∷ i.outer; body = nil });
        is_shown = ap (with_literal (line_at lines (here i)) (starting lines nm i) (shows lines nm (within i))) k.0;
        tokens = open_tokens (head i.no_match ++ tokens_of_templates i.done) (outer_tokens i.outer) (starts_template i.name) (starts_literal name) (tokens_of_body i.body);
        good = (h.0, h.1, (k.1, h.3, h.2), tt);
      }

  end_goes : (m : OnNoMatch) (ts : List TemplateSyntax) (name : List ℕ) (outer : List Level) (b : ThinBody) → AllTemplates N ts → N (plain name) → GoodOuter N outer → AllBody N b →
      let i : Inner = record { no_match = m; done = ts; name = name; outer = outer; body = b } in
      Goes (within i) ends (Some (machine.end_innermost (starting lines nm i) (shows lines nm (within i)) (frames lines nm (place_entered (base ts)) outer)))
  end_goes m ts name [] b t n o g =
      let s : TemplateSyntax = record { name = name; body = b } in
      record {
        part = between m (ts ++ s ∷ []);
        is_shown = rw (templates-snoc lines nm ts s past_head) (rw (past-snoc ts s past_head) refl);
        tokens = end_tokens (head m) (tokens_of_templates ts) (starts_template name) ends (tokens_of_body b) _ (templates_tokens-snoc ts s);
        good = all-snoc N ts s t n g;
      }
  end_goes m ts name (l ∷ ls) b t n o g =
      let p0 : NumberPlace = place_entered (base ts) in
      let c : ThinBody = literal l.name b nil in
      let i : Inner = record { no_match = m; done = ts; name = name; outer = l ∷ ls; body = b } in
      record {
        part = within (record { no_match = m; done = ts; name = name; outer = ls; body = join l.before c });
        is_shown = same_state (stage.Body (starting lines nm i)) m (templates_of lines nm past_head ts) (frames lines nm p0 ls) _ _ _ _ (instrs-join lines nm l.before c (inside_of p0 ls)) (past-join l.before c (inside_of p0 ls));
        tokens = close_tokens (head m ++ tokens_of_templates ts) (outer_tokens ls) (starts_template name) (starts_literal l.name) ends (tokens_of_body l.before) (tokens_of_body b) _ (tokens-join l.before c);
        good = (t, n, o.2, all-join N l.before c o.1 (o.0, g, tt));
      }

  inside_goes : (i : Inner) (t : Token) → GoodInner N i → Goes (within i) t (machine.inside_template look (line_at lines (here i)) (starting lines nm i) (shows lines nm (within i)) t)
  inside_goes i (starts_literal name) h = start_goes i name (look name) refl h
  inside_goes i starts_text h = record { part = texting i; is_shown = refl; tokens = refl; good = h }
  inside_goes i starts_apply h = record { part = applied i; is_shown = refl; tokens = refl; good = h }
  inside_goes i ends h = end_goes i.no_match i.done i.name i.outer i.body h.0 h.1 h.2 h.3
  inside_goes i t h = tt

  -- ---- in a text and behind it

  grow_goes : (p : Part) (i : Inner) (c : ThinBody) (t : Token) (is : List Instr) (q : NumberPlace) → GoodInner N i → AllBody N c → instrs_of lines nm (here i) c ≡ is → past (here i) c ≡ q →
      inner_tokens i ++ tokens_of_body c ≡ tokens_of p ++ t ∷ [] →
      Next p t (state (stage.Body (starting lines nm i)) i.no_match (templates_of lines nm past_head i.done) (frames lines nm (place_entered (base i.done)) i.outer) (read_so_far lines nm i ++ is) q)
  grow_goes p i c t is q h a f g k = record {
    part = within (record { no_match = i.no_match; done = i.done; name = i.name; outer = i.outer; body = join i.body c });
    is_shown = same_state (stage.Body (starting lines nm i)) i.no_match (templates_of lines nm past_head i.done) (frames lines nm (place_entered (base i.done)) i.outer) _ _ _ _
        (instrs-join lines nm i.body c (body_start i) ∙ ap (λ (x : List Instr). read_so_far lines nm i ++ x) f)
        (past-join i.body c (body_start i) ∙ g);
    tokens = behind_join (head i.no_match ++ tokens_of_templates i.done) (outer_tokens i.outer) (starts_template i.name) (tokens_of_body i.body) _ (tokens_of_body c) (tokens-join i.body c) ∙ k;
    good = (h.0, h.1, h.2, all-join N i.body c h.3 a);
  }

  text_goes : (i : Inner) (t : Token) → GoodInner N i → Goes (texting i) t (machine.in_text (starting lines nm i) (next_construct lines (here i) kind.Text) (shows lines nm (texting i)) t)
  text_goes i (says []) h = tt
  text_goes i (says (c ∷ s)) h = record { part = texted i c s; is_shown = refl; tokens = refl; good = h }
  text_goes i ends h = grow_goes (texting i) i (words [] nil) ends _ _ h tt refl refl (two_tokens (inner_tokens i) starts_text ends)
  text_goes i t h = tt

  texted_goes : (i : Inner) (c : ℕ) (s : List ℕ) (t : Token) → GoodInner N i → Goes (texted i c s) t (machine.fixed (stage.TextEnd (starting lines nm i)) (shows lines nm (texted i c s)) t)
  texted_goes i c s ends h = grow_goes (texted i c s) i (words (c ∷ s) nil) ends _ _ h tt refl refl (three_tokens (inner_tokens i) starts_text (says (c ∷ s)) ends)
  texted_goes i c s t h = tt

  applied_goes : (i : Inner) (t : Token) → GoodInner N i → Goes (applied i) t (machine.fixed (stage.ApplyEnd (starting lines nm i)) (shows lines nm (applied i)) t)
  applied_goes i ends h = grow_goes (applied i) i (apply nil) ends _ _ h tt refl refl (two_tokens (inner_tokens i) starts_apply ends)
  applied_goes i t h = tt

  -- ---- in front of templates and behind them

  nothing_goes : (t : Token) → Goes nothing t (machine.fixed stage.Sheet (shows lines nm nothing) t)
  nothing_goes starts_sheet = record { part = begun; is_shown = refl; tokens = refl; good = tt }
  nothing_goes t = tt

  begun_goes : (t : Token) → Goes begun t (machine.fixed stage.Mode (shows lines nm begun) t)
  begun_goes (starts_mode m) = record { part = moded m; is_shown = refl; tokens = refl; good = tt }
  begun_goes t = tt

  moded_goes : (m : OnNoMatch) (t : Token) → Goes (moded m) t (machine.fixed stage.ModeEnd (shows lines nm (moded m)) t)
  moded_goes m ends = record { part = between m []; is_shown = refl; tokens = refl; good = tt }
  moded_goes m t = tt

  ended_goes : (m : OnNoMatch) (ts : List TemplateSyntax) (t : Token) → AllTemplates N ts → Goes (ended m ts) t (machine.fixed stage.Close (shows lines nm (ended m ts)) t)
  ended_goes m ts closes h = record { part = closed m ts; is_shown = refl; tokens = refl; good = h }
  ended_goes m ts t h = tt

  closed_goes : (m : OnNoMatch) (ts : List TemplateSyntax) (t : Token) → Goes (closed m ts) t (machine.fixed stage.End (shows lines nm (closed m ts)) t)
  closed_goes m ts t = tt

  pub goes : (p : Part) (t : Token) → Good N p → Goes p t (next_state look (line_at lines (shows lines nm p).place) (shows lines nm p) t)
  goes nothing t g = nothing_goes t
  goes begun t g = begun_goes t
  goes (moded m) t g = moded_goes m t
  goes (between m ts) t g = between_goes m ts t g
  goes (within i) t g = inside_goes i t g
  goes (texting i) t g = text_goes i t g
  goes (texted i c s) t g = texted_goes i c s t g
  goes (applied i) t g = applied_goes i t g
  goes (ended m ts) t g = ended_goes m ts t g
  goes (closed m ts) t g = closed_goes m ts t
