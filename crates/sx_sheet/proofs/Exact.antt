-- Reading is exact.
use Rattle.std.proofs.Common.{◌≡◌, ℕ, suc, ◌+◌, ◌<◌, ◌≤◌, Bool, true, false, List, [], ◌∷◌, ◌++◌, length, take, slice_index_or, Option, Some, None, Result, Ok, Err, refl, ap, sym, ◌∙◌, arith, append_assoc, append-nil, if◌then◌else◌}
use Rattle.sx_kinds.specs.declared.sheets.OnNoMatch.{OnNoMatch}
use Rattle.sx_kinds.specs.declared.sheets.OnNoMatch.TheVariants.{TextOnlyCopy}
use Rattle.sx_named.specs.Named.{Name}
use Rattle.sx_sheet.specs.Tokens.{Token, starts_sheet, starts_mode, starts_template, starts_literal, starts_text, starts_apply, ends, says, closes}
use Rattle.sx_sheet.specs.Syntax.{ThinBody, nil, literal, words, apply, TemplateSyntax, SheetSyntax, tokens_of_body, tokens_of_templates, tokens_of_sheet, BeginsThin}
use Rattle.sx_sheet.specs.Numbers.{line_at}
use Rattle.sx_sheet.specs.Machine.{SheetState, next_state, run_states, then_state, is_last}
use Rattle.sx_sheet.specs.Looking.{course_through, goes_on_with}
use Rattle.sx_sheet.proofs.Bodies.{join, tokens-join, templates_tokens-snoc}
use Rattle.sx_sheet.proofs.Parts.{Level, Inner, Part, nothing, begun, moded, between, within, texting, texted, applied, ended, closed, head, tokens_of, inner_tokens, outer_tokens, shows, Good}
use Rattle.sx_sheet.proofs.Goes as going
use Rattle.sx_sheet.proofs.Goes.{close_tokens, end_tokens, two_tokens, three_tokens, behind_join}

-- ---- what was read can be completed

shorter : (xs ys zs : List Token) → zs ≡ xs ++ ys → BeginsThin zs → BeginsThin xs
shorter xs ys zs e b = record { more = ys ++ b.more; thin = rw (sym (append_assoc xs ys b.more)) (rw (sym e) b.thin) }

abbrev sheet : OnNoMatch → List TemplateSyntax → SheetSyntax
sheet m ts = record { no_match = m; templates = ts }

pub whole_again : (m : OnNoMatch) (ts : List TemplateSyntax) → tokens_of_sheet (sheet m ts) ≡ tokens_of (closed m ts)
whole_again m ts = two_tokens (head m ++ tokens_of_templates ts) ends closes

closed_begins : (m : OnNoMatch) (ts : List TemplateSyntax) → BeginsThin (tokens_of (closed m ts))
closed_begins m ts = record { more = []; thin = record { syntax = sheet m ts; written = whole_again m ts ∙ sym (append-nil (tokens_of (closed m ts))) } }

ended_begins : (m : OnNoMatch) (ts : List TemplateSyntax) → BeginsThin (tokens_of (ended m ts))
ended_begins m ts = shorter (tokens_of (ended m ts)) (closes ∷ []) (tokens_of (closed m ts)) refl (closed_begins m ts)

between_begins : (m : OnNoMatch) (ts : List TemplateSyntax) → BeginsThin (tokens_of (between m ts))
between_begins m ts = shorter (tokens_of (between m ts)) (ends ∷ []) (tokens_of (ended m ts)) refl (ended_begins m ts)

within_begins : (m : OnNoMatch) (ts : List TemplateSyntax) (name : List ℕ) (outer : List Level) (b : ThinBody) → BeginsThin (inner_tokens (record { no_match = m; done = ts; name = name; outer = outer; body = b }))
within_begins m ts name [] b =
    let s : TemplateSyntax = record { name = name; body = b } in
    shorter (inner_tokens (record { no_match = m; done = ts; name = name; outer = []; body = b })) (ends ∷ []) (tokens_of (between m (ts ++ s ∷ [])))
    (end_tokens (head m) (tokens_of_templates ts) (starts_template name) ends (tokens_of_body b) _ (templates_tokens-snoc ts s))
    (between_begins m (ts ++ s ∷ []))
within_begins m ts name (l ∷ ls) b =
    let c : ThinBody = literal l.name b nil in
    shorter (inner_tokens (record { no_match = m; done = ts; name = name; outer = l ∷ ls; body = b })) (ends ∷ []) (inner_tokens (record { no_match = m; done = ts; name = name; outer = ls; body = join l.before c }))
    (close_tokens (head m ++ tokens_of_templates ts) (outer_tokens ls) (starts_template name) (starts_literal l.name) ends (tokens_of_body l.before) (tokens_of_body b) _ (tokens-join l.before c))
    (within_begins m ts name ls (join l.before c))

grown_begins : (i : Inner) (c : ThinBody) (xs : List Token) (t : Token) → inner_tokens i ++ tokens_of_body c ≡ xs ++ t ∷ [] → BeginsThin xs
grown_begins i c xs t e =
    shorter xs (t ∷ []) (inner_tokens (record { no_match = i.no_match; done = i.done; name = i.name; outer = i.outer; body = join i.body c }))
    (behind_join (head i.no_match ++ tokens_of_templates i.done) (outer_tokens i.outer) (starts_template i.name) (tokens_of_body i.body) _ (tokens_of_body c) (tokens-join i.body c) ∙ e)
    (within_begins i.no_match i.done i.name i.outer (join i.body c))

pub begins_part : (p : Part) → BeginsThin (tokens_of p)
begins_part nothing = shorter [] (head TextOnlyCopy) (tokens_of (between TextOnlyCopy [])) (append-nil (head TextOnlyCopy)) (between_begins TextOnlyCopy [])
begins_part begun = shorter (starts_sheet ∷ []) (starts_mode TextOnlyCopy ∷ ends ∷ []) (tokens_of (between TextOnlyCopy [])) (append-nil (head TextOnlyCopy)) (between_begins TextOnlyCopy [])
begins_part (moded m) = shorter (starts_sheet ∷ starts_mode m ∷ []) (ends ∷ []) (tokens_of (between m [])) (append-nil (head m)) (between_begins m [])
begins_part (between m ts) = between_begins m ts
begins_part (within i) = within_begins i.no_match i.done i.name i.outer i.body
begins_part (texting i) = grown_begins i (words [] nil) (tokens_of (texting i)) ends (two_tokens (inner_tokens i) starts_text ends)
begins_part (texted i c s) = grown_begins i (words (c ∷ s) nil) (tokens_of (texted i c s)) ends (three_tokens (inner_tokens i) starts_text (says (c ∷ s)) ends)
begins_part (applied i) = grown_begins i (apply nil) (tokens_of (applied i)) ends (two_tokens (inner_tokens i) starts_apply ends)
begins_part (ended m ts) = ended_begins m ts
begins_part (closed m ts) = closed_begins m ts

-- ---- reading many tokens

module _ (lines : List ℕ) (look : Name → Option ℕ) (nm : Name → ℕ) (N : Name → Type 0) (found : (name : Name) (n : ℕ) → look name ≡ Some n → (nm name ≡ n) × N name) where
  pub record IsRead (p : Part) (tokens : List Token) (s : SheetState) : Type 0 where
    pub part : Part
    pub is_shown : shows lines nm part ≡ s
    pub taken : tokens_of part ≡ tokens_of p ++ tokens
    pub good : Good N part

  one_more : (p : Part) (t : Token) (tokens : List Token) (s : SheetState) (o : Option SheetState) → going.Goes lines look nm N found p t o →
      ((q : Part) → Good N q → run_states lines look (shows lines nm q) tokens ≡ Some s → IsRead q tokens s) → then_state o (λ next. run_states lines look next tokens) ≡ Some s → IsRead p (t ∷ tokens) s
  one_more p t tokens s None g f e = absurd cc
  one_more p t tokens s (Some n) g f e =
      let r = f g.part g.good (ap (λ (x : SheetState). run_states lines look x tokens) g.is_shown ∙ e) in
      record { part = r.part; is_shown = r.is_shown; taken = r.taken ∙ ap (λ (x : List Token). x ++ tokens) g.tokens ∙ append_assoc (tokens_of p) (t ∷ []) tokens; good = r.good }

  some_same : (a b : SheetState) → Some a ≡ Some b → a ≡ b
  some_same a b e = cc

  pub reads : (tokens : List Token) (p : Part) (s : SheetState) → Good N p → run_states lines look (shows lines nm p) tokens ≡ Some s → IsRead p tokens s
  reads [] p s g e = record { part = p; is_shown = some_same (shows lines nm p) s e; taken = sym (append-nil (tokens_of p)); good = g }
  reads (t ∷ tokens) p s g e =
      one_more p t tokens s (next_state look (line_at lines (shows lines nm p).place) (shows lines nm p) t) (going.goes lines look nm N found p t g) (λ q h f. reads tokens q s h f) e

-- ---- the course_through of reading

module _ (lines : List ℕ) (look : Name → Option ℕ) where
  -- reading stops behind i tokens
  pub record Stops (s : SheetState) (tokens : List Token) (i : ℕ) : Type 0 where
    pub within : i ≤ length tokens
    pub last : SheetState
    pub reaches : run_states lines look s (take i tokens) ≡ Some last
    pub here : i < length tokens → (more : List Token) → run_states lines look s (take (suc i) tokens ++ more) ≡ None
    pub at_end : i ≡ length tokens → (run_states lines look s tokens ≡ Some last) × (is_last last.stage ≡ false)

  abbrev pub Outcome : SheetState → ℕ → List Token → Result SheetState ℕ → Type 0
  Outcome s k tokens (Ok e) = (run_states lines look s tokens ≡ Some e) × (is_last e.stage ≡ true)
  Outcome s k tokens (Err j) = (i : ℕ) × (j ≡ slice_index_or lines (k + i) 0) × Stops s tokens i

  no_more : (k : ℕ) → slice_index_or lines k 0 ≡ slice_index_or lines (k + 0) 0
  no_more k = ap (λ (n : ℕ). slice_index_or lines n 0) (omega arith)

  finished : (b : Bool) (s : SheetState) (k : ℕ) → is_last s.stage ≡ b → Outcome s k [] (if b then Ok s else Err (slice_index_or lines k 0))
  finished true s k e = (refl, e)
  finished false s k e = (0, no_more k, record { within = omega arith; last = s; reaches = refl; here = λ l more. absurd (omega (arith, l)); at_end = λ _. (refl, e) })

  later : (s n : SheetState) (t : Token) (tokens : List Token) (k : ℕ) (r : Result SheetState ℕ) → next_state look (line_at lines s.place) s t ≡ Some n → Outcome n (suc k) tokens r → Outcome s k (t ∷ tokens) r
  later s n t tokens k (Ok e) f o = (rw f o.0, o.1)
  later s n t tokens k (Err j) f o = (
    suc o.0,
    o.1 ∙ ap (λ (m : ℕ). slice_index_or lines m 0) (let h : suc k + o.0 ≡ k + suc o.0 = omega arith in h),
    record {
      within = omega (arith, o.2.within);
      last = o.2.last;
      reaches = rw f o.2.reaches;
      here = λ l more. rw f (o.2.here (omega (arith, l)) more);
      at_end = λ l. let h = o.2.at_end (omega (arith, l)) in (rw f h.0, h.1);
    },
  )

  turn : (o : Option SheetState) (s : SheetState) (t : Token) (tokens : List Token) (k : ℕ) → next_state look (line_at lines s.place) s t ≡ o →
      ((n : SheetState) → Outcome n (suc k) tokens (course_through lines look n (suc k) tokens)) → Outcome s k (t ∷ tokens) (goes_on_with lines k o (λ next. course_through lines look next (suc k) tokens))
  turn None s t tokens k e f = (0, no_more k, record { within = omega arith; last = s; reaches = refl; here = λ l more. rw e refl; at_end = λ l. absurd (omega (arith, l)) })
  turn (Some n) s t tokens k e f = later s n t tokens k (course_through lines look n (suc k) tokens) e (f n)

  pub outcome : (tokens : List Token) (s : SheetState) (k : ℕ) → Outcome s k tokens (course_through lines look s k tokens)
  outcome [] s k = finished (is_last s.stage) s k refl
  outcome (t ∷ tokens) s k = turn (next_state look (line_at lines s.place) s t) s t tokens k refl (λ n. outcome tokens n (suc k))
