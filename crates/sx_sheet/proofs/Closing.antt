-- Nothing follows the end of the input in a thin stylesheet.
use Rattle.std.proofs.Common.{◌≡◌, ◌<◌, ℕ, Bool, true, false, not, ◌&&◌, Option, Some, None, if◌then◌else◌, List, [], ◌∷◌, ◌++◌, length, take, slice_index_or, refl, ap, sym, ◌∙◌, arith, append_assoc, append-nil, inl, inr}
use Rattle.std.specs.List.{list_all, Contains}
use Rattle.std.proofs.Math.Nat.{eq-or-lt_of_le}
use Rattle.std.proofs.lemmas.List.{length-map, get_or_default, take_all}
use Rattle.std.proofs.lemmas.List.Folds.{list_all-append}
use Rattle.sx_tree.specs.declared.events.Event.TheVariants as event
use Rattle.sx_named.specs.Named.{named}
use Rattle.sx_sheet.specs.declared.reading.LinedEvent.{LinedEvent}
use Rattle.sx_sheet.specs.Tokens.{Token, starts_sheet, starts_mode, starts_template, starts_literal, starts_text, starts_apply, ends, says, closes, strange, LinedToken, token_of, is_blank_token, is_in_text, put_said, tokens_of, tokens_from}
use Rattle.sx_sheet.proofs.Told.{are_both}
use Rattle.sx_sheet.specs.Syntax.{ThinBody, nil, literal, words, apply, TemplateSyntax, SheetSyntax, said, tokens_of_body, tokens_of_templates, tokens_of_sheet, IsThin, BeginsThin, BreaksAfter, BreaksOn, IsClosed, tokens_in, lines_in}
use Rattle.sx_names.specs.Numbering.{NameTable}

-- whether it is not the end of the input
abbrev goes_on : Token → Bool
goes_on starts_sheet = true
goes_on (starts_mode m) = true
goes_on (starts_template name) = true
goes_on (starts_literal name) = true
goes_on starts_text = true
goes_on starts_apply = true
goes_on ends = true
goes_on (says s) = true
goes_on closes = false
goes_on strange = true

both_go_on : (a b : List Token) → list_all goes_on a ≡ true → list_all goes_on b ≡ true → list_all goes_on (a ++ b) ≡ true
both_go_on a b e f = rw (list_all-append goes_on a b) (rw e (rw f refl))

said_go_on : (s : List ℕ) → list_all goes_on (said s) ≡ true
said_go_on [] = refl
said_go_on (c ∷ s) = refl

body_goes_on : (b : ThinBody) → list_all goes_on (tokens_of_body b) ≡ true
body_goes_on nil = refl
body_goes_on (literal name b rest) = both_go_on (tokens_of_body b) (ends ∷ tokens_of_body rest) (body_goes_on b) (body_goes_on rest)
body_goes_on (words s rest) = both_go_on (said s) (ends ∷ tokens_of_body rest) (said_go_on s) (body_goes_on rest)
body_goes_on (apply rest) = body_goes_on rest

templates_go_on : (ts : List TemplateSyntax) → list_all goes_on (tokens_of_templates ts) ≡ true
templates_go_on [] = refl
templates_go_on (t ∷ ts) = both_go_on (tokens_of_body t.body) (ends ∷ tokens_of_templates ts) (body_goes_on t.body) (templates_go_on ts)

-- all but the last token of a stylesheet
abbrev front_of : SheetSyntax → List Token
front_of s = starts_sheet ∷ starts_mode s.no_match ∷ ends ∷ tokens_of_templates s.templates ++ ends ∷ []

front_goes_on : (s : SheetSyntax) → list_all goes_on (front_of s) ≡ true
front_goes_on s = both_go_on (tokens_of_templates s.templates) (ends ∷ []) (templates_go_on s.templates) refl

front_and_last : (s : SheetSyntax) → tokens_of_sheet s ≡ front_of s ++ closes ∷ []
front_and_last s = ap (λ (l : List Token). starts_sheet ∷ starts_mode s.no_match ∷ ends ∷ l) (sym (append_assoc (tokens_of_templates s.templates) (ends ∷ []) (closes ∷ [])))

not_empty : (a : List Token) (t : Token) (m : List Token) → a ++ t ∷ m ≡ [] → ⊥
not_empty [] t m e = cc
not_empty (x ∷ a) t m e = cc

-- nothing follows the one end of the input
nothing_follows : (a m b : List Token) → list_all goes_on b ≡ true → a ++ closes ∷ m ≡ b ++ closes ∷ [] → m ≡ []
nothing_follows [] m [] h e = cc
nothing_follows [] m (t ∷ b) h e =
    let f : closes ≡ t = cc in
    let k : false ≡ goes_on t = ap goes_on f in
    let j : goes_on t ≡ true = (are_both (goes_on t) (list_all goes_on b) h).0 in
    absurd cc
nothing_follows (x ∷ a) m [] h e =
    let f : a ++ closes ∷ m ≡ [] = cc in
    absurd (not_empty a closes m f)
nothing_follows (x ∷ a) m (t ∷ b) h e =
    let f : a ++ closes ∷ m ≡ b ++ closes ∷ [] = cc in
    nothing_follows a m b (are_both (goes_on t) (list_all goes_on b) h).1 f

-- what begins a thin stylesheet and has come to the end of the input is one
begun_is_thin : (tokens : List Token) → IsClosed tokens → BeginsThin tokens → IsThin tokens
begun_is_thin tokens c b =
    let s : SheetSyntax = b.thin.syntax in
    let e : tokens_of_sheet s ≡ c.front ++ closes ∷ b.more = b.thin.written ∙ ap (λ (l : List Token). l ++ b.more) (sym c.last) ∙ append_assoc c.front (closes ∷ []) b.more in
    let none : b.more ≡ [] = nothing_follows c.front b.more (front_of s) (front_goes_on s) (sym e ∙ front_and_last s) in
    record { syntax = s; written = b.thin.written ∙ ap (λ (l : List Token). tokens ++ l) none ∙ append-nil tokens }

not_behind_all : (tokens : List Token) (n : ℕ) → IsClosed tokens → BreaksAfter tokens n → n ≡ length tokens → ⊥
not_behind_all tokens n c b e =
    let all : take n tokens ≡ tokens = take_all n tokens (omega (arith, e)) in
    b.at_end e (begun_is_thin tokens c (rw all at b.begins))

is_there : (lines : List ℕ) (n line : ℕ) → n < length lines → line ≡ slice_index_or lines n 0 → Contains lines line
is_there lines n line h e = (n, h, get_or_default lines n line 0 h ∙ sym e)

pub on_a_token : (lined : List LinedToken) (line : ℕ) → IsClosed (tokens_in lined) → BreaksOn lined line → Contains (lines_in lined) line
on_a_token lined line c b =
    elim (eq-or-lt_of_le b.breaks.within) as (λ _. Contains (lines_in lined) line) [
      | inl e ↦ absurd (not_behind_all (tokens_in lined) b.before c b.breaks e)
      | inr l ↦ is_there (lines_in lined) b.before line (omega (arith, l, length-map lined (λ t. t.token), length-map lined (λ t. t.line))) b.line_is
    ]

-- ---- the events of an input that has ended

put_closed : (skips : Bool) (t : Token) (line : ℕ) (rest : List LinedToken) → IsClosed (tokens_in rest) → IsClosed (tokens_in (if skips then rest else record { token = t; line = line } ∷ rest))
put_closed true t line rest c = c
put_closed false t line rest c = record { front = t ∷ c.front; last = ap (λ (l : List Token). t ∷ l) c.last }

said_closed : (b : Bool) (o : Option Token) (line : ℕ) (rest : Bool → List LinedToken) → ((a : Bool) → IsClosed (tokens_in (rest a))) → IsClosed (tokens_in (put_said b o line rest))
said_closed b None line rest c = c b
said_closed b (Some t) line rest c = put_closed (is_blank_token t && not b) t line (rest (is_in_text b t)) (c (is_in_text b t))

closed_from : (known : NameTable) (events : List LinedEvent) (line : ℕ) (b : Bool) → IsClosed (tokens_in (tokens_from known (events ++ record { event = event.Close; line = line } ∷ []) b))
closed_from known [] line b = record { front = []; last = refl }
closed_from known (e ∷ events) line b =
    said_closed b (token_of (named known e.event)) e.line (tokens_from known (events ++ record { event = event.Close; line = line } ∷ [])) (λ a. closed_from known events line a)

-- where the last event closes, so does the last token
pub closed_last : (known : NameTable) (events : List LinedEvent) (line : ℕ) → IsClosed (tokens_in (tokens_of known (events ++ record { event = event.Close; line = line } ∷ [])))
closed_last known events line = closed_from known events line false
