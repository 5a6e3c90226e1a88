-- How far a reader comes with one event more.
use Rattle.std.proofs.Common.{◌≡◌, ◌<◌, ◌≤◌, ℕ, zero, suc, ◌+◌, Bool, true, false, not, ◌&&◌, List, [], ◌∷◌, length, drop, get_or, slice_get, slice_index_or, Option, Some, None, Ok, Err, refl, ap, sym, ◌∙◌, arith, add-one, drop-cons}
use Rattle.std.specs.Option.{option_map}
use Rattle.std.proofs.lemmas.List.{drop_all}
use Rattle.std.proofs.lemmas.Option.{slice_get_within, slice_get-get_or}
use Rattle.sx_names.specs.Numbering.{NameTable, KeepsPlaces}
use Rattle.sx_tree.specs.declared.events.Label.{Label}
use Rattle.sx_tree.specs.declared.events.Attr.{Attr}
use Rattle.sx_tree.specs.declared.events.Event.{Event}
use Rattle.sx_tree.specs.declared.events.Event.TheVariants as event
use Rattle.sx_named.specs.Named.{Name, name_at, attributes_at, named, IsNumbered, AreNumbered, IsKnown}
use Rattle.sx_sheet.specs.declared.reading.LinedEvent.{LinedEvent}
use Rattle.sx_sheet.specs.declared.reader.Reader.{Reader}
use Rattle.sx_sheet.specs.declared.tokens.Token as code
use Rattle.sx_sheet.specs.Shown.{shown}
use Rattle.sx_sheet.specs.Tokens.{Token, starts_sheet, starts_mode, starts_template, starts_literal, starts_text, starts_apply, ends, says, closes, strange, LinedToken, token_of, is_blank_token, is_in_text, tokens_from, tokens_of, AreKnownEvents}
use Rattle.sx_sheet.specs.Syntax.{tokens_in, lines_in}
use Rattle.sx_sheet.specs.Machine.{SheetState, state_of_reader, next_state, is_last}
use Rattle.sx_sheet.proofs.Told.{are_both}
use Rattle.sx_sheet.specs.Looking.{GivesNumbers, course_through, ComesTo, Results}

abbrev Table : Type 0
Table = NameTable

-- ---- events by a table that keeps its names

module _ (known names : Table) (kept : KeepsPlaces known names) where
  same_name : (label : Label) → IsNumbered known label → name_at names label ≡ name_at known label
  same_name label h = let e : slice_get names label.number ≡ slice_get known label.number = kept label.number h in rw e refl

  same_attributes : (attrs : List Attr) → AreNumbered known attrs → attributes_at names attrs ≡ attributes_at known attrs
  same_attributes [] h = refl
  same_attributes (a ∷ rest) h = rw (same_name a.label h.0) (rw (same_attributes rest h.1) refl)

  pub same_event : (e : Event) → IsKnown known e → named names e ≡ named known e
  same_event (event.Start label attrs spaces) h = rw (same_name label h.0) (rw (same_attributes attrs h.1) refl)
  same_event event.End h = refl
  same_event (event.Text s) h = refl
  same_event (event.Pi target content) h = refl
  same_event event.Close h = refl

gives_old : (old new : Table) (look : Name → Option ℕ) → KeepsPlaces old new → GivesNumbers new look → GivesNumbers old look
gives_old old new look kept g n name e = g n name (kept n (slice_get_within old n (name.uri, name.local) e) ∙ e)

pub keeps_both : (a b c : Table) → KeepsPlaces a b → KeepsPlaces b c → KeepsPlaces a c
keeps_both a b c f g i h =
    let e : slice_get b i ≡ Some (get_or a i ([], [])) = f i h ∙ slice_get-get_or a i ([], []) h in
    g i (slice_get_within b i (get_or a i ([], [])) e) ∙ f i h

-- ---- lists

rest_is : {X : Type 0} (xs items : List X) (i : ℕ) (x : X) → items ≡ xs → i < length items → x ≡ get_or items i x → drop i xs ≡ x ∷ drop (i + 1) xs
rest_is xs items i x f h e = ap (λ ys. drop i ys) (sym f) ∙ drop-cons items i x h ∙ ap (λ ys. get_or items i x ∷ drop (suc i) ys) f ∙ ap (λ y. y ∷ drop (suc i) xs) (sym e) ∙ ap (λ k. x ∷ drop k xs) (sym (add-one i))

no_more : {X : Type 0} (xs items : List X) (i : ℕ) → items ≡ xs → length items ≤ i → drop i xs ≡ []
no_more xs items i f h = ap (λ ys. drop i ys) (sym f) ∙ drop_all i items h

next_rest : (n : ℕ) (xs : List ℕ) (x : ℕ) (ys : List ℕ) → drop n xs ≡ x ∷ ys → drop (n + 1) xs ≡ ys
next_rest zero xs x ys e = rw e refl
next_rest (suc n) [] x ys e = absurd cc
next_rest (suc n) (z ∷ xs) x ys e = let k : suc n + 1 ≡ suc (n + 1) = omega arith in rw k (next_rest n xs x ys e)

first_rest : (n : ℕ) (xs : List ℕ) (x : ℕ) (ys : List ℕ) → drop n xs ≡ x ∷ ys → slice_index_or xs n 0 ≡ x
first_rest zero xs x ys e = rw e refl
first_rest (suc n) [] x ys e = absurd cc
first_rest (suc n) (z ∷ xs) x ys e = first_rest n xs x ys e

no_rest : (n : ℕ) (xs : List ℕ) → drop n xs ≡ [] → slice_index_or xs n 0 ≡ 0
no_rest n [] e = refl
no_rest zero (x ∷ xs) e = absurd cc
no_rest (suc n) (x ∷ xs) e = no_rest n xs e

-- ---- the tokens of one event more

-- what a token shows by the table as it is, is what the event says by the table as it was
said_here : (known names : Table) (e : Event) (o : Option code.Token) (t : code.Token) → KeepsPlaces known names → IsKnown known e →
    option_map (shown names) o ≡ token_of (named names e) → o ≡ Some t → token_of (named known e) ≡ Some (shown names t)
said_here known names e o t kept k h f = rw (sym (same_event known names kept e k)) (sym h ∙ ap (λ (x : Option code.Token). option_map (shown names) x) f)

-- at a place of the events stands this one, which says this
pub record Here (known : Table) (events : List LinedEvent) (i : ℕ) (e : LinedEvent) (t : Token) : Type 0 where
  pub rest : drop i events ≡ e ∷ drop (i + 1) events
  pub said : token_of (named known e.event) ≡ Some t
  pub known_later : AreKnownEvents known (drop (i + 1) events)

pub here : (known names : Table) (events items : List LinedEvent) (i : ℕ) (e : LinedEvent) (o : Option code.Token) (t : code.Token) → items ≡ events → i < length items → e ≡ get_or items i e → KeepsPlaces known names →
    AreKnownEvents known (drop i events) → option_map (shown names) o ≡ token_of (named names e.event) → o ≡ Some t → Here known events i e (shown names t)
here known names events items i e o t f g h kept k m n =
    let q : drop i events ≡ e ∷ drop (i + 1) events = rest_is events items i e f g h in
    let j = rw q at k in
    record { rest = q; said = said_here known names e.event o t kept j.0 m n; known_later = j.1 }

blank_keeps : (t : Token) (b : Bool) → is_blank_token t ≡ true → is_in_text b t ≡ b
blank_keeps starts_sheet b e = absurd cc
blank_keeps (starts_mode m) b e = absurd cc
blank_keeps (starts_template n) b e = absurd cc
blank_keeps (starts_literal n) b e = absurd cc
blank_keeps starts_text b e = absurd cc
blank_keeps starts_apply b e = absurd cc
blank_keeps ends b e = absurd cc
blank_keeps (says s) b e = refl
blank_keeps closes b e = absurd cc
blank_keeps strange b e = absurd cc

-- a token and the line of its event
abbrev pub lined : Token → ℕ → LinedToken
lined t n = record { token = t; line = n }

module _ (known : Table) where
  nothing_said : (e : LinedEvent) (rest : List LinedEvent) (b : Bool) → token_of (named known e.event) ≡ None → tokens_from known (e ∷ rest) b ≡ tokens_from known rest b
  nothing_said e rest b h = rw h refl

  skipped : (e : LinedEvent) (rest : List LinedEvent) (b : Bool) (t : Token) → token_of (named known e.event) ≡ Some t → is_blank_token t && not b ≡ true →
      tokens_from known (e ∷ rest) b ≡ tokens_from known rest b
  skipped e rest b t h k = rw h (rw k (rw (blank_keeps t b (are_both (is_blank_token t) (not b) k).0) refl))

  counted : (e : LinedEvent) (rest : List LinedEvent) (b : Bool) (t : Token) → token_of (named known e.event) ≡ Some t → is_blank_token t && not b ≡ false →
      tokens_from known (e ∷ rest) b ≡ lined t e.line ∷ tokens_from known rest (is_in_text b t)
  counted e rest b t h k = rw h (rw k refl)

  comes_over : (names : Table) (events : List LinedEvent) (e : LinedEvent) (rest : List LinedEvent) (b : Bool) (r : Reader) → tokens_from known (e ∷ rest) b ≡ tokens_from known rest b →
      ComesTo known names events (e ∷ rest) b r → ComesTo known names events rest b r
  comes_over names events e rest b r f c = record { tokens = c.tokens; lines = rw (sym f) c.lines; course = λ look g. rw (sym f) (c.course look g) }

  next_course : (lines : List ℕ) (look : Name → Option ℕ) (s n : SheetState) (k line : ℕ) (t : Token) (ts : List Token) → slice_index_or lines s.place.tokens 0 ≡ line → Some n ≡ next_state look line s t →
      course_through lines look n (k + 1) ts ≡ course_through lines look s k (t ∷ ts)
  next_course lines look s n k line t ts h e = rw h (rw (sym e) (rw (add-one k) refl))

  last_course : (lines : List ℕ) (look : Name → Option ℕ) (s : SheetState) (k line : ℕ) (t : Token) (ts : List Token) → slice_index_or lines s.place.tokens 0 ≡ line → None ≡ next_state look line s t → slice_index_or lines k 0 ≡ line →
      Err line ≡ course_through lines look s k (t ∷ ts)
  last_course lines look s k line t ts h e f = rw h (rw (sym e) (rw f refl))

  comes_on : (names later : Table) (events : List LinedEvent) (e : LinedEvent) (rest : List LinedEvent) (b a : Bool) (r n : Reader) (t : Token) → KeepsPlaces names later →
      tokens_from known (e ∷ rest) b ≡ lined t e.line ∷ tokens_from known rest a →
      ((look : Name → Option ℕ) (tokens : ℕ) → GivesNumbers later look → Some (state_of_reader (tokens + 1) n) ≡ next_state look e.line (state_of_reader tokens r) t) →
      ComesTo known names events (e ∷ rest) b r → ComesTo known later events rest a n
  comes_on names later events e rest b a r n t kept f g c =
      let lines : List ℕ = lines_in (tokens_of known events) in
      let ts : List LinedToken = tokens_from known rest a in
      let d : drop c.tokens lines ≡ e.line ∷ lines_in ts = c.lines ∙ ap lines_in f in
      record {
        tokens = c.tokens + 1;
        lines = next_rest c.tokens lines e.line (lines_in ts) d;
        course = λ look h.
            next_course lines look (state_of_reader c.tokens r) (state_of_reader (c.tokens + 1) n) c.tokens e.line t (tokens_in ts) (first_rest c.tokens lines e.line (lines_in ts) d) (g look c.tokens h)
            ∙ ap (λ (x : List LinedToken). course_through lines look (state_of_reader c.tokens r) c.tokens (tokens_in x)) (sym f)
            ∙ c.course look (gives_old names later look kept h);
      }

  stops_there : (names later : Table) (events : List LinedEvent) (e : LinedEvent) (rest : List LinedEvent) (b a : Bool) (r : Reader) (t : Token) → KeepsPlaces names later →
      tokens_from known (e ∷ rest) b ≡ lined t e.line ∷ tokens_from known rest a →
      ((look : Name → Option ℕ) (tokens : ℕ) → GivesNumbers later look → None ≡ next_state look e.line (state_of_reader tokens r) t) →
      ComesTo known names events (e ∷ rest) b r → Results known later events (Err e.line)
  stops_there names later events e rest b a r t kept f g c =
      let lines : List ℕ = lines_in (tokens_of known events) in
      let ts : List LinedToken = tokens_from known rest a in
      let d : drop c.tokens lines ≡ e.line ∷ lines_in ts = c.lines ∙ ap lines_in f in
      let first = first_rest c.tokens lines e.line (lines_in ts) d in
      record {
        tokens = c.tokens;
        course = λ look h.
            last_course lines look (state_of_reader c.tokens r) c.tokens e.line t (tokens_in ts) first (g look c.tokens h) first
            ∙ ap (λ (x : List LinedToken). course_through lines look (state_of_reader c.tokens r) c.tokens (tokens_in x)) (sym f)
            ∙ c.course look (gives_old names later look kept h);
      }

  -- ---- and so on, from what stands at a place

  pub passes : (names : Table) (events : List LinedEvent) (i : ℕ) (e : LinedEvent) (b : Bool) (r : Reader) (t : Token) → Here known events i e t → true ≡ (is_blank_token t && not b) →
      ComesTo known names events (drop i events) b r → ComesTo known names events (drop (i + 1) events) b r
  passes names events i e b r t h k c =
      comes_over names events e (drop (i + 1) events) b r (skipped e (drop (i + 1) events) b t h.said (sym k)) (rw (sym h.rest) c)

  pub goes : (names later : Table) (events : List LinedEvent) (i : ℕ) (e : LinedEvent) (b a : Bool) (r n : Reader) (t : Token) → Here known events i e t → false ≡ (is_blank_token t && not b) → a ≡ is_in_text b t → KeepsPlaces names later →
      ((look : Name → Option ℕ) (tokens : ℕ) → GivesNumbers later look → Some (state_of_reader (tokens + 1) n) ≡ next_state look e.line (state_of_reader tokens r) t) →
      ComesTo known names events (drop i events) b r → ComesTo known later events (drop (i + 1) events) a n
  goes names later events i e b a r n t h k j kept f c =
      comes_on names later events e (drop (i + 1) events) b a r n t kept (rw j (counted e (drop (i + 1) events) b t h.said (sym k))) f (rw (sym h.rest) c)

  pub stops : (names later : Table) (events : List LinedEvent) (i : ℕ) (e : LinedEvent) (b : Bool) (r : Reader) (t : Token) → Here known events i e t → false ≡ (is_blank_token t && not b) → KeepsPlaces names later →
      ((look : Name → Option ℕ) (tokens : ℕ) → GivesNumbers later look → None ≡ next_state look e.line (state_of_reader tokens r) t) →
      ComesTo known names events (drop i events) b r → Results known later events (Err e.line)
  stops names later events i e b r t h k kept f c =
      stops_there names later events e (drop (i + 1) events) b (is_in_text b t) r t kept (counted e (drop (i + 1) events) b t h.said (sym k)) f (rw (sym h.rest) c)

  pub ends_well : (names : Table) (events items : List LinedEvent) (i : ℕ) (b : Bool) (r : Reader) → items ≡ events → length items ≤ i → true ≡ is_last r.stage → ComesTo known names events (drop i events) b r → Results known names events (Ok r)
  ends_well names events items i b r f h e c =
      let end : drop i events ≡ [] = no_more events items i f h in
      record { tokens = c.tokens; course = λ look g. (let x = rw end at (c.course look g) in rw (sym e) at x) }

  pub ends_early : (names : Table) (events items : List LinedEvent) (i : ℕ) (b : Bool) (r : Reader) → items ≡ events → length items ≤ i → false ≡ is_last r.stage → ComesTo known names events (drop i events) b r → Results known names events (Err 0)
  ends_early names events items i b r f h e c =
      let end : drop i events ≡ [] = no_more events items i f h in
      let none : drop c.tokens (lines_in (tokens_of known events)) ≡ [] = c.lines ∙ ap (λ (rest : List LinedEvent). lines_in (tokens_from known rest b)) end in
      record {
        tokens = c.tokens;
        course = λ look g. (let x = rw end at (c.course look g) in let y = rw (sym e) at x in ap (λ (n : ℕ). Err n) (sym (no_rest c.tokens (lines_in (tokens_of known events)) none)) ∙ y);
      }
