-- What reading answers.
use Rattle.std.proofs.Common.{◌≡◌, ℕ, zero, suc, ◌+◌, Bool, true, false, ◌&&◌, List, [], ◌∷◌, take, slice_index_or, bytes_eq, Option, Some, None, Result, Ok, Err, refl, ap, sym, ◌∙◌, arith, cond, slice_get}
use Rattle.std.specs.Option.{option_map, option_map_or}
use Rattle.std.proofs.lemmas.Slice.Eq.{bytes_eq-Decides}
use Rattle.sx_names.specs.Numbering.{NameTable, IsDistinct}
use Rattle.sx_named.specs.Named.{Name}
use Rattle.sx_sheet.specs.declared.reader.Reader.{Reader}
use Rattle.sx_sheet.specs.declared.reading.LinedEvent.{LinedEvent}
use Rattle.sx_sheet.specs.Tokens.{Token, LinedToken, tokens_of}
use Rattle.sx_sheet.specs.Syntax.{tokens_in, lines_in, BreaksAfter, BreaksOn}
use Rattle.sx_sheet.specs.Numbers.{sheet_with, HasNumber, IsSheetOf}
use Rattle.sx_sheet.specs.Machine.{SheetState, is_last, first_state, state_of_reader}
use Rattle.sx_sheet.specs.Looking.{course_through, GivesNumbers, Results}
use Rattle.sx_sheet.proofs.Parts.{Part, nothing, begun, moded, between, within, texting, texted, applied, ended, closed, shows, Good}
use Rattle.sx_sheet.proofs.Parts as part
use Rattle.sx_sheet.proofs.Exact.{begins_part, reads, Outcome, Stops, outcome, whole_again}
use Rattle.sx_sheet.proofs.Complete as completing
use Rattle.sx_sheet.proofs.Told.{are_both}

abbrev Names : Type 0
Names = NameTable

-- ---- where a name stands

abbrev pair : List ℕ → List ℕ → List ℕ × List ℕ
pair a b = (a, b)

abbrev find_in : Names → List ℕ → List ℕ → Option ℕ
find_in [] uri local = None
find_in (x ∷ xs) uri local = cond (bytes_eq x.0 uri && bytes_eq x.1 local) (Some 0) (option_map (λ n. suc n) (find_in xs uri local))

abbrev found_in : Names → Name → Option ℕ
found_in names name = find_in names name.uri name.local

abbrev place_in : Names → Name → ℕ
place_in names name = option_map_or (λ n. n) (found_in names name) 0

both : (a b : Bool) → a ≡ true → b ≡ true → a && b ≡ true
both a b e f = rw e (rw f refl)

some_pair : (x y : List ℕ × List ℕ) → Some x ≡ Some y → x ≡ y
some_pair x y e = cc

finds_here : (u l v k : List ℕ) → Some (pair u l) ≡ Some (pair v k) → bytes_eq u v && bytes_eq l k ≡ true
finds_here u l v k e =
    let f = some_pair (pair u l) (pair v k) e in
    both (bytes_eq u v) (bytes_eq l k) ((bytes_eq-Decides u v).1 (ap (λ (x : List ℕ × List ℕ). x.0) f)) ((bytes_eq-Decides l k).1 (ap (λ (x : List ℕ × List ℕ). x.1) f))

-- a name that stands somewhere is found where it stands
pub record Finds (xs : Names) (uri local : List ℕ) : Type 0 where
  pub place : ℕ
  pub found : find_in xs uri local ≡ Some place
  pub stands : slice_get xs place ≡ Some (uri, local)

is_pair : (u l v k : List ℕ) → bytes_eq u v && bytes_eq l k ≡ true → Some (pair u l) ≡ Some (pair v k)
is_pair u l v k t =
    let h = are_both (bytes_eq u v) (bytes_eq l k) t in
    let a : u ≡ v = (bytes_eq-Decides u v).0 h.0 in
    let b : l ≡ k = (bytes_eq-Decides l k).0 h.1 in
    ap (λ (x : List ℕ). Some (pair x l)) a ∙ ap (λ (x : List ℕ). Some (pair v x)) b

found_here : (u l v k : List ℕ) (xs : Names) → bytes_eq u v && bytes_eq l k ≡ true → Finds ((u, l) ∷ xs) v k
found_here u l v k xs t = record { place = 0; found = rw t refl; stands = is_pair u l v k t }

found_later : (u l v k : List ℕ) (xs : Names) → bytes_eq u v && bytes_eq l k ≡ false → Finds xs v k → Finds ((u, l) ∷ xs) v k
found_later u l v k xs t f = record { place = suc f.place; found = rw t (rw f.found refl); stands = f.stands }

by_test : (b : Bool) (u l v k : List ℕ) (xs : Names) (n : ℕ) → bytes_eq u v && bytes_eq l k ≡ b → slice_get ((u, l) ∷ xs) n ≡ Some (v, k) →
    ((m : ℕ) → slice_get xs m ≡ Some (v, k) → Finds xs v k) → Finds ((u, l) ∷ xs) v k
by_test true u l v k xs n t e f = found_here u l v k xs t
by_test false u l v k xs zero t e f = found_here u l v k xs (finds_here u l v k e)
by_test false u l v k xs (suc m) t e f = found_later u l v k xs t (f m e)

finds : (xs : Names) (n : ℕ) (v k : List ℕ) → slice_get xs n ≡ Some (v, k) → Finds xs v k
finds [] n v k e = absurd cc
finds (x ∷ xs) n v k e = by_test (bytes_eq x.0 v && bytes_eq x.1 k) x.0 x.1 v k xs n refl e (λ m h. finds xs m v k h)

-- what is found stands there
stands_by : (b : Bool) (u l v k : List ℕ) (xs : Names) (o : Option ℕ) (n : ℕ) → bytes_eq u v && bytes_eq l k ≡ b → find_in xs v k ≡ o → cond b (Some 0) (option_map (λ m. suc m) o) ≡ Some n →
    ((m : ℕ) → o ≡ Some m → slice_get xs m ≡ Some (v, k)) → slice_get ((u, l) ∷ xs) n ≡ Some (v, k)
stands_by true u l v k xs o n t e f g = let z : 0 ≡ n = cc in rw (sym z) (is_pair u l v k t)
stands_by false u l v k xs None n t e f g = absurd cc
stands_by false u l v k xs (Some m) n t e f g = let z : suc m ≡ n = cc in rw (sym z) (g m refl)

stands : (xs : Names) (v k : List ℕ) (n : ℕ) → find_in xs v k ≡ Some n → slice_get xs n ≡ Some (v, k)
stands [] v k n e = absurd cc
stands (x ∷ xs) v k n e = stands_by (bytes_eq x.0 v && bytes_eq x.1 k) x.0 x.1 v k xs (find_in xs v k) n refl refl e (λ m h. stands xs v k m h)

gives_find : (names : Names) → IsDistinct names → GivesNumbers names (found_in names)
gives_find names d n name e =
    let f = finds names n name.uri name.local e in
    f.found ∙ ap (λ (m : ℕ). Some m) (d f.place n (name.uri, name.local) f.stands e)

gives_total : (lines : List ℕ) (names : Names) → IsDistinct names → GivesNumbers names (completing.look lines (place_in names))
gives_total lines names d n name e = rw (gives_find names d n name e) refl

-- ---- the stylesheet

numbered_at : (names : Names) (name : Name) (n : ℕ) → found_in names name ≡ Some n → (place_in names name ≡ n) × HasNumber names (place_in names) name
numbered_at names name n e =
    let p : place_in names name ≡ n = rw e refl in
    (p, rw p (stands names name.uri name.local n e))

not_last : (lines : List ℕ) (names : Names) (r : SheetState) (p : Part) → shows lines (place_in names) p ≡ r → is_last r.stage ≡ true → is_last (shows lines (place_in names) p).stage ≡ true
not_last lines names r p e f = rw e f

last_part : (lined : List LinedToken) (names : Names) (r : SheetState) (p : Part) → Good (HasNumber names (place_in names)) p → shows (lines_in lined) (place_in names) p ≡ r → is_last r.stage ≡ true → part.tokens_of p ≡ tokens_in lined →
    IsSheetOf lined names (sheet_with r.no_match r.templates r.place.constructs)
last_part lined names r (closed m ts) g e f h = record {
  syntax = record { no_match = m; templates = ts };
  written = whole_again m ts ∙ h;
  number = place_in names;
  known = g;
  says = ap (λ (s : SheetState). sheet_with s.no_match s.templates s.place.constructs) (sym e);
}
last_part lined names r nothing g e f h = let x = not_last (lines_in lined) names r nothing e f in absurd cc
last_part lined names r begun g e f h = let x = not_last (lines_in lined) names r begun e f in absurd cc
last_part lined names r (moded m) g e f h = let x = not_last (lines_in lined) names r (moded m) e f in absurd cc
last_part lined names r (between m ts) g e f h = let x = not_last (lines_in lined) names r (between m ts) e f in absurd cc
last_part lined names r (within i) g e f h = let x = not_last (lines_in lined) names r (within i) e f in absurd cc
last_part lined names r (texting i) g e f h = let x = not_last (lines_in lined) names r (texting i) e f in absurd cc
last_part lined names r (texted i c s) g e f h = let x = not_last (lines_in lined) names r (texted i c s) e f in absurd cc
last_part lined names r (applied i) g e f h = let x = not_last (lines_in lined) names r (applied i) e f in absurd cc
last_part lined names r (ended m ts) g e f h = let x = not_last (lines_in lined) names r (ended m ts) e f in absurd cc

by_course : (lines : List ℕ) (look : Name → Option ℕ) (tokens : List Token) (x : Result SheetState ℕ) → x ≡ course_through lines look first_state 0 tokens → Outcome lines look first_state 0 tokens x
by_course lines look tokens x e = rw e (outcome lines look tokens first_state 0)

pub ok_reads : (known names : Names) (events : List LinedEvent) (r : Reader) → IsDistinct names → Results known names events (Ok r) → IsSheetOf (tokens_of known events) names (sheet_with r.no_match r.templates r.constructs)
ok_reads known names events r d f =
    let lined : List LinedToken = tokens_of known events in
    let lines : List ℕ = lines_in lined in
    let s : SheetState = state_of_reader f.tokens r in
    let o : Outcome lines (found_in names) first_state 0 (tokens_in lined) (Ok s) = by_course lines (found_in names) (tokens_in lined) (Ok s) (f.course (found_in names) (gives_find names d)) in
    let x = reads lines (found_in names) (place_in names) (HasNumber names (place_in names)) (numbered_at names) (tokens_in lined) nothing s tt o.0 in
    last_part lined names s x.part x.good x.is_shown o.1 x.taken

-- ---- the line of a fault

none_some : (o : Option SheetState) (s : SheetState) → o ≡ None → o ≡ Some s → ⊥
none_some o s e f = absurd cc

not_both : (o : Option SheetState) (a b : SheetState) → o ≡ Some a → is_last a.stage ≡ false → o ≡ Some b → is_last b.stage ≡ true → ⊥
not_both o a b e f g h = let x : a ≡ b = cc in let y : is_last b.stage ≡ false = rw (sym x) f in absurd cc

same_number : (a b : ℕ) → Some a ≡ Some b → a ≡ b
same_number a b e = cc

breaks : (lines : List ℕ) (total : Name → ℕ) (tokens : List Token) (i : ℕ) → Stops lines (completing.look lines total) first_state tokens i → BreaksAfter tokens i
breaks lines total tokens i s =
    let look : Name → Option ℕ = completing.look lines total in
    let x = reads lines look total (λ name. Unit {0}) (λ name m h. (same_number (total name) m h, tt)) (take i tokens) nothing s.last tt s.reaches in
    record {
      within = s.within;
      begins = rw (sym x.taken) (begins_part x.part);
      here = λ l b. let a = completing.complete lines total b.thin.syntax in none_some _ a.last (s.here l b.more) (rw (sym b.thin.written) a.reaches);
      at_end = λ l t. let a = completing.complete lines total t.syntax in not_both _ s.last a.last (s.at_end l).0 (s.at_end l).1 (rw (sym t.written) a.reaches) a.ends;
    }

none_before : (n : ℕ) → 0 + n ≡ n
none_before n = omega arith

pub err_breaks : (known names : Names) (events : List LinedEvent) (line : ℕ) → IsDistinct names → Results known names events (Err line) → BreaksOn (tokens_of known events) line
err_breaks known names events line d f =
    let lined : List LinedToken = tokens_of known events in
    let lines : List ℕ = lines_in lined in
    let look : Name → Option ℕ = completing.look lines (place_in names) in
    let o : Outcome lines look first_state 0 (tokens_in lined) (Err line) = by_course lines look (tokens_in lined) (Err line) (f.course look (gives_total lines names d)) in
    record { before = o.0; breaks = breaks lines (place_in names) (tokens_in lined) o.0 o.2; line_is = o.1 ∙ ap (λ (n : ℕ). slice_index_or lines n 0) (none_before o.0) }
