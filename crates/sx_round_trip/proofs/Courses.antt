-- What happens in a whole document, line by line.
use Rattle.std.proofs.Common.{◌≡◌, ℕ, suc, ◌<◌, ◌≤◌, nat_lt, Bool, true, false, not, cond, ◌&&◌, ◌||◌, List, [], ◌∷◌, ◌++◌, length, Option, Some, None, is_none, is_some, refl, ap, sym, ◌∙◌, subst, append_assoc, arith}
use Rattle.std.specs.Prelude.{bytes_eq, codes}
use Rattle.std.specs.Option.{option_or}
use Rattle.std.proofs.lemmas.Bool.{true≢false, false≢true, ltb-true, ltb-false, and_parts}
use Rattle.std.proofs.lemmas.List.{map-append}
use Rattle.std.proofs.lemmas.Option.{same_Some}
use Rattle.std.proofs.lemmas.Str.{IsUtf8-nil, IsUtf8-append, IsUtf8-from_ascii}
use Rattle.std.proofs.lemmas.Slice.Eq.{bytes_eq-Decides}
use Rattle.sx_chars.specs.Names.{from_space, is_white_space, without_leading_space}
use Rattle.sx_chars.proofs.Ascii.{all_ascii}
use Rattle.sx_esis.specs.Lines.{Line, starts, ends, has, lacks, says, instructs, skips, conforms}
use Rattle.sx_events.specs.Course.{Lined, Course, course, course_of, reading, looked_at, is_beyond, by_fault, put_events, run_in, run_of, then_here, element_begun, instruction, events_at, rest_of, place_behind, last_events, last_fault, or_else, closing, break_of, whats}
use Rattle.sx_events.specs.Place.{Place, Written, beginning, is_empty, xml_namespace, is_bad, has_bad, declares_twice, declared_prefix, put_space, spaces_of, ordinary, declared_behind, scope_with, element_name, attributes_in, is_bound_prefix, all_bound, has_double, is_root_closed, first_is, most_open, start_fault, own_fault, fault_of, end_fault}
use Rattle.sx_events.proofs.Growths.{whats-append}
use Rattle.sx_events.proofs.Nests.{ends_well}
use Rattle.sx_limits.specs.declared.faults.Which.{Which}
use Rattle.sx_limits.specs.declared.faults.Which.TheVariants as which
use Rattle.sx_limits.specs.declared.faults.DocFault.{DocFault}
use Rattle.sx_limits.specs.declared.limits.Limits.{Limits}
use Rattle.sx_lines.proofs.Lacking.{Lacks-append}
use Rattle.sx_named.specs.Named.{ElementStart, NamedElement, in_tree, all_in_tree}
use Rattle.sx_names.specs.Scope.{Declarations, ScopeBindings, bound_in, bound}
use Rattle.sx_tree.specs.declared.events.Space.{Space}
use Rattle.sx_tree.specs.Tree as tree
use Rattle.sx_tree.specs.Tree.{TreeEvent}
use Rattle.sx_top.specs.Run.{happened}
use Rattle.sx_round_trip.proofs.Happenings.{Happens, IsSaid, IsGood, IsSound, IsRead, AreWritten, AreOrdinary, declares_as}
use Rattle.sx_round_trip.proofs.Texts.{IsFair, AreFair, all_lack, fair_lines, said_spaces, said_content}

-- ---- what is declared

-- each of these may be declared
abbrev AreGood : Declarations → Type 0
AreGood [] = Unit {0}
AreGood (d ∷ ds) = IsGood d.0 d.1 × AreGood ds

good_found : (ds : Declarations) (prefix uri : List ℕ) → AreGood ds → bound_in ds prefix ≡ Some uri → IsGood prefix uri
good_found [] prefix uri good is = absurd (cc)
good_found (d ∷ ds) prefix uri good is = by (bytes_eq d.0 prefix) refl is (good_found ds prefix uri good.1)
  where
    by : (t : Bool) → bytes_eq d.0 prefix ≡ t → cond t (Some d.1) (bound_in ds prefix) ≡ Some uri → (bound_in ds prefix ≡ Some uri → IsGood prefix uri) → IsGood prefix uri
    by true e is rest =
        subst (λ (p : List ℕ). IsGood p uri) ((bytes_eq-Decides d.0 prefix).0 e) (subst (λ (u : List ℕ). IsGood d.0 u) (same_Some d.1 uri is) good.0)
    by false e is rest = rest is

-- the spaces of attributes may be declared
abbrev GoodSpaces : List Space → Type 0
GoodSpaces [] = Unit {0}
GoodSpaces (s ∷ ss) = IsGood s.prefix s.uri × GoodSpaces ss

false_parts : (a b : Bool) → (a || b) ≡ false → (a ≡ false) × (b ≡ false)
false_parts true b h = absurd (cc)
false_parts false b h = (refl, h)

good_spaces : (ws : List Written) → AreWritten ws → has_bad (spaces_of ws) ≡ false → GoodSpaces (spaces_of ws)
good_spaces [] are bad = tt
good_spaces (w ∷ ws) are bad = by (declared_prefix w.name) bad (good_spaces ws are.2)
  where
    by : (o : Option (List ℕ)) → has_bad (put_space o w.value (spaces_of ws)) ≡ false → (has_bad (spaces_of ws) ≡ false → GoodSpaces (spaces_of ws))
        → GoodSpaces (put_space o w.value (spaces_of ws))
    by None bad rest = rest bad
    by (Some prefix) bad rest =
        let parts = false_parts (is_bad (declares_as prefix w.value)) (has_bad (spaces_of ws)) bad in
        ((parts.0, are.1), rest parts.1)

good_behind : (before : Declarations) (ss : List Space) → AreGood before → GoodSpaces ss → AreGood (declared_behind before ss)
good_behind before [] good are = good
good_behind before (s ∷ ss) good are = good_behind ((s.prefix, s.uri) ∷ before) ss (are.0, good) are.1

xml_good : IsGood (codes "xml") xml_namespace
xml_good = (refl, (IsUtf8-from_ascii xml_namespace (all_ascii xml_namespace refl), all_lack xml_namespace refl))

-- what is bound where nothing is declared
first_sound : IsSound []
first_sound prefix uri is = by (bytes_eq prefix (codes "xml")) refl (bytes_eq prefix []) refl is
  where
    by : (x : Bool) → bytes_eq prefix (codes "xml") ≡ x → (n : Bool) → bytes_eq prefix [] ≡ n → cond x (Some xml_namespace) (cond n (Some []) None) ≡ Some uri → IsGood prefix uri
    by true e n f is =
        subst (λ (p : List ℕ). IsGood p uri) (sym ((bytes_eq-Decides prefix (codes "xml")).0 e)) (subst (IsGood (codes "xml")) (same_Some xml_namespace uri is) xml_good)
    by false e true f is =
        subst (λ (p : List ℕ). IsGood p uri) (sym ((bytes_eq-Decides prefix []).0 f)) (subst (IsGood []) (same_Some [] uri is) (refl, (IsUtf8-nil, tt)))
    by false e false f is = absurd (cc)

-- in an element more
sound_inside : (ds : Declarations) (scope : ScopeBindings) → AreGood ds → IsSound scope → IsSound (ds ∷ scope)
sound_inside ds scope good sound prefix uri is = by (bound_in ds prefix) refl is
  where
    by : (o : Option (List ℕ)) → bound_in ds prefix ≡ o → option_or o (bound scope prefix) ≡ Some uri → IsGood prefix uri
    by None e is = sound prefix uri is
    by (Some u) e is = good_found ds prefix uri good (e ∙ is)

-- in each of the open elements
abbrev AllSound : ScopeBindings → Type 0
AllSound [] = Unit {0}
AllSound (ds ∷ scope) = IsSound (ds ∷ scope) × AllSound scope

sound_now : (scope : ScopeBindings) → AllSound scope → IsSound scope
sound_now [] all = first_sound
sound_now (ds ∷ scope) all = all.0

sound_rest : (scope : ScopeBindings) → AllSound scope → AllSound (rest_of scope)
sound_rest [] all = tt
sound_rest (ds ∷ scope) all = all.1

-- ---- attributes

ordinary_by : (o : Option (List ℕ)) (w : Written) (ws : List Written) → declared_prefix w.name ≡ o → AreOrdinary ws → AreOrdinary (cond (is_none o) (w ∷ ws) ws)
ordinary_by None w ws is are = (is, are)
ordinary_by (Some p) w ws is are = are

ordinary_are : (ws : List Written) → AreOrdinary (ordinary ws)
ordinary_are [] = tt
ordinary_are (w ∷ ws) = ordinary_by (declared_prefix w.name) w (ordinary ws) refl (ordinary_are ws)

written_by : (t : Bool) (w : Written) (ws : List Written) → AreWritten (w ∷ ws) → AreWritten (cond t (w ∷ ws) ws)
written_by true w ws are = are
written_by false w ws are = are.2

written_are : (ws : List Written) → AreWritten ws → AreWritten (ordinary ws)
written_are [] are = tt
written_are (w ∷ ws) are = written_by (is_none (declared_prefix w.name)) w (ordinary ws) (are.0, are.1, written_are ws are.2)

written_more : (ws : List Written) (w : Written) → AreWritten ws → AreWritten (w ∷ []) → AreWritten (ws ++ w ∷ [])
written_more [] w are one = one
written_more (v ∷ ws) w are one = (are.0, are.1, written_more ws w are.2 one)

-- ---- lines that are not at fault

sound_line : (a n l m : Bool) (o : Option Which) → cond a (Some which.AfterRoot) (cond n (Some which.NoRoot) (cond l (Some which.LooseAttr) (cond m (Some which.EndMismatch) o))) ≡ None
    → (a ≡ false) × (n ≡ false) × (l ≡ false) × (m ≡ false) × (o ≡ None)
sound_line true n l m o h = absurd (cc)
sound_line false true l m o h = absurd (cc)
sound_line false false true m o h = absurd (cc)
sound_line false false false true o h = absurd (cc)
sound_line false false false false o h = (refl, refl, refl, refl, h)

sound_start : (d b c u x : Bool)
    → cond d (Some which.DoubleAttr) (cond b (Some which.BadAttr) (cond (not c) (Some which.Depth) (cond (not u) (Some which.UnboundPrefix) (cond x (Some which.DoubleAttr) None)))) ≡ None
    → (d ≡ false) × (b ≡ false) × (c ≡ true) × (u ≡ true) × (x ≡ false)
sound_start true b c u x h = absurd (cc)
sound_start false true c u x h = absurd (cc)
sound_start false false false u x h = absurd (cc)
sound_start false false true false x h = absurd (cc)
sound_start false false true true true h = absurd (cc)
sound_start false false true true false h = (refl, refl, refl, refl, refl)

some_open : {X : Type 0} (xs : List X) → is_empty xs ≡ false → 0 < length xs
some_open [] h = absurd (cc)
some_open (x ∷ xs) h = omega arith

-- an element is open where the root has element_begun and has not ended
inside_root : (conformed root : Bool) (opened : List (List ℕ)) → (conformed || (root && is_empty opened && true)) ≡ false → root ≡ true → 0 < length opened
inside_root true root opened h is = absurd (cc)
inside_root false true [] h is = absurd (cc)
inside_root false true (n ∷ ns) h is = omega arith
inside_root false false opened h is = absurd (cc)

one_less : (names : List (List ℕ)) (name : List ℕ) → not (first_is names name) ≡ false → length names ≡ suc (length (rest_of names))
one_less [] name h = absurd (cc)
one_less (n ∷ ns) name h = refl

not_true : (v : Bool) → (v ≡ true → ⊥) → v ≡ false
not_true true h = absurd (h refl)
not_true false h = refl

-- ---- what is known at a place

-- The place place_behind some lines, where a text did or did not happen last.
record Goes (limits : Limits) (p : Place) (after_text : Bool) : Type 0 where
  sound : AllSound p.scope
  attributes : AreWritten p.attributes
  text : IsSaid p.text
  short : length p.text ≤ limits.text_run
  inside : 0 < length p.text → 0 < length p.opened
  quiet : p.is_loose ≡ false → p.conformed ≡ false → after_text ≡ false
  loose : p.is_loose ≡ true → p.text ≡ []
  conformed : p.conformed ≡ true → p.text ≡ []

-- events as a tree knows them
abbrev in_trees : List Lined → List (TreeEvent NamedElement)
in_trees ls = all_in_tree (whats ls)

in_trees-append : (xs ys : List Lined) → in_trees (xs ++ ys) ≡ in_trees xs ++ in_trees ys
in_trees-append xs ys = ap all_in_tree (whats-append xs ys) ∙ map-append in_tree (whats xs) (whats ys)

module _ (limits : Limits) where
  -- the run of text happens in front of what follows
  flushed : (p : Place) (root after_text : Bool) (es : List (TreeEvent NamedElement)) → Goes limits p after_text → ((a : Bool) → Happens limits (length p.opened) root a es)
      → Happens limits (length p.opened) root after_text (in_trees (run_of p) ++ es)
  flushed p root after_text es goes rest = by p.text goes.text goes.short goes.inside quiet
    where
      quiet : ¬ (p.text ≡ []) → after_text ≡ false
      quiet some = goes.quiet (not_true p.is_loose (λ h. some (goes.loose h))) (not_true p.conformed (λ h. some (goes.conformed h)))

      by : (s : List ℕ) → IsSaid s → length s ≤ limits.text_run → (0 < length s → 0 < length p.opened) → (¬ (s ≡ []) → after_text ≡ false)
          → Happens limits (length p.opened) root after_text (in_trees (run_in s p.text_line) ++ es)
      by [] said short inside quiet = rest after_text
      by (b ∷ bs) said short inside quiet = (inside (omega arith), quiet (λ h. cc), omega arith, short, said.0, said.1, rest true)

  -- place_behind the run of text, something else
  flushed_then : (p : Place) (h : TreeEvent ElementStart) (root after_text : Bool) (es : List (TreeEvent NamedElement)) → Goes limits p after_text
      → ((a : Bool) → Happens limits (length p.opened) root a (in_tree h ∷ es))
      → Happens limits (length p.opened) root after_text (in_trees (then_here p h) ++ es)
  flushed_then p h root after_text es goes rest =
      subst (Happens limits (length p.opened) root after_text)
      (sym (ap (λ (x : List (TreeEvent NamedElement)). x ++ es) (in_trees-append (run_of p) (record { what = h; line = suc p.lines } ∷ []))
      ∙ append_assoc (in_trees (run_of p)) (in_tree h ∷ []) es))
      (flushed p root after_text (in_tree h ∷ es) goes rest)

  -- what the lines place_behind a place come to
  abbrev Then : Place → List (TreeEvent NamedElement) → Type 0
  Then p es = (a : Bool) → Goes limits p a → Happens limits (length p.opened) p.has_root a es

  fresh : (p : Place) (after_text : Bool) → AllSound p.scope → AreWritten p.attributes → p.text ≡ [] → (p.is_loose ≡ false → p.conformed ≡ false → after_text ≡ false) → Goes limits p after_text
  fresh p after_text sound attributes none quiet = record {
    sound = sound;
    attributes = attributes;
    text = subst IsSaid (sym none) (IsUtf8-nil, tt);
    short = omega (arith, ap length none);
    inside = λ some. absurd (omega (arith, some, ap length none));
    quiet = quiet;
    loose = λ h. none;
    conformed = λ h. none;
  }

  module _ (p : Place) (after_text : Bool) (es : List (TreeEvent NamedElement)) (goes : Goes limits p after_text) where
    start_happens : (name : List ℕ) → IsFair (starts name) → fault_of limits p (starts name) ≡ None → Then (place_behind p (starts name)) es
        → Happens limits (length p.opened) p.has_root after_text (in_trees (events_at p (starts name)) ++ es)
    start_happens name fair sound rest =
        let spaces = spaces_of p.attributes in
        let scope = scope_with p p.attributes in
        let plain = ordinary p.attributes in
        let line = sound_line (p.conformed || (is_root_closed p && true)) (not p.has_root && false) (p.is_loose && false) false (start_fault limits p name) sound in
        let own = sound_start (declares_twice spaces) (has_bad spaces) (nat_lt (length p.opened) (most_open limits))
        (is_bound_prefix scope name && all_bound scope plain) (has_double (attributes_in scope plain)) line.4 in
        let bounds = and_parts (is_bound_prefix scope name) (all_bound scope plain) own.3 in
        let good = good_behind [] spaces tt (good_spaces p.attributes goes.attributes own.1) in
        let now_sound = sound_inside (declared_behind [] spaces) p.scope good (sound_now p.scope goes.sound) in
        let read : IsRead scope name plain (record { name = element_name scope name; attributes = attributes_in scope plain }) = record {
          name_is = refl;
          attributes_are = refl;
          sound = now_sound;
          named = fair;
          written = written_are p.attributes goes.attributes;
          ordinary = ordinary_are p.attributes;
          bound = bounds.0;
          all_bound = bounds.1;
          single = own.4;
        } in
        flushed_then p (tree.starts (element_begun p name)) p.has_root after_text es goes
        (λ a. (
          inside_root p.conformed p.has_root p.opened line.0,
          ltb-true (length p.opened) (most_open limits) own.2,
          (scope, name, plain, read),
          rest false (fresh (place_behind p (starts name)) false (now_sound, goes.sound) tt refl (λ l c. refl)),
        ))

    end_happens : (name : List ℕ) → fault_of limits p (ends name) ≡ None → Then (place_behind p (ends name)) es
        → Happens limits (length p.opened) p.has_root after_text (in_trees (events_at p (ends name)) ++ es)
    end_happens name sound rest =
        let line = sound_line (p.conformed || (is_root_closed p && true)) (not p.has_root && true) (p.is_loose && true) (not (first_is p.opened name)) None sound in
        flushed_then p tree.ends p.has_root after_text es goes
        (λ a. (
          length (rest_of p.opened),
          one_less p.opened name line.3,
          rest false (fresh (place_behind p (ends name)) false (sound_rest p.scope goes.sound) tt refl (λ l c. refl)),
        ))

    has_happens : (name value : List ℕ) → IsFair (has name value) → Then (place_behind p (has name value)) es
        → Happens limits (length p.opened) p.has_root after_text (in_trees (events_at p (has name value)) ++ es)
    has_happens name value fair rest =
        flushed p p.has_root after_text es goes
        (λ a. rest a (fresh (place_behind p (has name value)) a goes.sound
        (written_more p.attributes (record { name = name; value = value }) goes.attributes (fair.0, fair.1, tt)) refl (λ l c. absurd (true≢false l))))

    lacks_happens : (name : List ℕ) → Then (place_behind p (lacks name)) es → Happens limits (length p.opened) p.has_root after_text (in_trees (events_at p (lacks name)) ++ es)
    lacks_happens name rest =
        flushed p p.has_root after_text es goes
        (λ a. rest a (fresh (place_behind p (lacks name)) a goes.sound goes.attributes refl (λ l c. absurd (true≢false l))))

    says_happens : (s : List ℕ) → IsFair (says s) → fault_of limits p (says s) ≡ None → Then (place_behind p (says s)) es
        → Happens limits (length p.opened) p.has_root after_text es
    says_happens s fair sound rest =
        let text = p.text ++ s in
        let own = own_fault limits p (says s) in
        let line = sound_line (p.conformed || (is_root_closed p && true)) (not p.has_root && true) (p.is_loose && true) false own sound in
        rest after_text (record {
          sound = goes.sound;
          attributes = goes.attributes;
          text = (IsUtf8-append p.text s goes.text.0 fair.0, Lacks-append 0 p.text s goes.text.1 fair.1);
          short = short (nat_lt limits.text_run (length text)) refl line.4;
          inside = λ some. inside_root p.conformed p.has_root p.opened line.0 (has_root p.has_root line.1);
          quiet = goes.quiet;
          loose = λ h. absurd (both p.is_loose h line.2);
          conformed = λ h. absurd (first p.conformed h line.0);
        })
      where
        short : (t : Bool) → nat_lt limits.text_run (length (p.text ++ s)) ≡ t → cond t (Some which.TextRun) None ≡ None → length (p.text ++ s) ≤ limits.text_run
        short true e h = absurd (cc)
        short false e h = ltb-false limits.text_run (length (p.text ++ s)) e

        has_root : (r : Bool) → (not r && true) ≡ false → r ≡ true
        has_root true h = refl
        has_root false h = absurd (cc)

        both : (l : Bool) → l ≡ true → (l && true) ≡ false → ⊥
        both true h k = true≢false k
        both false h k = false≢true h

        first : (c : Bool) → c ≡ true → (c || (is_root_closed p && true)) ≡ false → ⊥
        first true h k = true≢false k
        first false h k = false≢true h

    instruction_happens : (s : List ℕ) → IsFair (instructs s) → Then (place_behind p (instructs s)) es
        → Happens limits (length p.opened) p.has_root after_text (in_trees (events_at p (instructs s)) ++ es)
    instruction_happens s fair rest =
        let content = said_content (from_space s) (said_spaces s fair.1).1 in
        flushed_then p (instruction s) p.has_root after_text es goes
        (λ a. (fair.0, content.0, content.1, twice (from_space s), rest false (fresh (place_behind p (instructs s)) false goes.sound tt refl (λ l c. refl))))
      where
        twice : (x : List ℕ) → without_leading_space (without_leading_space x) ≡ without_leading_space x
        twice [] = refl
        twice (b ∷ bs) = by (is_white_space b) refl (twice bs)
          where
            by : (t : Bool) → is_white_space b ≡ t → without_leading_space (without_leading_space bs) ≡ without_leading_space bs
                → without_leading_space (cond t (without_leading_space bs) (b ∷ bs)) ≡ cond t (without_leading_space bs) (b ∷ bs)
            by true e rest = rest
            by false e rest = ap (λ (t : Bool). cond t (without_leading_space bs) (b ∷ bs)) e

    skips_happens : Then (place_behind p skips) es → Happens limits (length p.opened) p.has_root after_text es
    skips_happens rest = rest after_text (record {
      sound = goes.sound;
      attributes = goes.attributes;
      text = goes.text;
      short = goes.short;
      inside = goes.inside;
      quiet = goes.quiet;
      loose = goes.loose;
      conformed = goes.conformed;
    })

    conforms_happens : Then (place_behind p conforms) es → Happens limits (length p.opened) p.has_root after_text (in_trees (events_at p conforms) ++ es)
    conforms_happens rest =
        flushed p p.has_root after_text es goes
        (λ a. rest a (fresh (place_behind p conforms) a goes.sound goes.attributes refl (λ l c. absurd (true≢false c))))

  -- what a line makes happens in front of what follows
  line_happens : (p : Place) (l : Line) (after_text : Bool) (es : List (TreeEvent NamedElement)) → Goes limits p after_text → IsFair l → fault_of limits p l ≡ None → Then (place_behind p l) es
      → Happens limits (length p.opened) p.has_root after_text (in_trees (events_at p l) ++ es)
  line_happens p (starts name) after_text es goes fair sound rest = start_happens p after_text es goes name fair sound rest
  line_happens p (ends name) after_text es goes fair sound rest = end_happens p after_text es goes name sound rest
  line_happens p (has name value) after_text es goes fair sound rest = has_happens p after_text es goes name value fair rest
  line_happens p (lacks name) after_text es goes fair sound rest = lacks_happens p after_text es goes name rest
  line_happens p (says s) after_text es goes fair sound rest = says_happens p after_text es goes s fair sound rest
  line_happens p (instructs s) after_text es goes fair sound rest = instruction_happens p after_text es goes s fair rest
  line_happens p skips after_text es goes fair sound rest = skips_happens p after_text es goes rest
  line_happens p conforms after_text es goes fair sound rest = conforms_happens p after_text es goes rest

  -- where the input ends well
  well_ended : (root : Bool) (names : List (List ℕ)) → cond (not root) (Some which.NoRoot) (cond (not (is_empty names)) (Some which.Truncated) None) ≡ None
      → (length names ≡ 0) × (root ≡ true)
  well_ended true [] h = (refl, refl)
  well_ended true (x ∷ xs) h = absurd (cc)
  well_ended false names h = absurd (cc)

  -- all events of a course, to the close
  abbrev all_of : Course → List (TreeEvent NamedElement)
  all_of c = in_trees (c.events ++ (run_of c.place ++ closing c.place))

  step : (p : Place) (l : Line) (f : Option Which) (c : Course) (after_text : Bool) → Goes limits p after_text → IsFair l → fault_of limits p l ≡ f
      → (by_fault p f (put_events (events_at p l) c)).fault ≡ None → end_fault (by_fault p f (put_events (events_at p l) c)).place ≡ None
      → (c.fault ≡ None → end_fault c.place ≡ None → Then (place_behind p l) (all_of c))
      → Happens limits (length p.opened) p.has_root after_text (all_of (by_fault p f (put_events (events_at p l) c)))
  step p l (Some w) c after_text goes fair is sound ended rest = absurd (cc)
  step p l None c after_text goes fair is sound ended rest =
      subst (Happens limits (length p.opened) p.has_root after_text)
      (sym (ap in_trees (append_assoc (events_at p l) c.events (run_of c.place ++ closing c.place))
      ∙ in_trees-append (events_at p l) (c.events ++ (run_of c.place ++ closing c.place))))
      (line_happens p l after_text (all_of c) goes fair is (rest sound ended))

  course_happens : (p : Place) (ls : List Line) (after_text : Bool) → AreFair ls → (course limits p ls).fault ≡ None → end_fault (course limits p ls).place ≡ None → Goes limits p after_text
      → Happens limits (length p.opened) p.has_root after_text (all_of (course limits p ls))
  course_happens p [] after_text fair sound ended goes =
      let well = well_ended p.has_root p.opened ended in
      subst (Happens limits (length p.opened) p.has_root after_text) (sym (in_trees-append (run_of p) (closing p)))
      (flushed p p.has_root after_text (tree.closes ∷ []) goes (λ a. (well.0, well.1, refl)))
  course_happens p (l ∷ ls) after_text fair sound ended goes =
      step p l (fault_of limits p l) (course limits (place_behind p l) ls) after_text goes fair.0 refl sound ended
      (λ s e a g. course_happens (place_behind p l) ls a fair.1 s e g)

no_fault : (f g : Option DocFault) → or_else f g ≡ None → f ≡ None
no_fault (Some x) g h = absurd (cc)
no_fault None g h = refl

-- A document that is not broken off happens so.
pub document_happens : (limits : Limits) (b : List ℕ) → break_of limits b true ≡ None → Happens limits 0 false false (happened limits b true)
document_happens limits b whole =
    let c = course_of limits b true in
    let sound = no_fault c.fault (last_fault c.place (reading limits b true).fault (is_beyond limits b) true) whole in
    let ended = ends_well limits b true (ap is_some whole) refl in
    subst (Happens limits 0 false false)
    (sym (ap (λ (o : Option DocFault). in_trees (c.events ++ last_events c.place (is_some o) true)) whole))
    (course_happens limits beginning (reading limits b true).lines false (fair_lines limits.line (looked_at limits b) (true && not (is_beyond limits b))) sound ended
    (fresh limits beginning false tt tt refl (λ l c. refl)))
