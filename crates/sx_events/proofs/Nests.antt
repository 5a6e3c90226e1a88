-- The tree of the events of lines: each event may follow those before it, and how the tree ends.
use Rattle.std.proofs.Common.{◌≡◌, ◌≢◌, ℕ, suc, ◌+◌, ◌<◌, Bool, true, false, not, cond, ◌&&◌, ◌||◌, List, [], ◌∷◌, ◌++◌, length, Option, Some, None, is_some, option_map, ◌⊎◌, ⊎_elim, refl, ap, ap₂, sym, ◌∙◌, subst, arith, append_assoc, append-nil, length-append}
use Rattle.std.proofs.lemmas.Bool.{false≢true, lt-ltb}
use Rattle.sx_chars.specs.Names.{before_space, from_space, without_leading_space}
use Rattle.sx_esis.specs.Lines as esis
use Rattle.sx_esis.specs.Lines.{Line, starts, ends, has, lacks, says, instructs, skips, conforms}
use Rattle.sx_tree.specs.Events.{is_text, is_behind_text}
use Rattle.sx_named.specs.Named.{ElementStart}
use Rattle.sx_tree.specs.Tree as tree
use Rattle.sx_tree.specs.Tree.{TreeEvent, Forest, none, text, instruction, Document, has_open, open_elements, push_node, push_end, tree_of}
use Rattle.sx_tree.proofs.Follow.{ends_in_text-snoc}
use Rattle.sx_tree.proofs.Open.{tree_of-snoc, open-push_node, open-push_end, has_open-is, none_open, open-none}
use Rattle.sx_events.specs.Course.{Lined, Course, course, course_of, reading, is_beyond, events_at, place_behind, by_fault, fault_next, put_events, rest_of, run_in, run_of, then_here, element_begun, instruction as instruction_of, last_events, closing, break_of, events_of, whats}
use Rattle.sx_events.specs.Laws.{AllFollow}
use Rattle.sx_events.specs.Place.{Place, beginning, fault_of, is_root_closed, is_of_element, needs_root, may_follow_attributes, is_mismatch, own_fault, first_is, is_empty, end_fault}
use Rattle.sx_limits.specs.declared.faults.DocFault.{DocFault}
use Rattle.sx_limits.specs.declared.faults.Which.{Which}
use Rattle.sx_limits.specs.declared.faults.Which.TheVariants as which
use Rattle.sx_limits.specs.declared.limits.Limits.{Limits}
use Rattle.sx_events.proofs.Growths.{whats-append, broken_with}

abbrev Events : Type 0
Events = List (TreeEvent ElementStart)

-- the document is open, with so many open elements
pub record Open (es : Events) (n : ℕ) : Type 0 where
  pub going : (tree_of es).is_open ≡ true
  pub depth : length (open_elements (tree_of es).content) ≡ n

-- The events so far make a tree with the open elements of this place, and a run of text that may go on may follow them.
pub record Nests (es : Events) (p : Place) : Type 0 where
  pub stage : Open es (length p.opened)
  pub loose : p.is_loose ≡ true → p.text ≡ []
  pub conformed : p.conformed ≡ true → p.text ≡ []
  pub quiet : p.is_loose ≡ false → p.conformed ≡ false → is_behind_text es ≡ false

after : (es : Events) (h : TreeEvent ElementStart) (n : ℕ) → (tree.push (tree_of es) h).is_open ≡ true → length (open_elements (tree.push (tree_of es) h).content) ≡ n → Open (es ++ h ∷ []) n
after es h n going depth = record {
  going = ap (λ (d : Document ElementStart). d.is_open) (tree_of-snoc es h) ∙ going;
  depth = ap (λ (d : Document ElementStart). length (open_elements d.content)) (tree_of-snoc es h) ∙ depth;
}

pushed : (f node : Forest ElementStart) (n k : ℕ) → length (open_elements f) ≡ n → length (open_elements node) ≡ k → length (open_elements (push_node f node)) ≡ n + k
pushed f node n k i j = ap (λ (xs : List ElementStart). length xs) (open-push_node f node) ∙ omega (arith, length-append (open_elements f) (open_elements node), i, j)

open_start : (es : Events) (n : ℕ) (b : ElementStart) → Open es n → Open (es ++ tree.starts b ∷ []) (suc n)
open_start es n b o = after es (tree.starts b) (suc n) o.going (omega (arith, pushed (tree_of es).content (tree.first_node (tree.starts b)) n 1 o.depth refl))

open_text : (es : Events) (n : ℕ) (s : List ℕ) → Open es n → Open (es ++ tree.says s ∷ []) n
open_text es n s o = after es (tree.says s) n o.going (omega (arith, pushed (tree_of es).content (tree.first_node (tree.says s)) n 0 o.depth refl))

open_instruction : (es : Events) (n : ℕ) (t c : List ℕ) → Open es n → Open (es ++ tree.instructs t c ∷ []) n
open_instruction es n t c o = after es (tree.instructs t c) n o.going (omega (arith, pushed (tree_of es).content (tree.first_node (tree.instructs t c)) n 0 o.depth refl))

-- where elements are open, one is
some_open : (f : Forest ElementStart) (n : ℕ) → length (open_elements f) ≡ suc n → has_open f ≡ true
some_open f n is = by (has_open f) refl
  where
    by : (v : Bool) → has_open f ≡ v → has_open f ≡ true
    by true h = h
    by false h = absurd (let empty = ap (λ (xs : List ElementStart). length xs) (none_open f h) in omega (arith, empty, is))

not_open : (f : Forest ElementStart) → length (open_elements f) ≡ 0 → has_open f ≡ false
not_open f is = open-none f (by (open_elements f) is)
  where
    by : (xs : List ElementStart) → length xs ≡ 0 → xs ≡ []
    by [] h = refl
    by (x ∷ xs) h = absurd (omega (arith, h))

open_end : (es : Events) (n : ℕ) → Open es (suc n) → Open (es ++ tree.ends ∷ []) n
open_end es n o =
    let f = (tree_of es).content in
    let last = has_open-is f (some_open f n o.depth) in
    let fewer = ap (λ (xs : List ElementStart). length xs) (open-push_end f last.0 last.1 last.2) in
    let all = ap (λ (xs : List ElementStart). length xs) last.2 in
    after es tree.ends n o.going (fewer ∙ omega (arith, all, length-append last.0 (last.1 ∷ []), o.depth))

-- ---- each may follow

pub follow-append : (p xs ys : Events) → AllFollow p xs → AllFollow (p ++ xs) ys → AllFollow p (xs ++ ys)
follow-append p [] ys a b = subst (λ (q : Events). AllFollow q ys) (append-nil p) b
follow-append p (x ∷ xs) ys a b = (a.0, follow-append (p ++ x ∷ []) xs ys a.1 (subst (λ (q : Events). AllFollow q ys) (sym (append_assoc p (x ∷ []) xs)) b))

-- These events may follow, and lead to so many open elements.
pub record Leads (es more : Events) (n : ℕ) : Type 0 where
  pub follow : AllFollow es more
  pub stage : Open (es ++ more) n

nothing : (es : Events) (n : ℕ) → Open es n → Leads es [] n
nothing es n o = record { follow = tt; stage = subst (λ (q : Events). Open q n) (sym (append-nil es)) o }

both : (es xs ys : Events) (n m : ℕ) → Leads es xs n → Leads (es ++ xs) ys m → Leads es (xs ++ ys) m
both es xs ys n m a b = record {
  follow = follow-append es xs ys a.follow b.follow;
  stage = subst (λ (q : Events). Open q m) (append_assoc es xs ys) b.stage;
}

not_nil : (b : ℕ) (bs : List ℕ) → b ∷ bs ≢ []
not_nil b bs h = cc

-- the run of text may follow
run_leads : (es : Events) (s : List ℕ) (line n : ℕ) → (s ≢ [] → is_behind_text es ≡ false) → Open es n → Leads es (whats (run_in s line)) n
run_leads es [] line n quiet o = nothing es n o
run_leads es (b ∷ bs) line n quiet o = record {
  follow = (record { not_closed = o.going; allowed = (not_nil b bs, quiet (not_nil b bs)) }, tt);
  stage = open_text es n (b ∷ bs) o;
}

not_true : (v : Bool) → (v ≡ true → ⊥) → v ≡ false
not_true true h = absurd (h refl)
not_true false h = refl

pub run_follows : (es : Events) (p : Place) → Nests es p → Leads es (whats (run_of p)) (length p.opened)
run_follows es p nests =
    run_leads es p.text p.text_line (length p.opened)
    (λ some. nests.quiet (not_true p.is_loose (λ h. some (nests.loose h))) (not_true p.conformed (λ h. some (nests.conformed h))))
    nests.stage

-- place_behind the run of text something else happens
then_leads : (es : Events) (p : Place) (h : TreeEvent ElementStart) (m : ℕ) → Nests es p → ((fs : Events) → Open fs (length p.opened) → Leads fs (h ∷ []) m) → Leads es (whats (then_here p h)) m
then_leads es p h m nests next =
    let r = run_follows es p nests in
    subst (λ (q : Events). Leads es q m) (sym (whats-append (run_of p) (record { what = h; line = suc p.lines } ∷ [])))
    (both es (whats (run_of p)) (h ∷ []) (length p.opened) m r (next (es ++ whats (run_of p)) r.stage))

then_quiet : (es : Events) (p : Place) (h : TreeEvent ElementStart) → is_text h ≡ false → is_behind_text (es ++ whats (then_here p h)) ≡ false
then_quiet es p h not_text =
    ap (λ (q : Events). is_behind_text (es ++ q)) (whats-append (run_of p) (record { what = h; line = suc p.lines } ∷ []))
    ∙ ap is_behind_text (sym (append_assoc es (whats (run_of p)) (h ∷ [])))
    ∙ ends_in_text-snoc (es ++ whats (run_of p)) h ∙ not_text

-- ---- a line that is not at fault

pub record Fits (limits : Limits) (p : Place) (l : Line) : Type 0 where
  pub going : p.conformed ≡ false
  pub placed : (p.is_loose && not (may_follow_attributes l)) ≡ false
  pub matches : is_mismatch p l ≡ false

none_of : (c r n a m : Bool) (o : Option Which) →
    cond (c || r) (Some which.AfterRoot) (cond n (Some which.NoRoot) (cond a (Some which.LooseAttr) (cond m (Some which.EndMismatch) o))) ≡ None →
    (c ≡ false) × (a ≡ false) × (m ≡ false)
none_of true r n a m o h = absurd (cc)
none_of false true n a m o h = absurd (cc)
none_of false false true a m o h = absurd (cc)
none_of false false false true m o h = absurd (cc)
none_of false false false false true o h = absurd (cc)
none_of false false false false false o h = (refl, refl, refl)

fits : (limits : Limits) (p : Place) (l : Line) → fault_of limits p l ≡ None → Fits limits p l
fits limits p l h =
    let n = none_of p.conformed (is_root_closed p && is_of_element l) (not p.has_root && needs_root l) (p.is_loose && not (may_follow_attributes l)) (is_mismatch p l) (own_fault limits p l) h in
    record { going = n.0; placed = n.1; matches = n.2 }

not_loose : (v : Bool) → (v && true) ≡ false → v ≡ false
not_loose true h = absurd (false≢true (sym h))
not_loose false h = refl

-- One line on: its events may follow, and the place place_behind it stands for them.
pub record Next (es more : Events) (p : Place) : Type 0 where
  pub follow : AllFollow es more
  pub nests : Nests (es ++ more) p

next_of : (es more : Events) (n : ℕ) (p : Place) → Leads es more n → n ≡ length p.opened → (p.is_loose ≡ true → p.text ≡ []) → (p.conformed ≡ true → p.text ≡ []) →
    (p.is_loose ≡ false → p.conformed ≡ false → is_behind_text (es ++ more) ≡ false) → Next es more p
next_of es more n p leads is loose conformed quiet = record {
  follow = leads.follow;
  nests = record { stage = subst (Open (es ++ more)) is leads.stage; loose = loose; conformed = conformed; quiet = quiet };
}

on_start : (fs : Events) (n : ℕ) (b : ElementStart) → Open fs n → Leads fs (tree.starts b ∷ []) (suc n)
on_start fs n b o = record { follow = (record { not_closed = o.going; allowed = tt }, tt); stage = open_start fs n b o }

on_instruction : (fs : Events) (n : ℕ) (t c : List ℕ) → Open fs n → Leads fs (tree.instructs t c ∷ []) n
on_instruction fs n t c o = record { follow = (record { not_closed = o.going; allowed = tt }, tt); stage = open_instruction fs n t c o }

on_end : (names : List (List ℕ)) (name : List ℕ) → not (first_is names name) ≡ false → (fs : Events) → Open fs (length names) → Leads fs (tree.ends ∷ []) (length (rest_of names))
on_end [] name h fs o = absurd (false≢true (sym h))
on_end (x ∷ xs) name h fs o = record {
  follow = (record { not_closed = o.going; allowed = some_open (tree_of fs).content (length xs) o.depth }, tt);
  stage = open_end fs (length xs) o;
}

still : (es : Events) (p : Place) → Nests es p → Nests (es ++ []) p
still es p nests = subst (λ (q : Events). Nests q p) (sym (append-nil es)) nests

module _ (limits : Limits) (es : Events) (p : Place) (nests : Nests es p) where
  next_line : (l : Line) → Fits limits p l → Next es (whats (events_at p l)) (place_behind p l)
  next_line (starts name) fit =
      next_of es (whats (events_at p (starts name))) (suc (length p.opened)) (place_behind p (starts name))
      (then_leads es p (tree.starts (element_begun p name)) (suc (length p.opened)) nests (λ fs o. on_start fs (length p.opened) (element_begun p name) o))
      refl (λ h. refl) (λ h. refl) (λ l c. then_quiet es p (tree.starts (element_begun p name)) refl)
  next_line (ends name) fit =
      next_of es (whats (events_at p (ends name))) (length (rest_of p.opened)) (place_behind p (ends name))
      (then_leads es p tree.ends (length (rest_of p.opened)) nests (on_end p.opened name fit.matches))
      refl (λ h. refl) (λ h. refl) (λ l c. then_quiet es p tree.ends refl)
  next_line (has name value) fit =
      next_of es (whats (run_of p)) (length p.opened) (place_behind p (has name value)) (run_follows es p nests) refl (λ h. refl) (λ h. refl) (λ l c. absurd (false≢true (sym l)))
  next_line (lacks name) fit =
      next_of es (whats (run_of p)) (length p.opened) (place_behind p (lacks name)) (run_follows es p nests) refl (λ h. refl) (λ h. refl) (λ l c. absurd (false≢true (sym l)))
  next_line (says s) fit =
      let strict : p.is_loose ≡ false = not_loose p.is_loose fit.placed in
      next_of es [] (length p.opened) (place_behind p (says s)) (nothing es (length p.opened) nests.stage) refl
      (λ h. absurd (false≢true (sym strict ∙ h))) (λ h. absurd (false≢true (sym fit.going ∙ h)))
      (λ l c. ap is_behind_text (append-nil es) ∙ nests.quiet l c)
  next_line (instructs s) fit =
      next_of es (whats (events_at p (instructs s))) (length p.opened) (place_behind p (instructs s))
      (then_leads es p (instruction_of s) (length p.opened) nests (λ fs o. on_instruction fs (length p.opened) (before_space s) (without_leading_space (from_space s)) o))
      refl (λ h. refl) (λ h. refl) (λ l c. then_quiet es p (instruction_of s) refl)
  next_line skips fit =
      next_of es [] (length p.opened) (place_behind p skips) (nothing es (length p.opened) nests.stage) refl nests.loose nests.conformed
      (λ l c. ap is_behind_text (append-nil es) ∙ nests.quiet l c)
  next_line conforms fit =
      next_of es (whats (run_of p)) (length p.opened) (place_behind p conforms) (run_follows es p nests) refl (λ h. refl) (λ h. refl) (λ l c. absurd (false≢true (sym c)))

chain : (es xs ys : Events) (p q : Place) → Next es xs p → Next (es ++ xs) ys q → Next es (xs ++ ys) q
chain es xs ys p q a b = record {
  follow = follow-append es xs ys a.follow b.follow;
  nests = subst (λ (fs : Events). Nests fs q) (append_assoc es xs ys) b.nests;
}

course_step : (f : Option Which) (es : Events) (p : Place) (here : List Lined) (c : Course) → Nests es p →
    (f ≡ None → (q : Place) × Next es (whats here) q × (Nests (es ++ whats here) q → Next (es ++ whats here) (whats c.events) c.place)) →
    Next es (whats (by_fault p f (put_events here c)).events) (by_fault p f (put_events here c)).place
course_step (Some w) es p here c nests more = record { follow = tt; nests = still es p nests }
course_step None es p here c nests more =
    let m = more refl in
    subst (λ (q : Events). Next es q c.place) (sym (whats-append here c.events))
    (chain es (whats here) (whats c.events) m.0 c.place m.1 (m.2 m.1.nests))

-- the events of lines may follow
pub course_follows : (limits : Limits) (p : Place) (ls : List Line) (es : Events) → Nests es p → Next es (whats (course limits p ls).events) (course limits p ls).place
course_follows limits p [] es nests = record { follow = tt; nests = still es p nests }
course_follows limits p (l ∷ ls) es nests =
    course_step (fault_of limits p l) es p (events_at p l) (course limits (place_behind p l) ls) nests
    (λ h. (place_behind p l, next_line limits es p nests l (fits limits p l h), course_follows limits (place_behind p l) ls (es ++ whats (events_at p l))))

at_beginning : Nests [] beginning
at_beginning = record { stage = record { going = refl; depth = refl }; loose = λ h. refl; conformed = λ h. refl; quiet = λ l c. refl }

-- ---- the end

no_end : (o : Option Which) (p : Place) → option_map (fault_next p) o ≡ None → o ≡ None
no_end None p h = refl
no_end (Some w) p h = absurd (cc)

sound_end : (fault : Option DocFault) (p : Place) (f : Option esis.Fault) (beyond : Bool) → broken_with fault p f beyond true ≡ None → end_fault p ≡ None
sound_end (Some x) p f beyond h = absurd (cc)
sound_end None p (Some x) beyond h = absurd (cc)
sound_end None p None true h = absurd (cc)
sound_end None p None false h = no_end (end_fault p) p h

none_left : (root : Bool) (names : List (List ℕ)) → cond (not root) (Some which.NoRoot) (cond (not (is_empty names)) (Some which.Truncated) None) ≡ None → length names ≡ 0
none_left true [] h = refl
none_left true (x ∷ xs) h = absurd (cc)
none_left false names h = absurd (cc)

module _ (limits : Limits) (b : List ℕ) (ended : Bool) where
  abbrev c : Course
  c = course_of limits b ended

  abbrev lasts : Bool → Bool → Events
  lasts broken e = whats (last_events c.place broken e)

  before : Next [] (whats c.events) c.place
  before = course_follows limits beginning (reading limits b ended).lines [] at_beginning

  -- place_behind the run of text
  after_run : Leads (whats c.events) (whats (run_of c.place)) (length c.place.opened)
  after_run = run_follows (whats c.events) c.place before.nests

  pub closes_last : (whats (run_of c.place ++ closing c.place)) ≡ whats (run_of c.place) ++ tree.closes ∷ []
  closes_last = whats-append (run_of c.place) (closing c.place)

  none_open_left : end_fault c.place ≡ None → has_open (tree_of (whats c.events ++ whats (run_of c.place))).content ≡ false
  none_open_left h =
      not_open (tree_of (whats c.events ++ whats (run_of c.place))).content
      (after_run.stage.depth ∙ none_left c.place.has_root c.place.opened h)

  last_follow : (broken e : Bool) → (broken ≡ false → e ≡ true → end_fault c.place ≡ None) → AllFollow (whats c.events) (lasts broken e)
  last_follow true e well = after_run.follow
  last_follow false false well = tt
  last_follow false true well =
      subst (AllFollow (whats c.events)) (sym closes_last)
      (follow-append (whats c.events) (whats (run_of c.place)) (tree.closes ∷ []) after_run.follow
      (record { not_closed = after_run.stage.going; allowed = none_open_left (well refl refl) }, tt))

  all_events : (broken e : Bool) → whats (c.events ++ last_events c.place broken e) ≡ whats c.events ++ lasts broken e
  all_events broken e = whats-append c.events (last_events c.place broken e)

  none_is : (o : Option DocFault) → is_some o ≡ false → o ≡ None
  none_is None h = refl
  none_is (Some x) h = absurd (false≢true (sym h))

  pub ends_well : is_some (break_of limits b ended) ≡ false → ended ≡ true → end_fault c.place ≡ None
  ends_well sound told =
      sound_end c.fault c.place (reading limits b ended).fault (is_beyond limits b)
      (ap (broken_with c.fault c.place (reading limits b ended).fault (is_beyond limits b)) (sym told) ∙ none_is (break_of limits b ended) sound)

  -- each event may happen place_behind those before it
  pub all_follow : AllFollow [] (whats (events_of limits b ended))
  all_follow =
      subst (AllFollow []) (sym (all_events (is_some (break_of limits b ended)) ended))
      (follow-append [] (whats c.events) (lasts (is_some (break_of limits b ended)) ended) before.follow
      (last_follow (is_some (break_of limits b ended)) ended ends_well))

  abbrev tree_with : Bool → Bool → Document ElementStart
  tree_with broken e = tree_of (whats (c.events ++ last_events c.place broken e))

  -- where there is no close, the tree is open
  still_going : (broken e : Bool) → (broken ≡ true) ⊎ (e ≡ false) → (tree_with broken e).is_open ≡ true
  still_going true e why = ap (λ (es : Events). (tree_of es).is_open) (all_events true e) ∙ after_run.stage.going
  still_going false false why = ap (λ (es : Events). (tree_of es).is_open) (all_events false false ∙ append-nil (whats c.events)) ∙ before.nests.stage.going
  still_going false true why = ⊎_elim (λ h. absurd (false≢true h)) (λ h. absurd (false≢true (sym h))) why

  pub open_where : (is_some (break_of limits b ended) ≡ true) ⊎ (ended ≡ false) → (tree_of (whats (events_of limits b ended))).is_open ≡ true
  open_where why = still_going (is_some (break_of limits b ended)) ended why

  closed_tree : tree_with false true ≡ tree.push (tree_of (whats c.events ++ whats (run_of c.place))) tree.closes
  closed_tree =
      ap tree_of (all_events false true ∙ ap (λ (es : Events). whats c.events ++ es) closes_last ∙ sym (append_assoc (whats c.events) (whats (run_of c.place)) (tree.closes ∷ [])))
      ∙ tree_of-snoc (whats c.events ++ whats (run_of c.place)) tree.closes

  pub closed_where : is_some (break_of limits b ended) ≡ false → ended ≡ true → tree_of (whats (events_of limits b ended)) ≡ tree.push (tree_of (whats c.events ++ whats (run_of c.place))) tree.closes
  closed_where sound told = ap₂ tree_with sound told ∙ closed_tree

  pub none_open_where : is_some (break_of limits b ended) ≡ false → ended ≡ true → has_open (tree_of (whats (events_of limits b ended))).content ≡ false
  none_open_where sound told = ap (λ (d : Document ElementStart). has_open d.content) (closed_where sound told) ∙ none_open_left (ends_well sound told)

past_limit : (fault : Option DocFault) (p : Place) (f : Option esis.Fault) (ended : Bool) → broken_with fault p f true ended ≢ None
past_limit (Some x) p f ended h = absurd (cc)
past_limit None p (Some x) ended h = absurd (cc)
past_limit None p None ended h = absurd (cc)

-- more bytes than the limit are broken off
pub broken_beyond : (limits : Limits) (b : List ℕ) (ended : Bool) → limits.bytes < length b → break_of limits b ended ≢ None
broken_beyond limits b ended lt h =
    past_limit (course_of limits b ended).fault (course_of limits b ended).place (reading limits b ended).fault ended
    (ap (λ (v : Bool). broken_with (course_of limits b ended).fault (course_of limits b ended).place (reading limits b ended).fault v ended) (sym (lt-ltb limits.bytes (length b) lt)) ∙ h)
