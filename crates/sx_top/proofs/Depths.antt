-- At most 200 elements of a document stand in one another.
use Rattle.std.proofs.Common.{◌≡◌, ℕ, zero, suc, ◌<◌, ◌≤◌, min, nat_lt, Bool, true, false, not, cond, ◌&&◌, ◌||◌, List, [], ◌∷◌, ◌++◌, length, Option, Some, None, is_some, refl, sym, subst, arith, append_assoc, append-nil}
use Rattle.std.proofs.lemmas.Bool.{ltb-true}
use Rattle.sx_esis.specs.Lines.{Line, starts, ends, has, lacks, says, instructs, skips, conforms}
use Rattle.sx_named.specs.Named.{ElementStart, started}
use Rattle.sx_tree.specs.Tree as tree
use Rattle.sx_tree.specs.Tree.{TreeEvent, Forest, none, text, instruction, element, Document, has_open, open_elements, push_node, push_end, push, tree_of}
use Rattle.sx_tree.specs.Mapping.{map_forest}
use Rattle.sx_tree.proofs.Open.{tree_of-snoc}
use Rattle.sx_tree.proofs.Mapping.{tree_of-map}
use Rattle.sx_events.specs.Course.{Lined, Course, course, course_of, reading, by_fault, put_events, run_in, run_of, then_here, element_begun, instruction as instruction_of, events_at, place_behind, last_events, closing, break_of, events_of, whats}
use Rattle.sx_events.specs.Place.{Place, beginning, spaces_of, ordinary, scope_with, attributes_in, fault_of, start_fault, declares_twice, has_bad, is_bound_prefix, all_bound, has_double, is_root_closed, is_of_element, needs_root, may_follow_attributes, is_mismatch, most_open}
use Rattle.sx_events.proofs.Growths.{whats-append}
use Rattle.sx_events.proofs.Nests.{Nests, Next, run_follows, course_follows}
use Rattle.sx_limits.specs.declared.faults.Which.{Which}
use Rattle.sx_limits.specs.declared.faults.Which.TheVariants as which
use Rattle.sx_limits.specs.declared.limits.Limits.{Limits}
use Rattle.sx_top.specs.Depth.{NestsIn}
use Rattle.sx_top.specs.Run.{happened}

module _ {E : Type 0} where
  -- where more may stand in one another
  pub nests_more : (f : Forest E) (n m : ℕ) → n ≤ m → NestsIn f n → NestsIn f m
  nests_more none n m le h = tt
  nests_more (text s rest) n m le h = nests_more rest n m le h
  nests_more (instruction t c rest) n m le h = nests_more rest n m le h
  nests_more (element e o kids rest) zero m le h = absurd h
  nests_more (element e o kids rest) (suc n) zero le h = absurd (omega (arith, le))
  nests_more (element e o kids rest) (suc n) (suc m) le h = (nests_more kids n m (omega (arith, le)) h.0, nests_more rest (suc n) (suc m) le h.1)

  -- a node that is no element
  push_plain : (f new : Forest E) (n : ℕ) → ((k : ℕ) → NestsIn new k) → NestsIn f n → NestsIn (push_node f new) n
  push_plain none new n plain h = plain n
  push_plain (text s rest) new n plain h = push_plain rest new n plain h
  push_plain (instruction t c rest) new n plain h = push_plain rest new n plain h
  push_plain (element e o kids rest) new zero plain h = absurd h
  push_plain (element e true kids rest) new (suc n) plain h = (push_plain kids new n plain h.0, tt)
  push_plain (element e false kids rest) new (suc n) plain h = (h.0, push_plain rest new (suc n) plain h.1)

  -- an element in fewer open ones
  push_start : (f : Forest E) (e : E) (n : ℕ) → length (open_elements f) < n → NestsIn f n → NestsIn (push_node f (element e true none none)) n
  push_start none e zero lt h = absurd (omega (arith, lt))
  push_start none e (suc n) lt h = (tt, tt)
  push_start (text s rest) e n lt h = push_start rest e n lt h
  push_start (instruction t c rest) e n lt h = push_start rest e n lt h
  push_start (element x o kids rest) e zero lt h = absurd h
  push_start (element x true kids rest) e (suc n) lt h = (push_start kids e n (omega (arith, lt)) h.0, tt)
  push_start (element x false kids rest) e (suc n) lt h = (h.0, push_start rest e (suc n) lt h.1)

  ended : (b : Bool) (e : E) (kids : Forest E) (n : ℕ) → NestsIn (push_end kids) n → NestsIn kids n → NestsIn (cond b (element e true (push_end kids) none) (element e false kids none)) (suc n)
  ended true e kids n h k = (h, tt)
  ended false e kids n h k = (k, tt)

  push_ends : (f : Forest E) (n : ℕ) → NestsIn f n → NestsIn (push_end f) n
  push_ends none n h = tt
  push_ends (text s rest) n h = push_ends rest n h
  push_ends (instruction t c rest) n h = push_ends rest n h
  push_ends (element e o kids rest) zero h = absurd h
  push_ends (element e true kids rest) (suc n) h = ended (has_open kids) e kids n (push_ends kids n h.0) h.0
  push_ends (element e false kids rest) (suc n) h = (h.0, push_ends rest (suc n) h.1)

-- the same elements, of which something else is known
nests_map : {E F : Type 0} (f : E → F) (t : Forest E) (n : ℕ) → NestsIn t n → NestsIn (map_forest f t) n
nests_map f none n h = tt
nests_map f (text s rest) n h = nests_map f rest n h
nests_map f (instruction t c rest) n h = nests_map f rest n h
nests_map f (element e o kids rest) zero h = absurd h
nests_map f (element e o kids rest) (suc n) h = (nests_map f kids n h.0, nests_map f rest (suc n) h.1)

abbrev Events : Type 0
Events = List (TreeEvent ElementStart)

-- in the tree of these events
abbrev Deep : Events → Type 0
Deep es = NestsIn (tree_of es).content 200

by_tree : (es : Events) (h : TreeEvent ElementStart) → NestsIn (push (tree_of es) h).content 200 → Deep (es ++ h ∷ [])
by_tree es h deep = subst (λ (d : Document ElementStart). NestsIn d.content 200) (sym (tree_of-snoc es h)) deep

deep_text : (es : Events) (s : List ℕ) → Deep es → Deep (es ++ tree.says s ∷ [])
deep_text es s deep = by_tree es (tree.says s) (push_plain (tree_of es).content (text s none) 200 (λ k. tt) deep)

deep_instruction : (es : Events) (t c : List ℕ) → Deep es → Deep (es ++ tree.instructs t c ∷ [])
deep_instruction es t c deep = by_tree es (tree.instructs t c) (push_plain (tree_of es).content (instruction t c none) 200 (λ k. tt) deep)

deep_end : (es : Events) → Deep es → Deep (es ++ tree.ends ∷ [])
deep_end es deep = by_tree es tree.ends (push_ends (tree_of es).content 200 deep)

deep_close : (es : Events) → Deep es → Deep (es ++ tree.closes ∷ [])
deep_close es deep = by_tree es tree.closes deep

deep_start : (es : Events) (e : ElementStart) → length (open_elements (tree_of es).content) < 200 → Deep es → Deep (es ++ tree.starts e ∷ [])
deep_start es e lt deep = by_tree es (tree.starts e) (push_start (tree_of es).content e 200 lt deep)

deep_nothing : (es : Events) → Deep es → Deep (es ++ [])
deep_nothing es deep = subst Deep (sym (append-nil es)) deep

deep_run : (es : Events) (s : List ℕ) (line : ℕ) → Deep es → Deep (es ++ whats (run_in s line))
deep_run es [] line deep = deep_nothing es deep
deep_run es (b ∷ bs) line deep = deep_text es (b ∷ bs) deep

-- something place_behind the run of text
deep_then : (es : Events) (p : Place) (h : TreeEvent ElementStart) → Deep ((es ++ whats (run_of p)) ++ h ∷ []) → Deep (es ++ whats (then_here p h))
deep_then es p h deep =
    subst (λ (q : Events). Deep (es ++ q)) (sym (whats-append (run_of p) (record { what = h; line = suc p.lines } ∷ [])))
    (subst Deep (append_assoc es (whats (run_of p)) (h ∷ [])) deep)

-- ---- lines that are not at fault

own_none : (a n l m : Bool) (o : Option Which) → cond a (Some which.AfterRoot) (cond n (Some which.NoRoot) (cond l (Some which.LooseAttr) (cond m (Some which.EndMismatch) o))) ≡ None → o ≡ None
own_none true n l m o h = absurd (cc)
own_none false true l m o h = absurd (cc)
own_none false false true m o h = absurd (cc)
own_none false false false true o h = absurd (cc)
own_none false false false false o h = h

within_none : (d b c : Bool) (o : Option Which) → cond d (Some which.DoubleAttr) (cond b (Some which.BadAttr) (cond (not c) (Some which.Depth) o)) ≡ None → c ≡ true
within_none true b c o h = absurd (cc)
within_none false true c o h = absurd (cc)
within_none false false true o h = refl
within_none false false false o h = absurd (cc)

few_open : (limits : Limits) (p : Place) (name : List ℕ) → fault_of limits p (starts name) ≡ None → length p.opened < 200
few_open limits p name h =
    let spaces = spaces_of p.attributes in
    let scope = scope_with p p.attributes in
    let rest : Option Which = cond (not (is_bound_prefix scope name && all_bound scope (ordinary p.attributes))) (Some which.UnboundPrefix)
    (cond (has_double (attributes_in scope (ordinary p.attributes))) (Some which.DoubleAttr) None) in
    let own : start_fault limits p name ≡ None =
    own_none (p.conformed || (is_root_closed p && is_of_element (starts name))) (not p.has_root && needs_root (starts name)) (p.is_loose && not (may_follow_attributes (starts name))) (is_mismatch p (starts name))
    (start_fault limits p name) h in
    let test : nat_lt (length p.opened) (most_open limits) ≡ true = within_none (declares_twice spaces) (has_bad spaces) (nat_lt (length p.opened) (most_open limits)) rest own in
    let lt : length p.opened < min limits.depth 200 = ltb-true (length p.opened) (most_open limits) test in
    omega (arith, lt)

deep_line : (limits : Limits) (es : Events) (p : Place) (l : Line) → Nests es p → fault_of limits p l ≡ None → Deep es → Deep (es ++ whats (events_at p l))
deep_line limits es p (starts name) nests fit deep =
    let run = run_follows es p nests in
    let few = few_open limits p name fit in
    deep_then es p (tree.starts (element_begun p name))
    (deep_start (es ++ whats (run_of p)) (element_begun p name) (omega (arith, few, run.stage.depth)) (deep_run es p.text p.text_line deep))
deep_line limits es p (ends name) nests fit deep = deep_then es p tree.ends (deep_end (es ++ whats (run_of p)) (deep_run es p.text p.text_line deep))
deep_line limits es p (has name value) nests fit deep = deep_run es p.text p.text_line deep
deep_line limits es p (lacks name) nests fit deep = deep_run es p.text p.text_line deep
deep_line limits es p (says s) nests fit deep = deep_nothing es deep
deep_line limits es p (instructs s) nests fit deep = deep_then es p (instruction_of s) (deep_instruction (es ++ whats (run_of p)) _ _ (deep_run es p.text p.text_line deep))
deep_line limits es p skips nests fit deep = deep_nothing es deep
deep_line limits es p conforms nests fit deep = deep_run es p.text p.text_line deep

-- the place place_behind a line
one_line : (f : Option Which) (es : Events) (p : Place) (l : Line) → f ≡ None
    → Next es (whats (by_fault p f (put_events (events_at p l) (record { events = []; place = place_behind p l; fault = None }))).events) (by_fault p f (put_events (events_at p l) (record { events = []; place = place_behind p l; fault = None }))).place
    → Nests (es ++ whats (events_at p l)) (place_behind p l)
one_line (Some w) es p l sound next = absurd (cc)
one_line None es p l sound next = subst (λ (here : List Lined). Nests (es ++ whats here) (place_behind p l)) (append-nil (events_at p l)) next.nests

deep_step : (f : Option Which) (es : Events) (p : Place) (here : List Lined) (c : Course) → Deep es → (f ≡ None → Deep ((es ++ whats here) ++ whats c.events)) → Deep (es ++ whats (by_fault p f (put_events here c)).events)
deep_step (Some w) es p here c deep more = deep_nothing es deep
deep_step None es p here c deep more =
    subst (λ (q : Events). Deep (es ++ q)) (sym (whats-append here c.events)) (subst Deep (append_assoc es (whats here) (whats c.events)) (more refl))

deep_course : (limits : Limits) (p : Place) (ls : List Line) (es : Events) → Nests es p → Deep es → Deep (es ++ whats (course limits p ls).events)
deep_course limits p [] es nests deep = deep_nothing es deep
deep_course limits p (l ∷ ls) es nests deep =
    deep_step (fault_of limits p l) es p (events_at p l) (course limits (place_behind p l) ls) deep
    (λ sound. deep_course limits (place_behind p l) ls (es ++ whats (events_at p l))
    (one_line (fault_of limits p l) es p l sound (course_follows limits p (l ∷ []) es nests))
    (deep_line limits es p l nests sound deep))

at_beginning : Nests [] beginning
at_beginning = record { stage = record { going = refl; depth = refl }; loose = λ h. refl; conformed = λ h. refl; quiet = λ l c. refl }

deep_last : (es : Events) (p : Place) (broken e : Bool) → Deep es → Deep (es ++ whats (last_events p broken e))
deep_last es p true e deep = deep_run es p.text p.text_line deep
deep_last es p false false deep = deep_nothing es deep
deep_last es p false true deep =
    subst (λ (q : Events). Deep (es ++ q)) (sym (whats-append (run_of p) (closing p)))
    (subst Deep (append_assoc es (whats (run_of p)) (tree.closes ∷ [])) (deep_close (es ++ whats (run_of p)) (deep_run es p.text p.text_line deep)))

deep_events : (limits : Limits) (b : List ℕ) (ended : Bool) → Deep (whats (events_of limits b ended))
deep_events limits b ended =
    let c = course_of limits b ended in
    let broken = is_some (break_of limits b ended) in
    subst Deep (sym (whats-append c.events (last_events c.place broken ended)))
    (deep_last (whats c.events) c.place broken ended (deep_course limits beginning (reading limits b ended).lines [] at_beginning tt))

-- in the tree of bytes, as it is known
pub happened_nests : (limits : Limits) (b : List ℕ) (ended : Bool) → NestsIn (tree_of (happened limits b ended)).content 200
happened_nests limits b ended =
    subst (λ (d : Document _). NestsIn d.content 200) (sym (tree_of-map started (whats (events_of limits b ended))))
    (nests_map started (tree_of (whats (events_of limits b ended))).content 200 (deep_events limits b ended))
