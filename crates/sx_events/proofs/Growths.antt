-- More bytes only add events, and where bytes are broken off they change nothing.
use Rattle.std.proofs.Common.{◌≡◌, ℕ, Bool, true, false, not, ◌&&◌, List, [], ◌∷◌, ◌++◌, Option, Some, None, is_some, refl, ap, ap₂, sym, ◌∙◌, append_assoc, append-nil}
use Rattle.sx_esis.specs.Lines as esis
use Rattle.sx_esis.specs.Lines.{Line, Reading, lines_of}
use Rattle.sx_esis.proofs.Grow.{reading_grows, fault_stays}
use Rattle.sx_named.specs.Named.{ElementStart, in_tree, all_in_tree}
use Rattle.std.proofs.lemmas.List.{map-append}
use Rattle.sx_tree.specs.Tree.{TreeEvent}
use Rattle.sx_events.specs.Course.{Lined, Course, course, course_of, reading, is_beyond, or_else, last_fault, last_events, run_of, break_of, events_of, whats, put_events}
use Rattle.sx_events.specs.Laws.{EventsGrow, StaysBroken}
use Rattle.sx_events.specs.Place.{Place, beginning}
use Rattle.sx_limits.specs.declared.faults.DocFault.{DocFault}
use Rattle.sx_limits.specs.declared.limits.Limits.{Limits}
use Rattle.sx_events.proofs.Courses.{course-sound, course-broken}
use Rattle.sx_events.proofs.Looks.{looks_within, looks_more, stays_beyond, reading_beyond}

pub whats-append : (xs ys : List Lined) → whats (xs ++ ys) ≡ whats xs ++ whats ys
whats-append [] ys = refl
whats-append (x ∷ xs) ys = ap (λ (hs : List (TreeEvent ElementStart)). x.what ∷ hs) (whats-append xs ys)

-- the break and the events of a course, by what is read behind it
abbrev pub broken_with : Option DocFault → Place → Option esis.Fault → Bool → Bool → Option DocFault
broken_with fault p f beyond ended = or_else fault (last_fault p f beyond ended)

abbrev pub events_with : Course → Option DocFault → Bool → List Lined
events_with c broken ended = c.events ++ last_events c.place (is_some broken) ended

-- a fault in front of the end of the input stays
last_stays : (fault : Option DocFault) (p : Place) (f : Option esis.Fault) (beyond ended : Bool) (g : DocFault) →
    broken_with fault p f beyond false ≡ Some g → broken_with fault p f beyond ended ≡ Some g
last_stays (Some x) p f beyond ended g h = h
last_stays None p (Some x) beyond ended g h = h
last_stays None p None true ended g h = h
last_stays None p None false ended g h = absurd (cc)

-- where bytes are broken off
pub events_broken : (limits : Limits) (b : List ℕ) (ended : Bool) (g : DocFault) → break_of limits b ended ≡ Some g →
    events_of limits b ended ≡ (course_of limits b ended).events ++ run_of (course_of limits b ended).place
events_broken limits b ended g h = ap (λ (o : Option DocFault). events_with (course_of limits b ended) o ended) h

-- the course of lines in front of others
pub course_front : (limits : Limits) (b : List ℕ) (ended : Bool) (front more : List Line) → (reading limits b ended).lines ≡ front ++ more →
    (course limits beginning front).fault ≡ None →
    course_of limits b ended ≡ put_events (course limits beginning front).events (course limits (course limits beginning front).place more)
course_front limits b ended front more is sound = ap (course limits beginning) is ∙ course-sound limits beginning front more sound

-- the events of the first lines are the first events
pub events_front : (limits : Limits) (b : List ℕ) (ended : Bool) (front more : List Line) → (reading limits b ended).lines ≡ front ++ more →
    (course limits beginning front).fault ≡ None →
    (rest : List Lined) × (events_of limits b ended ≡ (course limits beginning front).events ++ rest)
events_front limits b ended front more is sound =
    let c = course limits beginning front in
    let d = course limits c.place more in
    let rest : List Lined = last_events d.place (is_some (break_of limits b ended)) ended in (
      d.events ++ rest,
      ap (λ (k : Course). events_with k (break_of limits b ended) ended) (course_front limits b ended front more is sound) ∙ append_assoc c.events d.events rest,
    )

module _ (limits : Limits) (b d : List ℕ) (ended : Bool) where
  -- more bytes add lines
  pub lines_grow : (more : List Line) × ((reading limits (b ++ d) ended).lines ≡ (reading limits b false).lines ++ more)
  lines_grow = by (is_beyond limits b) refl
    where
      by : (v : Bool) → is_beyond limits b ≡ v → (more : List Line) × ((reading limits (b ++ d) ended).lines ≡ (reading limits b false).lines ++ more)
      by true h = ([], ap (λ (r : Reading). r.lines) (reading_beyond limits b d ended h) ∙ sym (append-nil (reading limits b false).lines))
      by false h =
          let w = looks_more limits b d h in
          let at_end = ended && not (is_beyond limits (b ++ d)) in
          let m = reading_grows limits.line b w.0 at_end in (
            m.0,
            ap (λ (x : List ℕ). (lines_of limits.line x at_end).lines) w.1 ∙ m.1
                ∙ ap (λ (x : List ℕ). (lines_of limits.line x false).lines ++ m.0) (sym (looks_within limits b h)),
          )

  -- a line that cannot be read stays so
  pub reading_stays : (f : esis.Fault) → (reading limits b false).fault ≡ Some f → reading limits (b ++ d) ended ≡ reading limits b false
  reading_stays f fault = by (is_beyond limits b) refl
    where
      by : (v : Bool) → is_beyond limits b ≡ v → reading limits (b ++ d) ended ≡ reading limits b false
      by true h = reading_beyond limits b d ended h
      by false h =
          let w = looks_more limits b d h in
          let at_end = ended && not (is_beyond limits (b ++ d)) in
          let here : lines_of limits.line b false ≡ reading limits b false = ap (λ (x : List ℕ). lines_of limits.line x false) (sym (looks_within limits b h)) in
          ap (λ (x : List ℕ). lines_of limits.line x at_end) w.1
          ∙ fault_stays limits.line b w.0 at_end f (ap (λ (r : Reading). r.fault) here ∙ fault)
          ∙ here

  abbrev old : Course
  old = course_of limits b false

  -- where the lines read are the same
  same_reading : (g : DocFault) → reading limits (b ++ d) ended ≡ reading limits b false → is_beyond limits (b ++ d) ≡ is_beyond limits b →
      break_of limits b false ≡ Some g → break_of limits (b ++ d) ended ≡ Some g
  same_reading g same beyond h =
      ap₂ (λ (r : Reading) (v : Bool). broken_with (course limits beginning r.lines).fault (course limits beginning r.lines).place r.fault v ended) same beyond
      ∙ last_stays old.fault old.place (reading limits b false).fault (is_beyond limits b) ended g h

  -- the first cause of a break
  data Cause : Type 0 where
    at_line : (g : DocFault) → old.fault ≡ Some g → Cause
    unreadable : old.fault ≡ None → (f : esis.Fault) → (reading limits b false).fault ≡ Some f → Cause
    past : is_beyond limits b ≡ true → Cause

  cause : (fault : Option DocFault) (f : Option esis.Fault) (beyond : Bool) → old.fault ≡ fault → (reading limits b false).fault ≡ f → is_beyond limits b ≡ beyond →
      (g : DocFault) → broken_with fault old.place f beyond false ≡ Some g → Cause
  cause (Some x) f beyond i j k g h = at_line x i
  cause None (Some x) beyond i j k g h = unreadable i x j
  cause None None true i j k g h = past k
  cause None None false i j k g h = absurd (cc)

  same_course : (g : DocFault) → old.fault ≡ Some g → course_of limits (b ++ d) ended ≡ old
  same_course g h = ap (course limits beginning) lines_grow.1 ∙ course-broken limits beginning (reading limits b false).lines lines_grow.0 g h

  -- what both come to
  same_events : (g : DocFault) → course_of limits (b ++ d) ended ≡ old → break_of limits b false ≡ Some g → break_of limits (b ++ d) ended ≡ Some g → StaysBroken limits b d ended g
  same_events g same h k = record {
    stays = k;
    events = events_broken limits (b ++ d) ended g k ∙ ap (λ (c : Course). c.events ++ run_of c.place) same ∙ sym (events_broken limits b false g h);
  }

  stays_by : (g : DocFault) → break_of limits b false ≡ Some g → Cause → StaysBroken limits b d ended g
  stays_by g h (at_line x is) =
      let same = same_course x is in
      let rest : Course → Option DocFault = λ (c : Course). broken_with c.fault c.place (reading limits (b ++ d) ended).fault (is_beyond limits (b ++ d)) ended in
      let first : (f : Option DocFault) → f ≡ Some x → broken_with f old.place (reading limits b false).fault (is_beyond limits b) false ≡ Some g → broken_with f old.place (reading limits (b ++ d) ended).fault (is_beyond limits (b ++ d)) ended ≡ Some g =
      λ (f : Option DocFault) (e : f ≡ Some x) (k : broken_with f old.place (reading limits b false).fault (is_beyond limits b) false ≡ Some g).
      ap (λ (o : Option DocFault). broken_with o old.place (reading limits (b ++ d) ended).fault (is_beyond limits (b ++ d)) ended) e
      ∙ ap (λ (o : Option DocFault). broken_with o old.place (reading limits b false).fault (is_beyond limits b) false) (sym e) ∙ k in
      same_events g same h (ap rest same ∙ first old.fault is h)
  stays_by g h (unreadable sound f is) =
      let same = reading_stays f is in
      let line : (v w : Bool) → broken_with None old.place (Some f) v ended ≡ broken_with None old.place (Some f) w false = λ (v w : Bool). refl in
      same_events g (ap (λ (r : Reading). course limits beginning r.lines) same) h (
      ap (λ (r : Reading). broken_with (course limits beginning r.lines).fault (course limits beginning r.lines).place r.fault (is_beyond limits (b ++ d)) ended) same
      ∙ ap₂ (λ (o : Option DocFault) (x : Option esis.Fault). broken_with o old.place x (is_beyond limits (b ++ d)) ended) sound is
      ∙ line (is_beyond limits (b ++ d)) (is_beyond limits b)
      ∙ ap₂ (λ (o : Option DocFault) (x : Option esis.Fault). broken_with o old.place x (is_beyond limits b) false) (sym sound) (sym is)
      ∙ h
      )
  stays_by g h (past is) =
      let same = reading_beyond limits b d ended is in
      same_events g (ap (λ (r : Reading). course limits beginning r.lines) same) h (same_reading g same (stays_beyond limits b d is ∙ sym is) h)

  -- bytes that are broken off stay so
  pub broken_stays : (g : DocFault) → break_of limits b false ≡ Some g → StaysBroken limits b d ended g
  broken_stays g h = stays_by g h (cause old.fault (reading limits b false).fault (is_beyond limits b) refl refl refl g h)

  grown : (more : List Lined) → events_of limits (b ++ d) ended ≡ events_of limits b false ++ more → EventsGrow limits b d ended
  grown more is =
      let read = ap whats is ∙ whats-append (events_of limits b false) more in
      record {
        more = more;
        events = is;
        read = read;
        in_tree = ap all_in_tree read ∙ map-append in_tree (whats (events_of limits b false)) (whats more);
      }

  no_fault : (fault : Option DocFault) (p : Place) (f : Option esis.Fault) (beyond at_end : Bool) → broken_with fault p f beyond at_end ≡ None → fault ≡ None
  no_fault None p f beyond at_end h = refl
  no_fault (Some x) p f beyond at_end h = absurd (cc)

  -- more bytes only add events
  pub grows : EventsGrow limits b d ended
  grows = by (break_of limits b false) refl
    where
      by : (o : Option DocFault) → break_of limits b false ≡ o → EventsGrow limits b d ended
      by (Some g) h = grown [] ((broken_stays g h).events ∙ sym (append-nil (events_of limits b false)))
      by None h =
          let sound : old.fault ≡ None = no_fault old.fault old.place (reading limits b false).fault (is_beyond limits b) false h in
          let more = events_front limits (b ++ d) ended (reading limits b false).lines lines_grow.0 lines_grow.1 sound in
          let events : events_of limits b false ≡ old.events = ap (λ (o : Option DocFault). events_with old o false) h ∙ append-nil old.events in
          grown more.0 (more.1 ∙ ap (λ (x : List Lined). x ++ more.0) (sym events))
