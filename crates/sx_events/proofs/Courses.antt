-- The course of lines, one list place_behind the other.
use Rattle.std.proofs.Common.{◌≡◌, ℕ, suc, ◌+◌, List, [], ◌∷◌, ◌++◌, length, Option, Some, None, refl, ap, sym, ◌∙◌, append_assoc, append-nil, arith}
use Rattle.sx_esis.specs.Lines.{Line, starts, ends, has, lacks, says, instructs, skips, conforms}
use Rattle.sx_events.specs.Course.{Lined, Course, course, events_at, place_behind, by_fault, fault_next, put_events}
use Rattle.sx_events.specs.Place.{Place, fault_of}
use Rattle.sx_limits.specs.declared.faults.DocFault.{DocFault}
use Rattle.sx_limits.specs.declared.faults.Which.{Which}
use Rattle.sx_limits.specs.declared.limits.Limits.{Limits}

-- events in front of events
put_twice : (e f : List Lined) (c : Course) → put_events e (put_events f c) ≡ put_events (e ++ f) c
put_twice e f c = ap (λ (x : List Lined). record { events = x; place = c.place; fault = c.fault }) (sym (append_assoc e f c.events))

sound_step : (f : Option Which) (p : Place) (e : List Lined) (c d : Course) (k : Place → Course) →
    (by_fault p f (put_events e c)).fault ≡ None → (c.fault ≡ None → d ≡ put_events c.events (k c.place)) →
    by_fault p f (put_events e d) ≡ put_events (by_fault p f (put_events e c)).events (k (by_fault p f (put_events e c)).place)
sound_step (Some w) p e c d k h more = absurd (cc)
sound_step None p e c d k h more = ap (put_events e) (more h) ∙ put_twice e c.events (k c.place)

-- place_behind lines that are not at fault, more lines go on
pub course-sound : (limits : Limits) (p : Place) (xs ys : List Line) → (course limits p xs).fault ≡ None →
    course limits p (xs ++ ys) ≡ put_events (course limits p xs).events (course limits (course limits p xs).place ys)
course-sound limits p [] ys h = refl
course-sound limits p (x ∷ xs) ys h =
    sound_step (fault_of limits p x) p (events_at p x) (course limits (place_behind p x) xs) (course limits (place_behind p x) (xs ++ ys)) (λ q. course limits q ys) h
    (course-sound limits (place_behind p x) xs ys)

broken_step : (f : Option Which) (p : Place) (e : List Lined) (c d : Course) (g : DocFault) →
    (by_fault p f (put_events e c)).fault ≡ Some g → (c.fault ≡ Some g → d ≡ c) → by_fault p f (put_events e d) ≡ by_fault p f (put_events e c)
broken_step (Some w) p e c d g h more = refl
broken_step None p e c d g h more = ap (put_events e) (more h)

-- place_behind a line that is at fault, more lines change nothing
pub course-broken : (limits : Limits) (p : Place) (xs ys : List Line) (g : DocFault) → (course limits p xs).fault ≡ Some g →
    course limits p (xs ++ ys) ≡ course limits p xs
course-broken limits p [] ys g h = absurd (cc)
course-broken limits p (x ∷ xs) ys g h =
    broken_step (fault_of limits p x) p (events_at p x) (course limits (place_behind p x) xs) (course limits (place_behind p x) (xs ++ ys)) g h
    (course-broken limits (place_behind p x) xs ys g)

pub one_line : (p : Place) (l : Line) → (place_behind p l).lines ≡ suc p.lines
one_line p (starts name) = refl
one_line p (ends name) = refl
one_line p (has name value) = refl
one_line p (lacks name) = refl
one_line p (says s) = refl
one_line p (instructs s) = refl
one_line p skips = refl
one_line p conforms = refl

lines_step : (f : Option Which) (p : Place) (e : List Lined) (c : Course) (n m : ℕ) →
    (by_fault p f (put_events e c)).fault ≡ None → m ≡ suc p.lines → (c.fault ≡ None → c.place.lines ≡ m + n) → (by_fault p f (put_events e c)).place.lines ≡ p.lines + suc n
lines_step (Some w) p e c n m h one more = absurd (cc)
lines_step None p e c n m h one more = let is = more h in omega (arith, is, one)

-- the place counts the lines
pub course-lines : (limits : Limits) (p : Place) (xs : List Line) → (course limits p xs).fault ≡ None → (course limits p xs).place.lines ≡ p.lines + length xs
course-lines limits p [] h = omega arith
course-lines limits p (x ∷ xs) h =
    lines_step (fault_of limits p x) p (events_at p x) (course limits (place_behind p x) xs) (length xs) (place_behind p x).lines h (one_line p x)
    (course-lines limits (place_behind p x) xs)

module _ (limits : Limits) (p : Place) (xs : List Line) (l : Line) (sound : (course limits p xs).fault ≡ None) where
  abbrev here : Place
  here = (course limits p xs).place

  with_fault : (f : Option Which) → fault_of limits here l ≡ f →
      course limits p (xs ++ l ∷ []) ≡ put_events (course limits p xs).events (by_fault here f (put_events (events_at here l) (course limits (place_behind here l) [])))
  with_fault f is =
      course-sound limits p xs (l ∷ []) sound
      ∙ ap (λ (g : Option Which). put_events (course limits p xs).events (by_fault here g (put_events (events_at here l) (course limits (place_behind here l) [])))) is

  -- one line more that is not at fault
  pub course-next : fault_of limits here l ≡ None →
      course limits p (xs ++ l ∷ []) ≡ record { events = (course limits p xs).events ++ events_at here l; place = place_behind here l; fault = None }
  course-next h =
      with_fault None h
      ∙ ap (λ (e : List Lined). record { events = (course limits p xs).events ++ e; place = place_behind here l; fault = None }) (append-nil (events_at here l))

  -- one line more that is at fault
  pub course-fault : (w : Which) → fault_of limits here l ≡ Some w →
      course limits p (xs ++ l ∷ []) ≡ record { events = (course limits p xs).events; place = here; fault = Some (fault_next here w) }
  course-fault w h =
      with_fault (Some w) h
      ∙ ap (λ (e : List Lined). record { events = e; place = here; fault = Some (fault_next here w) }) (append-nil (course limits p xs).events)
