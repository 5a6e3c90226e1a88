-- What a reader stands for place_behind one line more.
use Rattle.std.proofs.Common.{◌≡◌, ℕ, suc, ◌+◌, ◌-◌, ◌<◌, ◌^◌, min, Bool, List, [], ◌∷◌, ◌++◌, length, slice_get, Option, Some, None, ap, ap₂, sym, ◌∙◌, subst, arith, append_assoc, append-nil, length-append}
use Rattle.sx_esis.specs.Gives.{GivesFault, GaveAllLines}
use Rattle.sx_esis.specs.Lines as esis
use Rattle.sx_esis.specs.Lines.{Line, Reading}
use Rattle.sx_esis.specs.declared.faults.LineFault.{LineFault}
use Rattle.sx_esis.specs.declared.faults.LineWhich.{LineWhich}
use Rattle.sx_esis.specs.declared.reader.LineReader.{LineReader}
use Rattle.sx_names.specs.Numbering.{NameTable, KeepsPlaces}
use Rattle.sx_events.specs.Course.{Lined, Course, course, course_of, events_at, place_behind, by_fault, fault_next, put_events, reading, looked_at, is_beyond, run_in, run_of, which_of}
use Rattle.sx_events.specs.Pending.{held, held_in, IsIdle, AreKnownWaiting, Pends}
use Rattle.sx_events.specs.Place.{Place, beginning, fault_of}
use Rattle.sx_events.specs.Reader.{TakesLines, Along, TookAll, Broke}
use Rattle.sx_events.specs.Standing.{Knows, Took}
use Rattle.sx_limits.specs.declared.faults.DocFault.{DocFault}
use Rattle.sx_limits.specs.declared.faults.Which.{Which}
use Rattle.sx_limits.specs.declared.limits.Limits.{Limits}
use Rattle.sx_events.specs.declared.pending.Pending.{Pending}
use Rattle.sx_events.specs.declared.pending.Waiting.{Waiting}
use Rattle.sx_events.specs.declared.run.Run.{Run}
use Rattle.sx_events.specs.declared.standing.Standing.{Standing}
use Rattle.sx_events.proofs.Courses.{course-next, course-lines}
use Rattle.sx_events.proofs.Growths.{course_front, broken_with}
use Rattle.sx_events.proofs.Looks.{looked-length}
use Rattle.sx_events.proofs.Namings.{pends_stay}

-- where all were counted, nothing comes place_behind
front_all : (lines front more : List Line) → lines ≡ front ++ more → length front ≡ length lines → front ≡ lines
front_all lines front [] is same = sym (is ∙ append-nil front)
front_all lines front (x ∷ more) is same =
    let count = ap (λ (ls : List Line). length ls) is in
    absurd (omega (arith, count, same, length-append front (x ∷ more)))

-- the line place_behind others
front_next : (front more : List Line) (l : Line) → slice_get (front ++ more) (length front) ≡ Some l → (rest : List Line) × (more ≡ l ∷ rest)
front_next [] [] l h = absurd (cc)
front_next [] (x ∷ more) l h = (more, cc)
front_next (y ∷ front) more l h = front_next front more l h

pub held_none : (names : NameTable) (p : Pending) → IsIdle p → held names p ≡ []
held_none names p idle = ap₂ (λ (x y : Option Waiting). held_in names x ++ held_in names y) idle.text idle.event

-- where nothing waited, what waits now are the events that came
pends_more : (old new : Pending) (names more : NameTable) (events here : List Lined) (given line : ℕ) → IsIdle old → held more new ≡ here → AreKnownWaiting more new →
    Pends old names events given line → Pends new more (events ++ here) given line
pends_more old new names more events here given line idle is known pends = record {
  front = pends.front;
  number = pends.number;
  splits = ap₂ (λ (x y : List Lined). x ++ y) (pends.splits ∙ ap (λ (x : List Lined). pends.front ++ x) (held_none names old idle) ∙ append-nil pends.front) (sym is);
  known = known;
  last = pends.last;
}

module _ (r : LineReader) (s : Standing) (p : Pending) (limits : Limits) (names : NameTable) (b : List ℕ) (ended : Bool) (given line : ℕ)
    (along : Along r s p limits names b ended given line) where
  abbrev front : List Line
  front = along.front

  abbrev place : Place
  place = (course limits beginning front).place

  -- so few bytes that each line's number is exact
  pub few_bytes : length (looked_at limits b) < 2 ^ 62
  few_bytes = let small = along.small.bytes in omega (arith, small, looked-length limits b)

  pub next_number : (n number : ℕ) → n ≡ length front → number ≡ min (n + 1) (2 ^ 64 - 1) → number ≡ suc place.lines
  next_number n number is one =
      let few = few_bytes in
      let room = along.reads.room in
      let count = course-lines limits beginning front along.sound in
      omega (arith, few, room, count, is, one)

  all_front : length front ≡ length (reading limits b ended).lines → front ≡ (reading limits b ended).lines
  all_front same = front_all (reading limits b ended).lines front along.more along.lines same

  -- all lines were taken
  pub took_all : (new : LineReader) → GaveAllLines (reading limits b ended) (length front) → TakesLines new limits b ended (length front) → TookAll new s p limits names b ended given line
  took_all new gave reads =
      let all = all_front gave.all in
      record {
        small = along.small;
        whole = gave.sound;
        reads = subst (λ (n : ℕ). TakesLines new limits b ended n) gave.all reads;
        sound = subst (λ (ls : List Line). (course limits beginning ls).fault ≡ None) all along.sound;
        knows = subst (λ (ls : List Line). Knows s (course limits beginning ls).place) all along.knows;
        pends = subst (λ (ls : List Line). Pends p names (course limits beginning ls).events given line) all along.pends;
      }

  run_is : run_in s.run.text s.run.line ≡ run_of place
  run_is = ap₂ run_in along.knows.text along.knows.text_line

  -- the next line cannot be read
  pub took_unreadable : (f : LineFault) (w : Which) → IsIdle p → w ≡ which_of f.which → GivesFault (reading limits b ended) (looked_at limits b) (length front) f →
      Broke s p limits names b ended given line (record { which = w; line = f.line })
  took_unreadable f w idle is gives =
      let all = all_front gives.all in
      let sound : (course_of limits b ended).fault ≡ None = subst (λ (ls : List Line). (course limits beginning ls).fault ≡ None) all along.sound in
      let known : LineWhich → ℕ → Option DocFault = λ (v : LineWhich) (n : ℕ). Some (record { which = which_of v; line = n }) in
      record {
        cause =
            ap₂ (λ (x : Option DocFault) (y : Option esis.Fault). broken_with x (course_of limits b ended).place y (is_beyond limits b) ended) sound gives.met
            ∙ ap₂ known (sym gives.which) (sym (gives.line few_bytes))
            ∙ ap (λ (v : Which). Some (record { which = v; line = f.line })) (sym is);
        run = subst (λ (ls : List Line). run_in s.run.text s.run.line ≡ run_of (course limits beginning ls).place) all run_is;
        idle = idle;
        pends = subst (λ (ls : List Line). Pends p names (course limits beginning ls).events given line) all along.pends;
      }

  module _ (l : Line) (next : slice_get (reading limits b ended).lines (length front) ≡ Some l) where
    rest : (rest : List Line) × (along.more ≡ l ∷ rest)
    rest = front_next front along.more l (ap (λ (ls : List Line). slice_get ls (length front)) (sym along.lines) ∙ next)

    -- one line more was taken
    pub took_line : (new : LineReader) (s' : Standing) (p' : Pending) (names' : NameTable) → IsIdle p → TakesLines new limits b ended (length front + 1) →
        fault_of limits place l ≡ None → Took s' names' p' place l → Along new s' p' limits names' b ended given line
    took_line new s' p' names' idle reads sound took =
        let is = course-next limits beginning front l along.sound sound in
        record {
          small = along.small;
          front = front ++ l ∷ [];
          more = rest.0;
          lines = along.lines ∙ ap (λ (ls : List Line). front ++ ls) rest.1 ∙ sym (append_assoc front (l ∷ []) rest.0);
          reads = subst (λ (n : ℕ). TakesLines new limits b ended n) (sym (length-append front (l ∷ []))) reads;
          sound = ap (λ (c : Course). c.fault) is;
          knows = subst (Knows s') (sym (ap (λ (c : Course). c.place) is)) took.knows;
          pends = subst (λ (es : List Lined). Pends p' names' es given line) (sym (ap (λ (c : Course). c.events) is))
              (pends_more p p' names names' (course limits beginning front).events (events_at place l) given line idle took.events took.known along.pends);
        }

    stopped : (w : Which) → fault_of limits place l ≡ Some w → course_of limits b ended ≡ record { events = (course limits beginning front).events; place = place; fault = Some (fault_next place w) }
    stopped w at_fault =
        let c = course limits beginning front in
        course_front limits b ended front along.more along.lines along.sound
        ∙ ap (λ (ls : List Line). put_events c.events (course limits place ls)) rest.1
        ∙ ap (λ (f : Option Which). put_events c.events (by_fault place f (put_events (events_at place l) (course limits (place_behind place l) rest.0)))) at_fault
        ∙ ap (λ (es : List Lined). record { events = es; place = place; fault = Some (fault_next place w) }) (append-nil c.events)

    -- one line more is at fault
    pub took_fault : (s' : Standing) (p' : Pending) (names' : NameTable) (w : Which) (number : ℕ) → IsIdle p → number ≡ suc place.lines → fault_of limits place l ≡ Some w →
        s'.run ≡ s.run → p' ≡ p → KeepsPlaces names names' → Broke s' p' limits names' b ended given line (record { which = w; line = number })
    took_fault s' p' names' w number idle is at_fault run same kept =
        let stop = stopped w at_fault in
        record {
          cause =
              ap (λ (c : Course). broken_with c.fault c.place (reading limits b ended).fault (is_beyond limits b) ended) stop
              ∙ ap (λ (n : ℕ). Some (record { which = w; line = n })) (sym is);
          run = ap (λ (x : Run). run_in x.text x.line) run ∙ run_is ∙ ap (λ (c : Course). run_of c.place) (sym stop);
          idle = subst IsIdle (sym same) idle;
          pends = subst (λ (q : Pending). Pends q names' (course_of limits b ended).events given line) (sym same)
              (subst (λ (c : Course). Pends p names' c.events given line) (sym stop) (pends_stay names names' kept p (course limits beginning front).events given line along.pends));
        }
