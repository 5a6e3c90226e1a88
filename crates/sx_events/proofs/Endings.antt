-- How the bytes end, where all lines that have come were taken.
use Rattle.std.proofs.Common.{◌≡◌, ℕ, suc, ◌+◌, ◌-◌, ◌<◌, ◌≤◌, ◌^◌, min, Bool, true, false, List, [], ◌∷◌, ◌++◌, length, Option, Some, None, option_map, refl, ap, ap₂, sym, ◌∙◌, subst, arith, append-nil}
use Rattle.sx_esis.specs.Lines as esis
use Rattle.sx_tree.specs.Tree as tree
use Rattle.sx_tree.specs.Tree.{TreeEvent}
use Rattle.sx_tree.specs.declared.events.Event.TheVariants as event
use Rattle.sx_esis.specs.declared.reader.LineReader.{LineReader}
use Rattle.sx_events.specs.Course.{Lined, Course, course_of, reading, looked_at, is_beyond, run_in, run_of, closing, fault_next, break_of, events_of}
use Rattle.sx_events.specs.Pending.{held, held_in, IsKnownIn, IsIdle, AreKnownWaiting, Pends, one_of, count_held}
use Rattle.sx_events.specs.Place.{Place, beginning, end_fault}
use Rattle.sx_events.specs.Reader.{Along, TookAll, Broke, EndsWell, Going, StandsAt, GaveAllEvents, Rests}
use Rattle.sx_events.specs.Standing.{Flushed, events_in}
use Rattle.sx_events.specs.declared.event_reader.Ending.{Ending}
use Rattle.sx_events.specs.declared.event_reader.EventReader.{EventReader}
use Rattle.sx_limits.specs.declared.faults.DocFault.{DocFault}
use Rattle.sx_limits.specs.declared.faults.Which.{Which}
use Rattle.sx_limits.specs.declared.faults.Which.TheVariants as which
use Rattle.sx_limits.specs.declared.limits.Limits.{Limits}
use Rattle.sx_events.specs.declared.pending.Pending.{Pending}
use Rattle.sx_events.specs.declared.pending.Waiting.{Waiting}
use Rattle.sx_events.specs.declared.standing.Standing.{Standing}
use Rattle.sx_events.proofs.Courses.{course-lines}
use Rattle.sx_events.proofs.Growths.{broken_with, events_with, events_broken}
use Rattle.sx_events.proofs.Lines.{held_none}
use Rattle.sx_events.proofs.Looks.{looked-length}
use Rattle.sx_events.proofs.Takings.{flushed_count}
use Rattle.sx_names.specs.Numbering.{NameTable}

module _ (r : LineReader) (s : Standing) (p : Pending) (limits : Limits) (names : NameTable) (b : List ℕ) (ended : Bool) (given line : ℕ)
    (took : TookAll r s p limits names b ended given line) where
  abbrev place : Place
  place = (course_of limits b ended).place

  pub few_looked : length (looked_at limits b) < 2 ^ 62
  few_looked = let small = took.small.bytes in omega (arith, small, looked-length limits b)

  -- the lines that were given are those of the place
  pub last_number : (n : ℕ) → n ≡ length (reading limits b ended).lines → n ≡ place.lines
  last_number n is = let events_in = course-lines limits beginning (reading limits b ended).lines took.sound in omega (arith, events_in, is)

  pub number_behind : (n number : ℕ) → n ≡ length (reading limits b ended).lines → number ≡ min (n + 1) (2 ^ 64 - 1) → number ≡ suc place.lines
  number_behind n number is one =
      let few = few_looked in
      let room = took.reads.room in
      let events_in = last_number n is in
      omega (arith, few, room, events_in, is, one)

  broken_is : (beyond e : Bool) → is_beyond limits b ≡ beyond → ended ≡ e → break_of limits b ended ≡ broken_with None place None beyond e
  broken_is beyond e over told =
      ap₂ (λ (x : Option DocFault) (y : Option esis.Fault). broken_with x place y (is_beyond limits b) ended) took.sound took.whole
      ∙ ap₂ (λ (v w : Bool). broken_with None place None v w) over told

  with_line : (w : Which) (number : ℕ) → number ≡ suc place.lines → Some (fault_next place w) ≡ Some (record { which = w; line = number })
  with_line w number is = ap (λ (n : ℕ). Some (record { which = w; line = n })) (sym is)

  -- the bytes have passed the limit
  pub breaks_beyond : (number : ℕ) → number ≡ suc place.lines → is_beyond limits b ≡ true → break_of limits b ended ≡ Some (record { which = which.Bytes; line = number })
  breaks_beyond number is over = broken_is true ended over refl ∙ with_line which.Bytes number is

  -- the input has ended too early
  pub breaks_short : (w : Which) (number : ℕ) → number ≡ suc place.lines → is_beyond limits b ≡ false → ended ≡ true → end_fault place ≡ Some w → break_of limits b ended ≡ Some (record { which = w; line = number })
  breaks_short w number is within told fault =
      broken_is false true within told ∙ ap (option_map (fault_next place)) fault ∙ with_line w number is

  pub ends_well : is_beyond limits b ≡ false → ended ≡ true → end_fault place ≡ None → break_of limits b ended ≡ None
  ends_well within told sound = broken_is false true within told ∙ ap (option_map (fault_next place)) sound

  pub goes_on : is_beyond limits b ≡ false → ended ≡ false → break_of limits b ended ≡ None
  goes_on within told = broken_is false false within told

  run_is : run_in s.run.text s.run.line ≡ run_of place
  run_is = ap₂ run_in took.knows.text took.knows.text_line

  pub broke : (fault : DocFault) → IsIdle p → break_of limits b ended ≡ Some fault → Broke s p limits names b ended given line fault
  broke fault idle cause = record { cause = cause; run = run_is; idle = idle; pends = took.pends }

  pub well : (last : ℕ) → last ≡ place.lines → IsIdle p → ended ≡ true → break_of limits b ended ≡ None → EndsWell s p limits names b ended given line last
  well last is idle told whole = record { told = told; whole = whole; number = is; run = run_is; idle = idle; pends = took.pends }

  -- it is not known yet how the bytes end
  pub along_all : Along r s p limits names b ended given line
  along_all = record {
    small = took.small;
    front = (reading limits b ended).lines;
    more = [];
    lines = sym (append-nil (reading limits b ended).lines);
    reads = took.reads;
    sound = took.sound;
    knows = took.knows;
    pends = took.pends;
  }

  pub gave_all : IsIdle p → is_beyond limits b ≡ false → ended ≡ false → GaveAllEvents limits b ended given
  gave_all idle within told =
      let none = goes_on within told in
      let events : events_of limits b ended ≡ (course_of limits b ended).events = ap₂ (λ (o : Option DocFault) (e : Bool). events_with (course_of limits b ended) o e) none told ∙ append-nil (course_of limits b ended).events in
      let all = took.pends.splits ∙ ap (λ (es : List Lined). took.pends.front ++ es) (held_none names p idle) ∙ append-nil took.pends.front in
      record { all = sym took.pends.number ∙ sym (ap (λ (es : List Lined). length es) (events ∙ all)); whole = none }

-- ---- what stands where the run of text has been put behind what was given

run_known : (names : NameTable) (old new : Standing) (p q : Pending) → Flushed old new q.text → IsIdle p → q.event ≡ p.event → (held names q ≡ run_in old.run.text old.run.line) × AreKnownWaiting names q
run_known names old new p q flushed idle same =
    let none = same ∙ idle.event in (
      ap₂ (λ (x : List Lined) (o : Option Waiting). x ++ held_in names o) (flushed.waits names).0 none ∙ append-nil (run_in old.run.text old.run.line),
      record { text = (flushed.waits names).1; event = subst (IsKnownIn names) (sym none) tt },
    )

pends_with : (p q : Pending) (names : NameTable) (events here : List Lined) (given line : ℕ) → IsIdle p → held names q ≡ here → AreKnownWaiting names q →
    Pends p names events given line → Pends q names (events ++ here) given line
pends_with p q names events here given line idle is known pends = record {
  front = pends.front;
  number = pends.number;
  splits = ap₂ (λ (x y : List Lined). x ++ y) (pends.splits ∙ ap (λ (x : List Lined). pends.front ++ x) (held_none names p idle) ∙ append-nil pends.front) (sym is);
  known = known;
  last = pends.last;
}

module _ (old new : Standing) (p q : Pending) (limits : Limits) (names : NameTable) (b : List ℕ) (ended : Bool) (given line : ℕ) where
  abbrev c : Course
  c = course_of limits b ended

  pub pends_broken : (fault : DocFault) → Broke old p limits names b ended given line fault → Flushed old new q.text → q.event ≡ p.event → Pends q names (events_of limits b ended) given line
  pends_broken fault broken flushed same =
      let known = run_known names old new p q flushed broken.idle same in
      subst (λ (es : List Lined). Pends q names es given line) (sym (events_broken limits b ended fault broken.cause))
      (pends_with p q names c.events (run_of c.place) given line broken.idle (known.0 ∙ broken.run) known.1 broken.pends)

  pub pends_closed : (last : ℕ) → EndsWell old p limits names b ended given line last → Flushed old new q.text → q.event ≡ Some (record { event = event.Close; line = last }) →
      Pends q names (events_of limits b ended) given line
  pends_closed last well flushed is =
      let here : held names q ≡ run_of c.place ++ closing c.place =
      ap₂ (λ (x : List Lined) (o : Option Waiting). x ++ held_in names o) ((flushed.waits names).0 ∙ well.run) is
      ∙ ap (λ (n : ℕ). run_of c.place ++ record { what = tree.closes; line = n } ∷ []) well.number in
      subst (λ (es : List Lined). Pends q names es given line)
      (sym (ap₂ (λ (o : Option DocFault) (e : Bool). events_with c o e) well.whole well.told))
      (pends_with p q names c.events (run_of c.place ++ closing c.place) given line well.idle here
      (record { text = (flushed.waits names).1; event = subst (IsKnownIn names) (sym is) tt }) well.pends)

module _ (old new : Standing) (p q : Pending) where
  -- no more waits than waited and began
  pub count_flushed : Flushed old new q.text → q.event ≡ p.event → count_held q ≤ events_in old.run p
  count_flushed flushed same =
      let counted = flushed_count old new q.text flushed in
      let text = counted.0 in
      let event : one_of q.event ≡ one_of p.event = ap one_of same in
      omega (arith, text, event)

  pub count_put : (e : Waiting) → Flushed old new q.text → q.event ≡ Some e → count_held q ≤ events_in old.run p + 1
  count_put e flushed is =
      let counted = flushed_count old new q.text flushed in
      let text = counted.0 in
      let event : one_of q.event ≡ 1 = ap one_of is in
      omega (arith, text, event)

module _ (r : EventReader) (limits : Limits) (names : NameTable) (b : List ℕ) (ended : Bool) (given : ℕ) where
  -- it is known how the bytes end
  pub rests_ended : (e : Ending) → r.ending ≡ Some e → StandsAt (Some e) r limits names b ended given → Rests r limits names b ended given
  rests_ended e is stands = record {
    stands = subst (λ (o : Option Ending). StandsAt o r limits names b ended given) (sym is) stands;
    idle = λ idle none. absurd (cc);
  }

  -- it is not known yet
  pub rests_going : r.ending ≡ None → Going r limits names b ended given → (IsIdle r.pending → GaveAllEvents limits b ended given) → Rests r limits names b ended given
  rests_going none going idle = record {
    stands = subst (λ (o : Option Ending). StandsAt o r limits names b ended given) (sym none) going;
    idle = λ quiet _. idle quiet;
  }
