-- What a reader stands for after each call.
use Rattle.std.proofs.Common.{◌≡◌, ℕ, zero, suc, Bool, true, false, List, [], ◌∷◌, ◌++◌, length, slice_get, Option, Some, None, Ok, Err, is_some, refl, ap, ap₂, sym, ◌∙◌, subst, append-nil, append_assoc}
use Rattle.std.proofs.lemmas.Bool.{false≢true}
use Rattle.sx_names.specs.Numbering.{NameTable, KeepsPlaces}
use Rattle.sx_named.specs.Named.{ElementStart, named, IsKnown}
use Rattle.sx_tree.specs.Tree.{TreeEvent}
use Rattle.sx_events.specs.Course.{Lined, course, events_of, whats, line_behind}
use Rattle.sx_events.specs.Pending.{held, IsIdle, Pends, GivesWaiting}
use Rattle.sx_events.specs.Place.{beginning}
use Rattle.sx_events.specs.Reader.{Going, BrokenOff, Whole, StandsAt, EventsStand, Rests, GivesEvent}
use Rattle.sx_events.specs.declared.event_reader.Ending.{Ending}
use Rattle.sx_events.specs.declared.event_reader.Ending.TheVariants as ending
use Rattle.sx_events.specs.declared.event_reader.EventReader.{EventReader}
use Rattle.sx_limits.specs.declared.faults.DocFault.{DocFault}
use Rattle.sx_limits.specs.declared.limits.Limits.{Limits}
use Rattle.sx_events.specs.declared.pending.Pending.{Pending}
use Rattle.sx_events.specs.declared.pending.Waiting.{Waiting}
use Rattle.sx_events.proofs.Givings.{front_line}
use Rattle.sx_events.proofs.Growths.{whats-append, events_front}
use Rattle.sx_events.proofs.Lines.{held_none}
use Rattle.sx_events.proofs.Namings.{pends_stay}

-- more events change none that was there
still_there : (xs ys : List (TreeEvent ElementStart)) (n : ℕ) (h : TreeEvent ElementStart) → slice_get xs n ≡ Some h → slice_get (xs ++ ys) n ≡ Some h
still_there [] ys n h is = absurd (cc)
still_there (x ∷ xs) ys zero h is = is
still_there (x ∷ xs) ys (suc n) h is = still_there xs ys n h is

event_there : (events more : List Lined) (n : ℕ) (h : TreeEvent ElementStart) → slice_get (whats events) n ≡ Some h → slice_get (whats (events ++ more)) n ≡ Some h
event_there events more n h is = ap (λ (xs : List (TreeEvent ElementStart)). slice_get xs n) (whats-append events more) ∙ still_there (whats events) (whats more) n h is

-- the line of the last event given
pends_line : (p : Pending) (names : NameTable) (events more : List Lined) (given line : ℕ) → Pends p names events given line → line ≡ line_behind (events ++ more) given
pends_line p names events more given line pends =
    let front = pends.front in
    let rest = held names p ++ more in
    let all : events ++ more ≡ front ++ rest = ap (λ (es : List Lined). es ++ more) pends.splits ∙ append_assoc front (held names p) more in
    pends.last ∙ ap (line_behind front) (sym pends.number) ∙ sym (front_line front rest) ∙ ap₂ line_behind (sym all) pends.number

-- where nothing waits, all was given
gave_length : (p : Pending) (names : NameTable) (events : List Lined) (given line : ℕ) → IsIdle p → Pends p names events given line → given ≡ length events
gave_length p names events given line idle pends =
    sym pends.number ∙ sym (ap (λ (es : List Lined). length es) (pends.splits ∙ ap (λ (es : List Lined). pends.front ++ es) (held_none names p idle) ∙ append-nil pends.front))

-- the same reader with other events that wait
abbrev pub with_pending : EventReader → Pending → ℕ → EventReader
with_pending r p line = record { limits = r.limits; lines = r.lines; standing = r.standing; pending = p; total = r.total; ended = r.ended; ending = r.ending; line = line; spent = r.spent }

module _ (r : EventReader) (limits : Limits) (names : NameTable) (b : List ℕ) (ended : Bool) (given : ℕ) where
  line_at : (o : Option Ending) → StandsAt o r limits names b ended given → r.line ≡ line_behind (events_of limits b ended) given
  line_at None s =
      let a = s.along in
      let more = events_front limits b ended a.front a.more a.lines a.sound in
      pends_line r.pending names (course limits beginning a.front).events more.0 given r.line a.pends ∙ ap (λ (es : List Lined). line_behind es given) (sym more.1)
  line_at (Some (ending.Broken fault)) s =
      pends_line r.pending names (events_of limits b ended) [] given r.line s.pends ∙ ap (λ (es : List Lined). line_behind es given) (append-nil (events_of limits b ended))
  line_at (Some ending.Whole) s =
      pends_line r.pending names (events_of limits b ended) [] given r.line s.pends ∙ ap (λ (es : List Lined). line_behind es given) (append-nil (events_of limits b ended))

  -- the line of the last event given
  pub line_is : EventsStand r limits names b ended given → r.line ≡ line_behind (events_of limits b ended) given
  line_is s = line_at r.ending s

  pub going_of : r.ending ≡ None → EventsStand r limits names b ended given → Going r limits names b ended given
  going_of none s = subst (λ (o : Option Ending). StandsAt o r limits names b ended given) none s

  pub stands_going : r.ending ≡ None → Going r limits names b ended given → EventsStand r limits names b ended given
  stands_going none s = subst (λ (o : Option Ending). StandsAt o r limits names b ended given) (sym none) s

  -- where it is known how the bytes end, the reader has read on
  pub rests_known : is_some r.ending ≡ true → EventsStand r limits names b ended given → Rests r limits names b ended given
  rests_known known s = record { stands = s; idle = λ idle none. absurd (false≢true (sym (ap is_some none) ∙ known)) }

  module _ (p : Pending) (w : Waiting) (next : (events : List Lined) (line : ℕ) → Pends r.pending names events given line → GivesWaiting p names events given w) where
    gives_at : (o : Option Ending) → StandsAt o r limits names b ended given →
        (slice_get (whats (events_of limits b ended)) given ≡ Some (named names w.event)) × IsKnown names w.event × StandsAt o (with_pending r p w.line) limits names b ended (suc given)
    gives_at None s =
        let a = s.along in
        let events = (course limits beginning a.front).events in
        let more = events_front limits b ended a.front a.more a.lines a.sound in
        let g = next events r.line a.pends in (
          ap (λ (es : List Lined). slice_get (whats es) given) more.1 ∙ event_there events more.0 given (named names w.event) g.next,
          g.known,
          record {
            counted = record { same = s.counted.same; total = s.counted.total; told = s.counted.told };
            along = record { small = a.small; front = a.front; more = a.more; lines = a.lines; reads = a.reads; sound = a.sound; knows = a.knows; pends = g.pends };
          },
        )
    gives_at (Some (ending.Broken fault)) s =
        let g = next (events_of limits b ended) r.line s.pends in
        (g.next, g.known, record { broken = s.broken; pends = g.pends })
    gives_at (Some ending.Whole) s =
        let g = next (events_of limits b ended) r.line s.pends in
        (g.next, g.known, record { told = s.told; whole = s.whole; pends = g.pends })

    -- an event that waited is given
    pub gives_event : Rests r limits names b ended given → GivesEvent limits names b ended given (with_pending r p w.line) (Some (Ok w.event))
    gives_event rests = gives_at r.ending rests.stands

  -- nothing waits, and it is not known how the bytes end
  pub gives_none : IsIdle r.pending → r.ending ≡ None → Rests r limits names b ended given → GivesEvent limits names b ended given r None
  gives_none idle none rests =
      let all = rests.idle idle none in
      (all.all, all.whole, rests.stands)

  -- nothing waits, and the bytes are broken off
  pub gives_fault : (fault : DocFault) → IsIdle r.pending → r.ending ≡ Some (ending.Broken fault) → Rests r limits names b ended given → GivesEvent limits names b ended given r (Some (Err fault))
  gives_fault fault idle is rests =
      let s : BrokenOff r limits names b ended given fault = subst (λ (o : Option Ending). StandsAt o r limits names b ended given) is rests.stands in
      (gave_length r.pending names (events_of limits b ended) given r.line idle s.pends, s.broken, rests.stands)

  -- nothing waits, and the bytes have ended well
  pub gives_nothing : IsIdle r.pending → r.ending ≡ Some ending.Whole → Rests r limits names b ended given → GivesEvent limits names b ended given r None
  gives_nothing idle is rests =
      let s : Whole r limits names b ended given = subst (λ (o : Option Ending). StandsAt o r limits names b ended given) is rests.stands in
      (gave_length r.pending names (events_of limits b ended) given r.line idle s.pends, s.whole, rests.stands)

pub no_ending : (o : Option Ending) → is_some o ≡ false → o ≡ None
no_ending None h = refl
no_ending (Some e) h = absurd (false≢true (sym h))

-- more names change nothing
kept_at : (o : Option Ending) (r : EventReader) (limits : Limits) (old new : NameTable) (b : List ℕ) (ended : Bool) (given : ℕ) → KeepsPlaces old new → StandsAt o r limits old b ended given → StandsAt o r limits new b ended given
kept_at None r limits old new b ended given kept s =
    let a = s.along in
    record {
      counted = s.counted;
      along = record {
        small = a.small;
        front = a.front;
        more = a.more;
        lines = a.lines;
        reads = a.reads;
        sound = a.sound;
        knows = a.knows;
        pends = pends_stay old new kept r.pending (course limits beginning a.front).events given r.line a.pends;
      };
    }
kept_at (Some (ending.Broken fault)) r limits old new b ended given kept s = record { broken = s.broken; pends = pends_stay old new kept r.pending (events_of limits b ended) given r.line s.pends }
kept_at (Some ending.Whole) r limits old new b ended given kept s = record { told = s.told; whole = s.whole; pends = pends_stay old new kept r.pending (events_of limits b ended) given r.line s.pends }

-- What a reader stands for by some names it stands for by all that keep their places.
pub stands_kept : (r : EventReader) (limits : Limits) (old new : NameTable) (b : List ℕ) (ended : Bool) (given : ℕ) → KeepsPlaces old new → EventsStand r limits old b ended given → EventsStand r limits new b ended given
stands_kept r limits old new b ended given kept s = kept_at r.ending r limits old new b ended given kept s
