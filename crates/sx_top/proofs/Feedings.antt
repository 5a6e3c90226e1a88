-- What a feeder stands for, and how that goes on.
use Rattle.std.proofs.Common.{◌≡◌, ◌≢◌, ◌⊎◌, inl, inr, ℕ, zero, suc, ◌^◌, ◌≤◌, Bool, true, false, List, [], ◌∷◌, ◌++◌, length, slice_get, Option, Some, None, is_some, Ok, Err, refl, ap, ap₂, sym, ◌∙◌, subst, append_assoc, append-nil, arith}
use Rattle.std.proofs.lemmas.List.{length-append}
use Rattle.sx_events.specs.Course.{Lined, events_of, break_of, whats, line_behind}
use Rattle.sx_events.specs.Laws.{AllFollow, EventsGrow}
use Rattle.sx_events.specs.Reader as reader
use Rattle.sx_events.specs.declared.event_reader.EventReader.{EventReader}
use Rattle.sx_events.proofs.Growths.{grows, broken_stays}
use Rattle.sx_events.proofs.Nests as nests
use Rattle.sx_limits.specs.declared.faults.DocFault.{DocFault}
use Rattle.sx_limits.specs.declared.limits.Limits.{Limits}
use Rattle.sx_named.specs.Named.{ElementStart, named}
use Rattle.sx_names.specs.Numbering.{NameTable, IsDistinct, KeepsPlaces}
use Rattle.sx_names.proofs.Places.{KeepsPlaces-refl, KeepsPlaces-trans}
use Rattle.sx_reading.specs.Transforming as Written
use Rattle.sx_reading.specs.Transforming.{WrittenFor, OutcomeFor, IsMeaning}
use Rattle.sx_reading.specs.declared.consumer.Outcome.{Outcome}
use Rattle.sx_reading.specs.declared.consumer.Outcome.TheVariants as outcomes
use Rattle.sx_reading.specs.declared.status.Input.{Input}
use Rattle.sx_tree.specs.Events.{MayFollow}
use Rattle.sx_tree.specs.Tree.{TreeEvent, tree_of}
use Rattle.sx_tree.specs.declared.events.Event.{Event}
use Rattle.sx_top.specs.Feeding.{Meaning, written_by, or_broken, outcome_by, AreClosed, AreOrdered, EndIsFinal, IsSteady, lined, ComesNext, Takes, Given, Going, Waiting, BreaksOff, Ended, StandsAt, FeederStands, Feeds}
use Rattle.sx_top.specs.declared.feeding.Feeder.{Feeder}
use Rattle.sx_top.proofs.Comings.{closed_at_end, is_open_same, no_break, no_lines}

-- ---- places in events

front_all : (front rest all : List Lined) → front ++ rest ≡ all → rest ≡ [] → front ≡ all
front_all front rest all parts none = sym (append-nil front) ∙ ap (λ (x : List Lined). front ++ x) (sym none) ∙ parts

empty_if : (rest : List Lined) → length rest ≡ 0 → rest ≡ []
empty_if [] e = refl
empty_if (l ∷ rest) e = absurd (cc)

none_left : (front rest all : List Lined) → front ++ rest ≡ all → length front ≡ length all → rest ≡ []
none_left front rest all parts count = empty_if rest (omega (arith, sym (length-append front rest) ∙ ap length parts, count))

-- what stands at a place, with its line
lined_there : (ls : List Lined) (n : ℕ) (h : TreeEvent ElementStart) → slice_get (whats ls) n ≡ Some h → slice_get ls n ≡ Some (record { what = h; line = line_behind ls (suc n) })
lined_there [] n h at = absurd (cc)
lined_there (l ∷ ls) zero h at =
    let same : l.what ≡ h = cc in
    ap (λ (x : TreeEvent ElementStart). Some (record { what = x; line = l.line })) same
lined_there (l ∷ ls) (suc n) h at = lined_there ls n h at

-- and the rest behind it
rest_there : (front rest : List Lined) (l : Lined) → slice_get (front ++ rest) (length front) ≡ Some l → (more : List Lined) × (rest ≡ l ∷ more)
rest_there [] [] l at = absurd (cc)
rest_there [] (k ∷ rest) l at =
    let same : k ≡ l = cc in
    (rest, ap (λ (x : Lined). x ∷ rest) same)
rest_there (k ∷ front) rest l at = rest_there front rest l at

-- what stands behind a front may follow it
pub follow_there : (p : List (TreeEvent ElementStart)) (front : List Lined) (l : Lined) (rest : List Lined) → AllFollow p (whats (front ++ l ∷ rest)) → MayFollow (p ++ whats front) l.what
follow_there p [] l rest all = subst (λ (q : List (TreeEvent ElementStart)). MayFollow q l.what) (sym (append-nil p)) all.0
follow_there p (k ∷ front) l rest all =
    subst (λ (q : List (TreeEvent ElementStart)). MayFollow q l.what) (append_assoc p (k.what ∷ []) (whats front)) (follow_there (p ++ k.what ∷ []) front l rest all.1)

-- nothing stands behind the close
none_follow : (p hs : List (TreeEvent ElementStart)) → (tree_of p).is_open ≡ false → AllFollow p hs → hs ≡ []
none_follow p [] closed all = refl
none_follow p (h ∷ hs) closed all = absurd (closed_open (sym closed ∙ all.0.not_closed))
  where
    closed_open : false ≡ true → ⊥
    closed_open e = cc

follow_behind : (p : List (TreeEvent ElementStart)) (front rest : List Lined) → AllFollow p (whats (front ++ rest)) → AllFollow (p ++ whats front) (whats rest)
follow_behind p [] rest all = subst (λ (q : List (TreeEvent ElementStart)). AllFollow q (whats rest)) (sym (append-nil p)) all
follow_behind p (k ∷ front) rest all =
    subst (λ (q : List (TreeEvent ElementStart)). AllFollow q (whats rest)) (append_assoc p (k.what ∷ []) (whats front)) (follow_behind (p ++ k.what ∷ []) front rest all.1)

no_whats : (ls : List Lined) → whats ls ≡ [] → ls ≡ []
no_whats [] e = refl
no_whats (l ∷ ls) e = absurd (cc)

-- an event that may follow events that are in order
pub follow_next : (p : List (TreeEvent ElementStart)) (front : List Lined) (l : Lined) → AllFollow p (whats front) → MayFollow (p ++ whats front) l.what → AllFollow p (whats (front ++ l ∷ []))
follow_next p [] l all may = (subst (λ (q : List (TreeEvent ElementStart)). MayFollow q l.what) (append-nil p) may, tt)
follow_next p (k ∷ front) l all may =
    (all.0, follow_next (p ++ k.what ∷ []) front l all.1 (subst (λ (q : List (TreeEvent ElementStart)). MayFollow q l.what) (sym (append_assoc p (k.what ∷ []) (whats front))) may))

pub ordered_next : (front : List Lined) (l : Lined) → AreOrdered front → MayFollow (whats front) l.what → AreOrdered (front ++ l ∷ [])
ordered_next front l all may = follow_next [] front l all may

front_follows : (p : List (TreeEvent ElementStart)) (front rest : List Lined) → AllFollow p (whats (front ++ rest)) → AllFollow p (whats front)
front_follows p [] rest all = tt
front_follows p (k ∷ front) rest all = (all.0, front_follows (p ++ k.what ∷ []) front rest all.1)

-- a front of events that are in order
ordered_front : (front rest : List Lined) → AreOrdered (front ++ rest) → AreOrdered front
ordered_front front rest all = front_follows [] front rest all

pub none_behind : (front rest : List Lined) → AreOrdered (front ++ rest) → AreClosed front → rest ≡ []
none_behind front rest ordered closed = no_whats rest (none_follow (whats front) (whats rest) closed (follow_behind [] front rest ordered))

-- ---- outcomes

or_broken_none : (i : Input) (f : Option DocFault) (x : Option Outcome) → f ≡ None → x ≡ None → None ≡ or_broken i f x
or_broken_none i f x sound none = sym (ap₂ (λ (g : Option DocFault) (y : Option Outcome). or_broken i g y) sound none)

or_broken_fault : (i : Input) (f : Option DocFault) (d : DocFault) (x : Option Outcome) → f ≡ Some d → x ≡ None → Some (outcomes.Broken i d) ≡ or_broken i f x
or_broken_fault i f d x is none = sym (ap₂ (λ (g : Option DocFault) (y : Option Outcome). or_broken i g y) is none)

or_broken_some : (i : Input) (f : Option DocFault) (o : Outcome) (x : Option Outcome) → x ≡ Some o → Some o ≡ or_broken i f x
or_broken_some i None o x is = sym (ap (or_broken i None) is)
or_broken_some i (Some d) o x is = sym (ap (or_broken i (Some d)) is)

or_broken_done : (i : Input) (f : Option DocFault) (x : Option Outcome) → or_broken i f x ≡ Some outcomes.Done → x ≡ Some outcomes.Done
or_broken_done i None None e = absurd (cc)
or_broken_done i (Some d) None e = absurd (cc)
or_broken_done i None (Some o) e = e
or_broken_done i (Some d) (Some o) e = e

or_broken_ends : (i : Input) (f : Option DocFault) (x : Option Outcome) → f ≢ None → or_broken i f x ≢ None
or_broken_ends i None x some e = some refl
or_broken_ends i (Some d) None some e = cc
or_broken_ends i (Some d) (Some o) some e = cc

or_broken_stays : (i : Input) (f : Option DocFault) (x : Option Outcome) → x ≢ None → or_broken i f x ≢ None
or_broken_stays i f None some e = some refl
or_broken_stays i None (Some o) some e = cc
or_broken_stays i (Some d) (Some o) some e = cc

some_not_none : (o : Outcome) (x : Option Outcome) → x ≡ Some o → x ≢ None
some_not_none o x is none = cc

pub ordered : (limits : Limits) (b : List ℕ) (ended : Bool) → AreOrdered (events_of limits b ended)
ordered limits b ended = nests.all_follow limits b ended

-- ---- a meaning of events is one of bytes

module _ (m : Meaning) (steady : IsSteady m) where
  ends_by : (b : List ℕ) (fault : Option DocFault) → break_of m.limits b true ≡ fault → outcome_by m b true ≢ None
  ends_by b (Some f) is = or_broken_ends m.input (break_of m.limits b true) (m.outcome (events_of m.limits b true)) (λ none. some_none (sym is ∙ none))
    where
      some_none : Some f ≡ None → ⊥
      some_none e = cc
  ends_by b None is =
      or_broken_stays m.input (break_of m.limits b true) (m.outcome (events_of m.limits b true))
      (steady.ends (events_of m.limits b true) (ordered m.limits b true)
      (ap (λ (d : _). d.is_open) (nests.closed_where m.limits b true (ap is_some is) refl)))

  -- more bytes only add to what is written
  pub grows_by_bytes : Written.Grows (written_by m)
  grows_by_bytes b d ended =
      let g = grows m.limits b d ended in
      let more = steady.grows (events_of m.limits b false) g.more (subst AreOrdered g.events (ordered m.limits (b ++ d) ended)) in
      (more.0, ap m.written g.events ∙ more.1)

  pub means : m.limits.bytes ≤ 2 ^ 40 → IsMeaning (written_by m) (outcome_by m)
  means most = record {
    grows = grows_by_bytes;
    done = λ b ended e.
        let closed = steady.done (events_of m.limits b ended) (ordered m.limits b ended) (or_broken_done m.input (break_of m.limits b ended) (m.outcome (events_of m.limits b ended)) e) in
        (closed_at_end m.limits b ended (is_open_same m.limits b ended ∙ closed)).0;
    ends = λ b. ends_by b (break_of m.limits b true) refl;
    bounded = λ b ended h. or_broken_ends m.input (break_of m.limits b ended) (m.outcome (events_of m.limits b ended)) (nests.broken_beyond m.limits b ended (omega (arith, most, h)));
  }

-- the same meaning of bytes
means_same : (written same_written : WrittenFor) (outcome same_outcome : OutcomeFor) → ((b : List ℕ) (ended : Bool) → written b ended ≡ same_written b ended)
    → ((b : List ℕ) (ended : Bool) → outcome b ended ≡ same_outcome b ended) → IsMeaning same_written same_outcome → IsMeaning written outcome
means_same written same_written outcome same_outcome writes ends_at m = record {
  grows = λ b d ended.
      let more = m.grows b d ended in
      (more.0, writes (b ++ d) ended ∙ more.1 ∙ ap (λ (x : List ℕ). x ++ more.0) (sym (writes b false)));
  done = λ b ended e. m.done b ended (sym (ends_at b ended) ∙ e);
  ends = λ b e. m.ends b (sym (ends_at b true) ∙ e);
  bounded = λ b ended h e. m.bounded b ended h (sym (ends_at b ended) ∙ e);
}

module _ {T : Type 0} (Stands : T → Meaning → NameTable → List Lined → List ℕ → Type 0) (m : Meaning) where
  -- ---- what was given

  abbrev pub given_of : (o : Option Outcome) (r : Feeder T) (b w : List ℕ) (ended : Bool) → StandsAt Stands m o r b ended w → Given Stands m r.taker r.names b ended w
  given_of None r b w ended s = s.going.given
  given_of (Some o) r b w ended s = s.given

  module _ (steady : IsSteady m) (r : Feeder T) (b w : List ℕ) (ended : Bool) where
    abbrev all : List Lined
    all = events_of m.limits b ended

    -- an end of what was given is that of all events
    end_of_all : (front rest : List Lined) → front ++ rest ≡ all → m.outcome front ≢ None → EndIsFinal m front all
    end_of_all front rest parts some =
        subst (λ (x : List Lined). EndIsFinal m front x) parts
        (steady.final front rest (subst AreOrdered (sym parts) (ordered m.limits b ended)) some)

    pub written_is : (o : Option Outcome) (s : StandsAt Stands m o r b ended w) → m.written (given_of o r b w ended s).front ≡ written_by m b ended
    written_is None s = ap m.written (front_all s.going.given.front s.going.given.rest all s.going.given.parts s.all)
    written_is (Some o) s = by s.end
      where
        by : (m.outcome s.given.front ≡ Some o) ⊎ BreaksOff Stands m o b ended s.given.front s.given.rest → m.written s.given.front ≡ written_by m b ended
        by (inl end) = sym (end_of_all s.given.front s.given.rest s.given.parts (some_not_none o (m.outcome s.given.front) end)).written
        by (inr broke) = ap m.written (front_all s.given.front s.given.rest all s.given.parts broke.all)

    pub outcome_is : (o : Option Outcome) → StandsAt Stands m o r b ended w → o ≡ outcome_by m b ended
    outcome_is None s =
        let same = ap m.outcome (front_all s.going.given.front s.going.given.rest all s.going.given.parts s.all) in
        or_broken_none m.input (break_of m.limits b ended) (m.outcome all) s.sound (sym same ∙ s.going.unended)
    outcome_is (Some o) s = by s.end
      where
        by : (m.outcome s.given.front ≡ Some o) ⊎ BreaksOff Stands m o b ended s.given.front s.given.rest → Some o ≡ outcome_by m b ended
        by (inl end) =
            or_broken_some m.input (break_of m.limits b ended) o (m.outcome all)
            ((end_of_all s.given.front s.given.rest s.given.parts (some_not_none o (m.outcome s.given.front) end)).outcome ∙ end)
        by (inr broke) =
            let same = ap m.outcome (front_all s.given.front s.given.rest all s.given.parts broke.all) in
            ap (λ (x : Outcome). Some x) broke.outcome ∙ or_broken_fault m.input (break_of m.limits b ended) broke.fault (m.outcome all) broke.broken (sym same ∙ broke.unended)

    done_front : (o : Option Outcome) → o ≡ Some outcomes.Done → (s : StandsAt Stands m o r b ended w) → m.outcome (given_of o r b w ended s).front ≡ Some outcomes.Done
    done_front None e s = absurd (cc)
    done_front (Some o) e s = by s.end
      where
        same : o ≡ outcomes.Done
        same = cc

        by : (m.outcome s.given.front ≡ Some o) ⊎ BreaksOff Stands m o b ended s.given.front s.given.rest → m.outcome s.given.front ≡ Some outcomes.Done
        by (inl end) = end ∙ e
        by (inr broke) = absurd (broken_done (sym broke.outcome ∙ same))
          where
            broken_done : outcomes.Broken m.input broke.fault ≡ outcomes.Done → ⊥
            broken_done q = cc

    -- where all is done all events were given
    pub given_whole : (o : Option Outcome) → StandsAt Stands m o r b ended w → o ≡ Some outcomes.Done → (g : Given Stands m r.taker r.names b ended w) × (g.front ≡ all)
    given_whole o s e =
        let g = given_of o r b w ended s in
        let ordered_so = subst AreOrdered (sym g.parts) (ordered m.limits b ended) in
        let closed = steady.done g.front (ordered_front g.front g.rest ordered_so) (done_front o e s) in
        (g, front_all g.front g.rest all g.parts (none_behind g.front g.rest ordered_so closed))

  -- ---- the beginning

  -- a feeder that was fed nothing
  pub fresh : (r : Feeder T) → IsSteady m → m.limits.bytes ≤ 2 ^ 40 → IsDistinct r.names → Stands r.taker m r.names [] []
      → reader.EventsStand r.reader m.limits r.names [] false 0 → r.outcome ≡ m.outcome [] → FeederStands Stands m r [] false []
  fresh r steady most distinct stands reads outcome = record { steady = steady; bounded = most; at = by r.outcome refl }
    where
      given : Given Stands m r.taker r.names [] false []
      given = record { distinct = distinct; known = r.names; keeps = KeepsPlaces-refl r.names; front = []; rest = []; parts = sym (no_lines m.limits); stands = stands }

      by : (o : Option Outcome) → r.outcome ≡ o → StandsAt Stands m o r [] false []
      by None is = record { going = record { given = given; reads = reads; unended = sym outcome ∙ is; outcome = is }; all = refl; sound = no_break m.limits }
      by (Some o) is = record { given = given; end = inl (sym outcome ∙ is) }

  -- ---- the events that a reader gives

  module _ (b w : List ℕ) (ended : Bool) (steady : IsSteady m) (most : m.limits.bytes ≤ 2 ^ 40) (old : Feeder T) (g : Going Stands m old b ended w)
      (names : NameTable) (kept : KeepsPlaces old.names names) (distinct : IsDistinct old.names → IsDistinct names) (r : EventReader) where
    abbrev events : List Lined
    events = events_of m.limits b ended

    abbrev front : List Lined
    front = g.given.front

    -- what was given, by the table that the reader's answer leaves
    abbrev given_kept : Given Stands m old.taker names b ended w
    given_kept = record {
      distinct = distinct g.given.distinct;
      known = g.given.known;
      keeps = KeepsPlaces-trans g.given.known old.names names g.given.keeps kept;
      front = front;
      rest = g.given.rest;
      parts = g.given.parts;
      stands = g.given.stands;
    }

    -- the reader waits for more
    pub after_none : reader.GivesEvent m.limits names b ended (length front) r None
        → FeederStands Stands m (record { reader = r; names = names; taker = old.taker; outcome = old.outcome }) b ended w
    after_none gives =
        subst (λ (o : Option Outcome). FeederStands Stands m (record { reader = r; names = names; taker = old.taker; outcome = o }) b ended w) (sym g.outcome)
        (record {
          steady = steady;
          bounded = most;
          at = record {
            going = record { given = given_kept; reads = gives.2; unended = g.unended; outcome = refl };
            all = none_left front g.given.rest events g.given.parts gives.0;
            sound = gives.1;
          };
        })

    -- the bytes are broken off
    pub after_fault : (i : Input) (f : DocFault) → i ≡ m.input → reader.GivesEvent m.limits names b ended (length front) r (Some (Err f))
        → FeederStands Stands m (record { reader = r; names = names; taker = old.taker; outcome = Some (outcomes.Broken i f) }) b ended w
    after_fault i f is gives = record {
      steady = steady;
      bounded = most;
      at = record {
        given = given_kept;
        end = inr (record {
          all = none_left front g.given.rest events g.given.parts gives.0;
          unended = g.unended;
          fault = f;
          broken = gives.1;
          outcome = ap (λ (x : Input). outcomes.Broken x f) is;
        });
      };
    }

    -- an event comes
    module _ (e : Event) (line : ℕ) (gives : reader.GivesEvent m.limits names b ended (length front) r (Some (Ok e))) (line_is : line ≡ line_behind events (suc (length front)))
        (taker : T) (takes : Takes Stands old.taker taker names e line) (outcome : Option Outcome) where
      abbrev event : Lined
      event = lined names e line

      here : slice_get (front ++ g.given.rest) (length front) ≡ Some event
      here =
          ap (λ (ls : List Lined). slice_get ls (length front)) g.given.parts
          ∙ lined_there events (length front) (named names e) gives.0
          ∙ ap (λ (n : ℕ). Some (record { what = named names e; line = n })) (sym line_is)

      behind : (more : List Lined) × (g.given.rest ≡ event ∷ more)
      behind = rest_there front g.given.rest event here

      parts_are : front ++ event ∷ behind.0 ≡ events
      parts_are = ap (λ (ls : List Lined). front ++ ls) (sym behind.1) ∙ g.given.parts

      comes : ComesNext names front e
      comes = record {
        follows = follow_there [] front event behind.0 (subst AreOrdered (sym parts_are) (ordered m.limits b ended));
        known = gives.1;
      }

      -- it was taken
      abbrev given_next : Given Stands m taker names b ended w
      given_next = record {
        distinct = distinct g.given.distinct;
        known = names;
        keeps = KeepsPlaces-refl names;
        front = front ++ event ∷ [];
        rest = behind.0;
        parts = append_assoc front (event ∷ []) behind.0 ∙ parts_are;
        stands = takes m g.given.known front w given_kept.keeps (distinct g.given.distinct) comes g.given.stands;
      }

      count : length (front ++ event ∷ []) ≡ suc (length front)
      count = length-append front (event ∷ []) ∙ omega arith

      -- where the events end with it, if they do
      next_outcome : ((known : NameTable) (ls : List Lined) → Stands taker m known ls w → outcome ≡ m.outcome ls) → outcome ≡ m.outcome (front ++ event ∷ [])
      next_outcome tells = tells names (front ++ event ∷ []) given_next.stands

      -- they go on
      pub after_event : (after : NameTable) → after ≡ names → ((known : NameTable) (ls : List Lined) → Stands taker m known ls w → outcome ≡ m.outcome ls) → outcome ≡ None
          → Going Stands m (record { reader = r; names = after; taker = taker; outcome = outcome }) b ended w
      after_event after is tells none =
          subst (λ (n : NameTable). Going Stands m (record { reader = r; names = n; taker = taker; outcome = outcome }) b ended w) (sym is)
          (record {
            given = given_next;
            reads = subst (λ (n : ℕ). reader.EventsStand r m.limits names b ended n) (sym count) gives.2;
            unended = sym (next_outcome tells) ∙ none;
            outcome = none;
          })

      -- they end
      pub after_end : (after : NameTable) → after ≡ names → ((known : NameTable) (ls : List Lined) → Stands taker m known ls w → outcome ≡ m.outcome ls) → outcome ≢ None
          → FeederStands Stands m (record { reader = r; names = after; taker = taker; outcome = outcome }) b ended w
      after_end after is tells some =
          subst (λ (n : NameTable). FeederStands Stands m (record { reader = r; names = n; taker = taker; outcome = outcome }) b ended w) (sym is)
          (record { steady = steady; bounded = most; at = by outcome refl })
        where
          by : (o : Option Outcome) → outcome ≡ o → StandsAt Stands m o (record { reader = r; names = names; taker = taker; outcome = outcome }) b ended w
          by None none = absurd (some none)
          by (Some o) now_is = record { given = given_next; end = inl (sym (next_outcome tells) ∙ now_is) }

  -- ---- more bytes

  module _ (old : Feeder T) (b w : List ℕ) (s : FeederStands Stands m old b false w) where
    waiting_at : (o : Option Outcome) → o ≡ None → StandsAt Stands m o old b false w → Waiting Stands m old b false w
    waiting_at None is at = at
    waiting_at (Some o) is at = absurd (cc)

    -- a feeder without an outcome waits
    pub waiting : old.outcome ≡ None → Waiting Stands m old b false w
    waiting none = waiting_at old.outcome none s.at

    -- the reader was fed, or told of the end
    pub fed_more : (none : old.outcome ≡ None) (r : EventReader) (c : List ℕ) (ended : Bool) → (more : List Lined) × (events_of m.limits c ended ≡ events_of m.limits b false ++ more)
        → reader.EventsStand r m.limits old.names c ended (length (waiting none).going.given.front)
        → Going Stands m (record { reader = r; names = old.names; taker = old.taker; outcome = old.outcome }) c ended w
    fed_more none r c ended grow reads =
        let g = (waiting none).going in
        record {
          given = record {
            distinct = g.given.distinct;
            known = g.given.known;
            keeps = g.given.keeps;
            front = g.given.front;
            rest = g.given.rest ++ grow.0;
            parts = sym (append_assoc g.given.front g.given.rest grow.0) ∙ ap (λ (x : List Lined). x ++ grow.0) g.given.parts ∙ sym grow.1;
            stands = g.given.stands;
          };
          reads = reads;
          unended = g.unended;
          outcome = none;
        }

    -- an end stays
    end_stays : (o : Outcome) (d : List ℕ) (ended : Bool) → Ended Stands m old o b false w → Ended Stands m old o (b ++ d) ended w
    end_stays o d ended e = by e.end
      where
        grow : EventsGrow m.limits b d ended
        grow = grows m.limits b d ended

        by : (m.outcome e.given.front ≡ Some o) ⊎ BreaksOff Stands m o b false e.given.front e.given.rest → Ended Stands m old o (b ++ d) ended w
        by (inl end) = record {
          given = record {
            distinct = e.given.distinct;
            known = e.given.known;
            keeps = e.given.keeps;
            front = e.given.front;
            rest = e.given.rest ++ grow.more;
            parts = sym (append_assoc e.given.front e.given.rest grow.more) ∙ ap (λ (x : List Lined). x ++ grow.more) e.given.parts ∙ sym grow.events;
            stands = e.given.stands;
          };
          end = inl end;
        }
        by (inr broke) =
            let stays = broken_stays m.limits b d ended broke.fault broke.broken in
            record {
              given = record {
                distinct = e.given.distinct;
                known = e.given.known;
                keeps = e.given.keeps;
                front = e.given.front;
                rest = e.given.rest;
                parts = e.given.parts ∙ sym stays.events;
                stands = e.given.stands;
              };
              end = inr (record { all = broke.all; unended = broke.unended; fault = broke.fault; broken = stays.stays; outcome = broke.outcome });
            }

    ended_at : (o : Option Outcome) (d : List ℕ) (ended : Bool) → o ≢ None → StandsAt Stands m o old b false w → StandsAt Stands m o old (b ++ d) ended w
    ended_at None d ended some at = absurd (some refl)
    ended_at (Some o) d ended some at = end_stays o d ended at

    -- behind an outcome nothing changes
    pub more_dropped : (d : List ℕ) → old.outcome ≢ None → FeederStands Stands m old (b ++ d) false w
    more_dropped d some = record { steady = s.steady; bounded = s.bounded; at = ended_at old.outcome d false some s.at }

    pub end_dropped : old.outcome ≢ None → FeederStands Stands m old b true w
    end_dropped some =
        subst (λ (c : List ℕ). FeederStands Stands m old c true w) (append-nil b)
        (record { steady = s.steady; bounded = s.bounded; at = ended_at old.outcome [] true some s.at })

  -- ---- what was taken

  -- what is due is counted as taken
  pub cleared : (old : Feeder T) (b w : List ℕ) (ended : Bool) → FeederStands Stands m old b ended w → (taker : T)
      → ((known : NameTable) (ls : List Lined) → Stands old.taker m known ls w → Stands taker m known ls (m.written ls))
      → FeederStands Stands m (record { reader = old.reader; names = old.names; taker = taker; outcome = old.outcome }) b ended (written_by m b ended)
  cleared old b w ended s taker clears = record { steady = s.steady; bounded = s.bounded; at = by old.outcome refl s.at }
    where
      new : Feeder T
      new = record { reader = old.reader; names = old.names; taker = taker; outcome = old.outcome }

      given : (g : Given Stands m old.taker old.names b ended w) → m.written g.front ≡ written_by m b ended
          → Given Stands m taker old.names b ended (written_by m b ended)
      given g is = record {
        distinct = g.distinct;
        known = g.known;
        keeps = g.keeps;
        front = g.front;
        rest = g.rest;
        parts = g.parts;
        stands = subst (λ (v : List ℕ). Stands taker m g.known g.front v) is (clears g.known g.front g.stands);
      }

      by : (o : Option Outcome) → old.outcome ≡ o → StandsAt Stands m o old b ended w → StandsAt Stands m o new b ended (written_by m b ended)
      by None is at = record {
        going = record { given = given at.going.given (written_is s.steady old b w ended None at); reads = at.going.reads; unended = at.going.unended; outcome = is };
        all = at.all;
        sound = at.sound;
      }
      by (Some o) is at = record { given = given at.given (written_is s.steady old b w ended (Some o) at); end = at.end }

pub lines_grow : (limits : Limits) (b d : List ℕ) → (more : List Lined) × (events_of limits (b ++ d) false ≡ events_of limits b false ++ more)
lines_grow limits b d = let g = grows limits b d false in (g.more, g.events)

pub lines_end : (limits : Limits) (b : List ℕ) → (more : List Lined) × (events_of limits b true ≡ events_of limits b false ++ more)
lines_end limits b =
    let g = grows limits b [] true in
    (g.more, ap (λ (c : List ℕ). events_of limits c true) (sym (append-nil b)) ∙ g.events)

-- ---- as a consumer

module _ {T : Type 0} (Stands : T → Meaning → NameTable → List Lined → List ℕ → Type 0) (r : Feeder T) (written : WrittenFor) (outcome : OutcomeFor) (b w : List ℕ) (ended : Bool)
    (f : Feeds Stands r written outcome b ended w) where
  -- what a feeder stands for is a meaning
  pub feeds_meaning : IsMeaning written outcome
  feeds_meaning =
      means_same written (written_by f.meaning) outcome (outcome_by f.meaning) f.writes f.ends_at
      (means f.meaning f.stands.steady f.stands.bounded)

  pub feeds_outcome : r.outcome ≡ outcome b ended
  feeds_outcome = outcome_is Stands f.meaning f.stands.steady r b w ended r.outcome f.stands.at ∙ sym (f.ends_at b ended)

  -- what is due behind what was taken
  pub feeds_output : (due : List ℕ) → ((known : NameTable) (ls : List Lined) → Stands r.taker f.meaning known ls w → w ++ due ≡ f.meaning.written ls) → w ++ due ≡ written b ended
  feeds_output due dues =
      let g = given_of Stands f.meaning r.outcome r b w ended f.stands.at in
      dues g.known g.front g.stands ∙ written_is Stands f.meaning f.stands.steady r b w ended r.outcome f.stands.at ∙ sym (f.writes b ended)

  pub feeds_cleared : (taker : T) → ((known : NameTable) (ls : List Lined) → Stands r.taker f.meaning known ls w → Stands taker f.meaning known ls (f.meaning.written ls))
      → Feeds Stands (record { reader = r.reader; names = r.names; taker = taker; outcome = r.outcome }) written outcome b ended (written b ended)
  feeds_cleared taker clears = record {
    meaning = f.meaning;
    writes = f.writes;
    ends_at = f.ends_at;
    stands = subst (λ (v : List ℕ). FeederStands Stands f.meaning (record { reader = r.reader; names = r.names; taker = taker; outcome = r.outcome }) b ended v) (sym (f.writes b ended))
        (cleared Stands f.meaning r b w ended f.stands taker clears);
  }

pub some_is : (o : Option Outcome) → is_some o ≡ true → o ≢ None
some_is None e none = cc
some_is (Some x) e none = cc

pub none_is : (o : Option Outcome) → is_some o ≡ false → o ≡ None
none_is None e = refl
none_is (Some x) e = absurd (cc)

-- places that two calls keep, where the second leaves this table
pub kept_over : (a b c d : NameTable) → KeepsPlaces a b → KeepsPlaces b c → d ≡ c → KeepsPlaces a d
kept_over a b c d first second is = subst (λ (x : NameTable). KeepsPlaces a x) (sym is) (KeepsPlaces-trans a b c first second)
