-- Reading a stylesheet's events.
use Rattle.std.proofs.Common.{◌≡◌, ◌≢◌, inl, inr, ℕ, zero, suc, ◌-◌, Bool, true, false, IsTrue, List, [], ◌∷◌, ◌++◌, length, slice_get, get_or, Option, Some, None, is_some, refl, ap, ap₂, sym, ◌∙◌, subst, append-nil, arith, if◌then◌else◌}
use Rattle.std.specs.Option.{option_map_or}
use Rattle.std.proofs.lemmas.Bool.{false≢true}
use Rattle.std.proofs.lemmas.Option.{slice_get_within, slice_get-get_or}
use Rattle.sx_names.specs.Numbering.{NameTable, KeepsPlaces}
use Rattle.sx_tree.specs.declared.events.Attr.{Attr}
use Rattle.sx_tree.specs.declared.events.Label.{Label}
use Rattle.sx_tree.specs.declared.events.Event.{Event}
use Rattle.sx_tree.specs.declared.events.Event.TheVariants as event
use Rattle.sx_named.specs.Named.{Name, Attribute, ElementStart, name_at, attributes_at, named, IsNumbered, AreNumbered, IsKnown}
use Rattle.sx_tree.specs.Tree.{TreeEvent, Document, starts, push, tree_of}
use Rattle.sx_tree.proofs.Open.{tree_of-snoc}
use Rattle.sx_limits.specs.declared.faults.DocFault.{DocFault}
use Rattle.sx_events.specs.Course.{Lined, events_of, break_of, whats}
use Rattle.sx_events.proofs.Growths.{whats-append}
use Rattle.sx_events.proofs.Nests as nests
use Rattle.sx_sheet.specs.declared.reading.LinedEvent.{LinedEvent}
use Rattle.sx_sheet.specs.Tokens.{AreKnownEvents}
use Rattle.sx_reading.specs.Transforming.{nothing_written, whole_outcome}
use Rattle.sx_reading.specs.declared.consumer.Outcome.{Outcome}
use Rattle.sx_reading.specs.declared.consumer.Outcome.TheVariants as outcomes
use Rattle.sx_reading.specs.declared.status.Input.TheVariants as input
use Rattle.sx_reading.proofs.Meanings.{whole_done}
use Rattle.sx_top.specs.Feeding.{Meaning, or_broken, outcome_by, AreOrdered, IsSteady, lined, ComesNext, Feeds}
use Rattle.sx_top.specs.Stylesheet.{sheet_limits, sheet_outcome, lined_at, end_of, collecting, Collects, AreEvents}
use Rattle.sx_top.specs.declared.feeding.Feeder.{Feeder}
use Rattle.sx_top.specs.declared.stylesheet.Collector.{Collector}
use Rattle.sx_top.proofs.Feedings.{ordered_next, follow_there, none_behind, feeds_outcome, given_whole}

abbrev Names : Type 0
Names = NameTable

-- ---- tables that keep their places

module _ (old new : Names) (kept : KeepsPlaces old new) where
  name_kept : (label : Label) → IsNumbered old label → name_at new label ≡ name_at old label
  name_kept label h =
      ap₂ (λ (u l : List ℕ). record { prefix = label.prefix; uri = u; local = l })
      (ap (λ (o : Option (List ℕ × List ℕ)). option_map_or (λ (n : List ℕ × List ℕ). n.0) o []) (kept label.number h))
      (ap (λ (o : Option (List ℕ × List ℕ)). option_map_or (λ (n : List ℕ × List ℕ). n.1) o []) (kept label.number h))

  number_kept : (label : Label) → IsNumbered old label → IsNumbered new label
  number_kept label h = slice_get_within new label.number (get_or old label.number ([], [])) (kept label.number h ∙ slice_get-get_or old label.number ([], []) h)

  numbers_kept : (attrs : List Attr) → AreNumbered old attrs → AreNumbered new attrs
  numbers_kept [] h = tt
  numbers_kept (a ∷ rest) h = (number_kept a.label h.0, numbers_kept rest h.1)

  attributes_kept : (attrs : List Attr) → AreNumbered old attrs → attributes_at new attrs ≡ attributes_at old attrs
  attributes_kept [] h = refl
  attributes_kept (a ∷ rest) h =
      ap₂ (λ (n : Name) (list : List Attribute). record { name = n; value = a.value } ∷ list) (name_kept a.label h.0) (attributes_kept rest h.1)

  -- what an event says stays
  pub named_kept : (e : Event) → IsKnown old e → named new e ≡ named old e
  named_kept (event.Start label attrs spaces) h =
      ap₂ (λ (n : Name) (list : List Attribute). starts (record { name = n; attributes = list; spaces = spaces })) (name_kept label h.0) (attributes_kept attrs h.1)
  named_kept event.End h = refl
  named_kept (event.Text s) h = refl
  named_kept (event.Pi target content) h = refl
  named_kept event.Close h = refl

  -- and the events stay known
  pub known_kept : (e : Event) → IsKnown old e → IsKnown new e
  known_kept (event.Start label attrs spaces) h = (number_kept label h.0, numbers_kept attrs h.1)
  known_kept event.End h = tt
  known_kept (event.Text s) h = tt
  known_kept (event.Pi target content) h = tt
  known_kept event.Close h = tt

  pub lined_kept : (es : List LinedEvent) → AreKnownEvents old es → lined_at new es ≡ lined_at old es
  lined_kept [] h = refl
  lined_kept (e ∷ es) h =
      ap₂ (λ (x : TreeEvent ElementStart) (ls : List Lined). record { what = x; line = e.line } ∷ ls) (named_kept e.event h.0) (lined_kept es h.1)

  pub all_known_kept : (es : List LinedEvent) → AreKnownEvents old es → AreKnownEvents new es
  all_known_kept [] h = tt
  all_known_kept (e ∷ es) h = (known_kept e.event h.0, all_known_kept es h.1)

-- ---- one event more

module _ (names : Names) where
  known_more : (es : List LinedEvent) (e : LinedEvent) → AreKnownEvents names es → IsKnown names e.event → AreKnownEvents names (es ++ e ∷ [])
  known_more [] e h k = (k, tt)
  known_more (d ∷ es) e h k = (h.0, known_more es e h.1 k)

  lined_more : (es : List LinedEvent) (e : LinedEvent) → lined_at names (es ++ e ∷ []) ≡ lined_at names es ++ record { what = named names e.event; line = e.line } ∷ []
  lined_more [] e = refl
  lined_more (d ∷ es) e = ap (λ (ls : List Lined). record { what = named names d.event; line = d.line } ∷ ls) (lined_more es e)

-- ---- the meaning

-- where events end that are or are not open
abbrev at_close : Bool → Option Outcome
at_close is_open = if is_open then None else Some outcomes.Done

closed_by : (is_open : Bool) → at_close is_open ≢ None → is_open ≡ false
closed_by true some = absurd (some refl)
closed_by false some = refl

done_closes : (is_open : Bool) → at_close is_open ≡ Some outcomes.Done → is_open ≡ false
done_closes true e = absurd (cc)
done_closes false e = refl

closed_ends : (is_open : Bool) → is_open ≡ false → at_close is_open ≢ None
closed_ends true e none = absurd (cc)
closed_ends false e none = cc

pub collecting_steady : IsSteady collecting
collecting_steady = record {
  grows = λ front rest ordered. ([], refl);
  final = λ front rest ordered some.
      let whole : front ++ rest ≡ front =
      ap (λ (x : List Lined). front ++ x) (none_behind front rest ordered (closed_by (tree_of (whats front)).is_open some)) ∙ append-nil front in
      record { outcome = ap collecting.outcome whole; written = refl };
  done = λ events ordered e. done_closes (tree_of (whats events)).is_open e;
  ends = λ events ordered closed. closed_ends (tree_of (whats events)).is_open closed;
}

outcome_by_is : (fault : Option DocFault) (ended is_open : Bool) → (is_some fault ≡ true → is_open ≡ true) → (ended ≡ false → is_open ≡ true) → (is_some fault ≡ false → ended ≡ true → is_open ≡ false)
    → whole_outcome input.Sheet fault ended ≡ or_broken input.Sheet fault (at_close is_open)
outcome_by_is (Some f) ended is_open broken going closed = sym (ap (λ (x : Bool). or_broken input.Sheet (Some f) (at_close x)) (broken refl))
outcome_by_is None true is_open broken going closed = sym (ap (λ (x : Bool). or_broken input.Sheet None (at_close x)) (closed refl refl))
outcome_by_is None false is_open broken going closed = sym (ap (λ (x : Bool). or_broken input.Sheet None (at_close x)) (going refl))

-- the bytes of a stylesheet end where its events do, or where they are broken off
pub sheet_outcome_is : (b : List ℕ) (ended : Bool) → sheet_outcome b ended ≡ outcome_by collecting b ended
sheet_outcome_is b ended =
    outcome_by_is (break_of sheet_limits b ended) ended (tree_of (whats (events_of sheet_limits b ended))).is_open
    (λ broken. nests.open_where sheet_limits b ended (inl broken))
    (λ going. nests.open_where sheet_limits b ended (inr going))
    (λ sound told. ap (λ (d : Document ElementStart). d.is_open) (nests.closed_where sheet_limits b ended sound told))

-- ---- what a collector stands for

-- one that has nothing
pub fresh : (c : Collector) (names : Names) → c.events ≡ [] → Collects c collecting names [] []
fresh c names events = record {
  means = refl;
  known = subst (λ (es : List LinedEvent). AreKnownEvents names es) (sym events) tt;
  are = ap (lined_at names) events;
  ordered = tt;
  nothing = refl;
}

-- an event was collected
pub collected : (old new : Collector) (m : Meaning) (known names : Names) (events : List Lined) (w : List ℕ) (e : Event) (line : ℕ)
    → KeepsPlaces known names → ComesNext names events e → Collects old m known events w → new.events ≡ old.events ++ record { event = e; line = line } ∷ []
    → Collects new m names (events ++ lined names e line ∷ []) w
collected old new m known names events w e line kept comes c is = record {
  means = c.means;
  known = subst (λ (es : List LinedEvent). AreKnownEvents names es) (sym is)
      (known_more names old.events (record { event = e; line = line }) (all_known_kept known names kept old.events c.known) comes.known);
  are = ap (lined_at names) is ∙ lined_more names old.events (record { event = e; line = line })
      ∙ ap (λ (ls : List Lined). ls ++ lined names e line ∷ []) (lined_kept known names kept old.events c.known ∙ c.are);
  ordered = ordered_next events (lined names e line) c.ordered comes.follows;
  nothing = c.nothing;
}

last_at : (es : List LinedEvent) (n : ℕ) (x : LinedEvent) → length es ≡ suc n → slice_get es n ≡ Some x → (front : List LinedEvent) × (es ≡ front ++ x ∷ [])
last_at [] n x count at = absurd (cc)
last_at (e ∷ []) zero x count at =
    let same : e ≡ x = cc in
    ([], ap (λ (y : LinedEvent). y ∷ []) same)
last_at (e ∷ []) (suc n) x count at = absurd (cc)
last_at (e ∷ f ∷ es) zero x count at = absurd (omega (arith, count))
last_at (e ∷ f ∷ es) (suc n) x count at =
    let rest = last_at (f ∷ es) n x (omega (arith, count)) at in
    (e ∷ rest.0, ap (λ (ys : List LinedEvent). e ∷ ys) rest.1)

-- where events end is what the last of them says
module _ (names : Names) where
  end_at : (d : Document ElementStart) (e : Event) → d.is_open ≡ true → end_of e ≡ at_close (push d (named names e)).is_open
  end_at d (event.Start label attrs spaces) is = sym (ap at_close is)
  end_at d event.End is = sym (ap at_close is)
  end_at d (event.Text s) is = sym (ap at_close is)
  end_at d (event.Pi target content) is = sym (ap at_close is)
  end_at d event.Close is = refl

  end_behind : (front : List LinedEvent) (e : LinedEvent) → AreOrdered (lined_at names front ++ lined names e.event e.line ∷ [])
      → end_of e.event ≡ collecting.outcome (lined_at names front ++ lined names e.event e.line ∷ [])
  end_behind front e ordered =
      let ls = lined_at names front in
      let l = lined names e.event e.line in
      end_at (tree_of (whats ls)) e.event (follow_there [] ls l [] ordered).not_closed
      ∙ sym (ap (λ (d : Document ElementStart). at_close d.is_open) (ap tree_of (whats-append ls (l ∷ [])) ∙ tree_of-snoc (whats ls) (named names e.event)))

  last_ends : (es : List LinedEvent) (e : LinedEvent) → AreOrdered (lined_at names es) → slice_get es (length es - 1) ≡ Some e → end_of e.event ≡ collecting.outcome (lined_at names es)
  last_ends es e ordered at =
      let within = slice_get_within es (length es - 1) e at in
      let last = last_at es (length es - 1) e (omega (arith, within)) at in
      let is : lined_at names es ≡ lined_at names last.0 ++ lined names e.event e.line ∷ [] = ap (lined_at names) last.1 ∙ lined_more names last.0 e in
      end_behind last.0 e (subst AreOrdered is ordered) ∙ sym (ap collecting.outcome is)

  none_last : (es : List LinedEvent) → slice_get es (length es - 1) ≡ None → None ≡ collecting.outcome (lined_at names es)
  none_last [] at = refl
  none_last (e ∷ es) at = absurd (none_some (sym at ∙ slice_get-get_or (e ∷ es) (length (e ∷ es) - 1) e (omega arith)))
    where
      none_some : None ≡ Some (get_or (e ∷ es) (length (e ∷ es) - 1) e) → ⊥
      none_some q = cc

module _ (c : Collector) (m : Meaning) (names : Names) (events : List Lined) (w : List ℕ) (s : Collects c m names events w) where
  pub input_is : input.Sheet ≡ m.input
  input_is = sym (ap (λ (x : Meaning). x.input) s.means)

  outcome_is : collecting.outcome (lined_at names c.events) ≡ m.outcome events
  outcome_is = ap collecting.outcome s.are ∙ sym (ap (λ (x : Meaning). x.outcome events) s.means)

  ordered_are : AreOrdered (lined_at names c.events)
  ordered_are = subst AreOrdered (sym s.are) s.ordered

  -- where the events end
  pub ends_with : (e : LinedEvent) → slice_get c.events (length c.events - 1) ≡ Some e → end_of e.event ≡ m.outcome events
  ends_with e at = last_ends names c.events e ordered_are at ∙ outcome_is

  pub ends_none : slice_get c.events (length c.events - 1) ≡ None → None ≡ m.outcome events
  ends_none at = none_last names c.events at ∙ outcome_is

  written_is : [] ≡ m.written events
  written_is = sym (ap (λ (x : Meaning). x.written events) s.means)

  -- nothing is written
  pub due_is : w ++ [] ≡ m.written events
  due_is = append-nil w ∙ s.nothing ∙ written_is

  pub cleared : Collects c m names events (m.written events)
  cleared = record { means = s.means; known = s.known; are = s.are; ordered = s.ordered; nothing = sym written_is }

-- ---- the end

-- a feeder whose collector took the whole file has all of its events
pub events_left : (r : Feeder Collector) (b w : List ℕ) (ended : Bool) → IsTrue ended → sheet_outcome b ended ≡ Some outcomes.Done
    → Feeds Collects r nothing_written sheet_outcome b ended w → AreEvents r.names r.taker.events b
events_left r b w false h done f = absurd (false≢true h)
events_left r b w true h done f =
    let whole = given_whole Collects f.meaning f.stands.steady r b w true r.outcome f.stands.at (feeds_outcome Collects r nothing_written sheet_outcome b w true f ∙ done) in
    let g = whole.0 in
    record {
      known = all_known_kept g.known r.names g.keeps r.taker.events g.stands.known;
      sound = (whole_done input.Sheet (break_of sheet_limits b true) true done).1;
      are = lined_kept g.known r.names g.keeps r.taker.events g.stands.known ∙ g.stands.are ∙ whole.1
          ∙ ap (λ (m : Meaning). events_of m.limits b true) g.stands.means;
    }
