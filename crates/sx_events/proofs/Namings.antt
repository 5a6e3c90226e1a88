-- What labels, attributes and events are called, where the table of names has grown.
use Rattle.std.proofs.Common.{◌≡◌, ℕ, ◌<◌, Bool, true, false, ◌&&◌, ◌||◌, List, [], ◌∷◌, ◌++◌, length, slice_get, Option, Some, None, refl, ap, ap₂, sym, ◌∙◌, subst}
use Rattle.sx_names.specs.Numbering.{NameTable, IsDistinct, KeepsPlaces, uri_at, local_at}
use Rattle.sx_names.proofs.Places.{KeepsPlaces-trans, place_stays, within_stays, place_of_parts, uri_at-place, local_at-place}
use Rattle.sx_named.specs.Named.{Name, Attribute, ElementStart, name_at, attribute_at, attributes_at, IsNumbered, AreNumbered, IsKnown, named}
use Rattle.sx_tree.specs.Tree as tree
use Rattle.sx_tree.specs.Tree.{TreeEvent}
use Rattle.sx_tree.specs.declared.events.Attr.{Attr}
use Rattle.sx_tree.specs.declared.events.Event.{Event}
use Rattle.sx_tree.specs.declared.events.Event.TheVariants as event
use Rattle.sx_tree.specs.declared.events.Label.{Label}
use Rattle.sx_events.specs.Course.{Lined}
use Rattle.sx_events.specs.Pending.{held_in, held, IsKnownIn, AreKnownWaiting, Pends}
use Rattle.sx_events.specs.Place.{Written, all_bound, attributes_in, is_bound_prefix, is_empty, attribute_name}
use Rattle.sx_events.specs.Starting.{IsLabelOf, AreAttributesOf}
use Rattle.sx_events.specs.declared.pending.Pending.{Pending}
use Rattle.sx_events.specs.declared.pending.Waiting.{Waiting}
use Rattle.sx_chars.specs.Names.{prefix_of}
use Rattle.sx_names.specs.Scope.{ScopeBindings}

module _ (old new : NameTable) (kept : KeepsPlaces old new) where
  parts_stay : (n : ℕ) → n < length old → slice_get new n ≡ Some (uri_at old n, local_at old n)
  parts_stay n h = place_stays old new kept n (uri_at old n, local_at old n) (place_of_parts old n h)

  pub numbered_stays : (l : Label) → IsNumbered old l → IsNumbered new l
  numbered_stays l h = within_stays old new kept l.number h

  pub name_stays : (l : Label) → IsNumbered old l → name_at new l ≡ name_at old l
  name_stays l h =
      ap₂ (λ (u v : List ℕ). record { prefix = l.prefix; uri = u; local = v })
      (uri_at-place new l.number (uri_at old l.number) (local_at old l.number) (parts_stay l.number h))
      (local_at-place new l.number (uri_at old l.number) (local_at old l.number) (parts_stay l.number h))

  pub attributes_stay : (attrs : List Attr) → AreNumbered old attrs → (attributes_at new attrs ≡ attributes_at old attrs) × AreNumbered new attrs
  attributes_stay [] h = (refl, tt)
  attributes_stay (a ∷ attrs) h =
      let more = attributes_stay attrs h.1 in (
        ap₂ (λ (n : Name) (rest : List Attribute). record { name = n; value = a.value } ∷ rest) (name_stays a.label h.0) more.0,
        (numbered_stays a.label h.0, more.1),
      )

  -- an event says the same by the table that has grown
  pub named_stays : (e : Event) → IsKnown old e → (named new e ≡ named old e) × IsKnown new e
  named_stays (event.Start label attrs spaces) h =
      let more = attributes_stay attrs h.1 in (
        ap₂ (λ (n : Name) (rest : List Attribute). tree.starts (record { name = n; attributes = rest; spaces = spaces })) (name_stays label h.0) more.0,
        (numbered_stays label h.0, more.1),
      )
  named_stays event.End h = (refl, tt)
  named_stays (event.Text s) h = (refl, tt)
  named_stays (event.Pi target content) h = (refl, tt)
  named_stays event.Close h = (refl, tt)

  pub label_stays : (n : Name) (l : Label) → IsLabelOf old n l → IsLabelOf new n l
  label_stays n l it = record { is = name_stays l it.known ∙ it.is; known = numbered_stays l it.known }

  pub attributes_of_stay : (all_named : List Attribute) (attrs : List Attr) → AreAttributesOf old all_named attrs → AreAttributesOf new all_named attrs
  attributes_of_stay all_named attrs all =
      let more = attributes_stay attrs all.known in
      record { are = more.0 ∙ all.are; known = more.1 }

  held_in_stays : (w : Option Waiting) → IsKnownIn old w → (held_in new w ≡ held_in old w) × IsKnownIn new w
  held_in_stays None h = (refl, tt)
  held_in_stays (Some w) h =
      let more = named_stays w.event h in
      (ap (λ (what : TreeEvent ElementStart). record { what = what; line = w.line } ∷ []) more.0, more.1)

  pub held_stays : (p : Pending) → AreKnownWaiting old p → (held new p ≡ held old p) × AreKnownWaiting new p
  held_stays p h =
      let text = held_in_stays p.text h.text in
      let event = held_in_stays p.event h.event in
      (ap₂ (λ (x y : List Lined). x ++ y) text.0 event.0, record { text = text.1; event = event.1 })

  -- what waits, waits by the table that has grown
  pub pends_stay : (p : Pending) (events : List Lined) (given line : ℕ) → Pends p old events given line → Pends p new events given line
  pends_stay p events given line pends =
      let more = held_stays p pends.known in
      record {
        front = pends.front;
        number = pends.number;
        splits = pends.splits ∙ ap (λ (x : List Lined). pends.front ++ x) (sym more.0);
        known = more.1;
        last = pends.last;
      }

-- ---- the names of attributes

-- These attribute lines have bound prefixes, and are these attributes.
pub record Resolved (old new : NameTable) (scope : ScopeBindings) (lines : List Written) (attrs : List Attr) : Type 0 where
  pub bound : all_bound scope lines ≡ true
  pub named : AreAttributesOf new (attributes_in scope lines) attrs
  pub kept : KeepsPlaces old new
  pub distinct : IsDistinct old → IsDistinct new

all_bound-append : (scope : ScopeBindings) (ls : List Written) (w : Written) (more : List Written) → all_bound scope ls ≡ true →
    all_bound scope (ls ++ w ∷ more) ≡ ((is_empty (prefix_of w.name) || is_bound_prefix scope w.name) && all_bound scope more)
all_bound-append scope [] w more h = refl
all_bound-append scope (l ∷ ls) w more h = step (is_empty (prefix_of l.name) || is_bound_prefix scope l.name) (all_bound scope ls) h (all_bound-append scope ls w more)
  where
    step : (v a : Bool) {r s : Bool} → (v && a) ≡ true → (a ≡ true → r ≡ s) → (v && r) ≡ s
    step true a e is = is e
    step false a e is = absurd (cc)

attributes_in-append : (scope : ScopeBindings) (ls : List Written) (w : Written) →
    attributes_in scope (ls ++ w ∷ []) ≡ attributes_in scope ls ++ record { name = attribute_name scope w.name; value = w.value } ∷ []
attributes_in-append scope [] w = refl
attributes_in-append scope (l ∷ ls) w = ap (λ (xs : List Attribute). record { name = attribute_name scope l.name; value = l.value } ∷ xs) (attributes_in-append scope ls w)

attributes_at-append : (names : NameTable) (attrs : List Attr) (a : Attr) → AreNumbered names attrs → IsNumbered names a.label →
    (attributes_at names (attrs ++ a ∷ []) ≡ attributes_at names attrs ++ attribute_at names a ∷ []) × AreNumbered names (attrs ++ a ∷ [])
attributes_at-append names [] a h k = (refl, (k, tt))
attributes_at-append names (b ∷ attrs) a h k =
    let more = attributes_at-append names attrs a h.1 k in
    (ap (λ (xs : List Attribute). attribute_at names b ∷ xs) more.0, (h.0, more.1))

module _ (old mid new : NameTable) (scope : ScopeBindings) (ls : List Written) (attrs : List Attr) (w : Written) (so_far : Resolved old mid scope ls attrs) where
  abbrev is_resolved : List ℕ → Bool
  is_resolved name = is_empty (prefix_of name) || is_bound_prefix scope name

  -- an attribute line more
  pub resolved_next : (name : List ℕ) (label : Label) (more : List Attr) → name ≡ w.name → KeepsPlaces mid new → (IsDistinct mid → IsDistinct new) →
      true ≡ is_resolved name → IsLabelOf new (attribute_name scope name) label →
      more ≡ attrs ++ record { label = label; value = w.value } ∷ [] → Resolved old new scope (ls ++ w ∷ []) more
  resolved_next name label more same kept distinct is_bound names is =
      let bound : true ≡ is_resolved w.name = is_bound ∙ ap is_resolved same in
      let it : IsLabelOf new (attribute_name scope w.name) label = subst (λ (n : List ℕ). IsLabelOf new (attribute_name scope n) label) same names in
      let before = attributes_of_stay mid new kept (attributes_in scope ls) attrs so_far.named in
      let next = attributes_at-append new attrs (record { label = label; value = w.value }) before.known it.known in
      record {
        bound = all_bound-append scope ls w [] so_far.bound ∙ ap (λ (v : Bool). v && true) (sym bound);
        named = record {
          are = ap (attributes_at new) is ∙ next.0
              ∙ ap₂ (λ (xs : List Attribute) (n : Name). xs ++ record { name = n; value = w.value } ∷ []) before.are it.is
              ∙ sym (attributes_in-append scope ls w);
          known = subst (AreNumbered new) (sym is) next.1;
        };
        kept = KeepsPlaces-trans old mid new so_far.kept kept;
        distinct = λ d. distinct (so_far.distinct d);
      }

  -- a prefix that is not bound
  pub unbound : (name : List ℕ) (lines rest : List Written) → name ≡ w.name → lines ≡ ls ++ w ∷ rest → false ≡ is_resolved name → false ≡ all_bound scope lines
  unbound name lines rest same is bound =
      sym (ap (all_bound scope) is ∙ all_bound-append scope ls w rest so_far.bound ∙ ap (λ (v : Bool). v && all_bound scope rest) (sym (bound ∙ ap is_resolved same)))
