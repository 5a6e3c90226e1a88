-- The start of an element: its faults, and its event.
use Rattle.std.proofs.Common.{◌≡◌, ℕ, Bool, true, false, not, cond, ◌&&◌, ◌||◌, ◌==◌, nat_lt, eq-eqb, List, [], ◌∷◌, length, Some, None, refl, ap, ap₂, sym, ◌∙◌}
use Rattle.std.proofs.lemmas.Bool.{false≢true, eqb-true}
use Rattle.std.proofs.lemmas.Slice.Eq.{bytes_eq-Decides}
use Rattle.sx_names.specs.Numbering.{NameTable, IsDistinct, KeepsPlaces, uri_at, local_at}
use Rattle.sx_names.proofs.Places.{place_of_parts}
use Rattle.sx_named.specs.Named.{Name, Attribute, name_at, attributes_at, is_same_name, IsNumbered, AreNumbered}
use Rattle.sx_tree.specs.Tree as tree
use Rattle.sx_tree.specs.Tree.{TreeEvent}
use Rattle.sx_tree.specs.declared.events.Attr.{Attr}
use Rattle.sx_tree.specs.declared.events.Label.{Label}
use Rattle.sx_tree.specs.declared.events.Space.{Space}
use Rattle.sx_events.specs.Course.{element_begun}
use Rattle.sx_events.specs.Place.{Place, Written, spaces_of, ordinary, scope_with, declares_twice, has_bad, most_open, start_fault, is_bound_prefix, all_bound, element_name, attributes_in, has_name, has_double}
use Rattle.sx_events.specs.Starting.{IsLabelOf, AreAttributesOf, spaces_fault, has_number, has_double_number}
use Rattle.sx_limits.specs.declared.faults.Which.TheVariants as which
use Rattle.sx_limits.specs.declared.limits.Limits.{Limits}
use Rattle.sx_events.proofs.Namings.{label_stays}
use Rattle.sx_names.specs.Scope.{ScopeBindings}

-- ---- two attributes of one name have one number

module _ (names : NameTable) (distinct : IsDistinct names) where
  -- one name, one number
  one_number : (a b : Label) → IsNumbered names a → IsNumbered names b → uri_at names a.number ≡ uri_at names b.number → local_at names a.number ≡ local_at names b.number → a.number ≡ b.number
  one_number a b h k uri local =
      distinct a.number b.number (uri_at names b.number, local_at names b.number)
      (place_of_parts names a.number h ∙ ap₂ (λ (u v : List ℕ). Some (u, v)) uri local) (place_of_parts names b.number k)

  both : (x y : Bool) → (x && y) ≡ true → (x ≡ true) × (y ≡ true)
  both true true h = (refl, refl)
  both true false h = absurd (false≢true h)
  both false y h = absurd (false≢true h)

  same_label : (a b : Label) → IsNumbered names a → IsNumbered names b → (a.number == b.number) ≡ is_same_name (name_at names a) (name_at names b)
  same_label a b h k = by (is_same_name (name_at names a) (name_at names b)) refl
    where
      by : (v : Bool) → is_same_name (name_at names a) (name_at names b) ≡ v → (a.number == b.number) ≡ is_same_name (name_at names a) (name_at names b)
      by true is =
          let parts = both _ _ is in
          eq-eqb a.number b.number (one_number a b h k ((bytes_eq-Decides _ _).0 parts.0) ((bytes_eq-Decides _ _).0 parts.1)) ∙ sym is
      by false is = other (a.number == b.number) refl
        where
          other : (w : Bool) → (a.number == b.number) ≡ w → (a.number == b.number) ≡ is_same_name (name_at names a) (name_at names b)
          other false same = same ∙ sym is
          other true same =
              let one : a.number ≡ b.number = eqb-true a.number b.number same in
              absurd (false≢true (sym is ∙ ap₂ (λ (x y : Bool). x && y)
              ((bytes_eq-Decides (uri_at names a.number) (uri_at names b.number)).1 (ap (uri_at names) one))
              ((bytes_eq-Decides (local_at names a.number) (local_at names b.number)).1 (ap (local_at names) one))))

  same_names : (attrs : List Attr) (l : Label) → AreNumbered names attrs → IsNumbered names l → has_number attrs l.number ≡ has_name (attributes_at names attrs) (name_at names l)
  same_names [] l h k = refl
  same_names (a ∷ attrs) l h k = ap₂ (λ (x y : Bool). x || y) (same_label a.label l h.0 k) (same_names attrs l h.1 k)

  pub same_doubles : (attrs : List Attr) → AreNumbered names attrs → has_double_number attrs ≡ has_double (attributes_at names attrs)
  same_doubles [] h = refl
  same_doubles (a ∷ attrs) h = ap₂ (λ (x y : Bool). x || y) (same_names attrs a.label h.1 h.0) (same_doubles attrs h.1)

-- ---- the faults of a start

after_all : (t b d u v : Bool) → cond t (Some which.DoubleAttr) (cond b (Some which.BadAttr) None) ≡ None → d ≡ false → u ≡ false →
    cond t (Some which.DoubleAttr) (cond b (Some which.BadAttr) (cond d (Some which.Depth) (cond u (Some which.UnboundPrefix) (cond v (Some which.DoubleAttr) None)))) ≡ cond v (Some which.DoubleAttr) None
after_all true b d u v h i j = absurd (cc)
after_all false true d u v h i j = absurd (cc)
after_all false false true u v h i j = absurd (cc)
after_all false false false true v h i j = absurd (cc)
after_all false false false false v h i j = refl

module _ (limits : Limits) (p : Place) (name : List ℕ) (lines : List Written) (declared : List Space) (lines_are : lines ≡ ordinary p.attributes) (declared_are : declared ≡ spaces_of p.attributes)
    (scope : ScopeBindings) (in_force : scope ≡ scope_with p p.attributes)
    (named with_attributes : NameTable) (kept : KeepsPlaces named with_attributes)
    (label : Label) (attrs : List Attr) (it : IsLabelOf named (element_name scope name) label) (all : AreAttributesOf with_attributes (attributes_in scope lines) attrs)
    (spaces : spaces_fault declared ≡ None) (room : not (nat_lt (length p.opened) (most_open limits)) ≡ false)
    (bound : true ≡ is_bound_prefix scope name) (all_are : true ≡ all_bound scope lines)
    (distinct : IsDistinct with_attributes) where
  abbrev scope_here : ScopeBindings
  scope_here = scope_with p p.attributes

  bound_here : not (is_bound_prefix scope_here name && all_bound scope_here (ordinary p.attributes)) ≡ false
  bound_here =
      ap₂ (λ (x y : Bool). not (x && y))
      (ap (λ (s : ScopeBindings). is_bound_prefix s name) (sym in_force) ∙ sym bound)
      (ap₂ all_bound (sym in_force) (sym lines_are) ∙ sym all_are)

  attributes_here : attributes_at with_attributes attrs ≡ attributes_in scope_here (ordinary p.attributes)
  attributes_here = all.are ∙ ap₂ attributes_in in_force lines_are

  pub start_fault_is : (v : Bool) → v ≡ has_double_number attrs → start_fault limits p name ≡ cond v (Some which.DoubleAttr) None
  start_fault_is v is =
      after_all (declares_twice (spaces_of p.attributes)) (has_bad (spaces_of p.attributes)) (not (nat_lt (length p.opened) (most_open limits)))
      (not (is_bound_prefix scope_here name && all_bound scope_here (ordinary p.attributes))) (has_double (attributes_in scope_here (ordinary p.attributes)))
      (ap spaces_fault (sym declared_are) ∙ spaces) room bound_here
      ∙ ap (λ (d : Bool). cond d (Some which.DoubleAttr) None) (ap has_double (sym attributes_here) ∙ sym (same_doubles with_attributes distinct attrs all.known) ∙ sym is)

  pub event_is : tree.starts (record { name = name_at with_attributes label; attributes = attributes_at with_attributes attrs; spaces = declared }) ≡ tree.starts (element_begun p name)
  event_is =
      let stays = label_stays named with_attributes kept (element_name scope name) label it in
      ap₂ (λ (n : Name) (rest : List Attribute). tree.starts (record { name = n; attributes = rest; spaces = declared }))
      (stays.is ∙ ap (λ (s : ScopeBindings). element_name s name) in_force) attributes_here
      ∙ ap (λ (s : List Space). tree.starts (record { name = element_name scope_here name; attributes = attributes_in scope_here (ordinary p.attributes); spaces = s })) declared_are

  pub label_known : IsNumbered with_attributes label
  label_known = (label_stays named with_attributes kept (element_name scope name) label it).known
