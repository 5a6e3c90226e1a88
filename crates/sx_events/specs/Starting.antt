-- The start of an element.
use Rattle.std.specs.Prelude.{◌≡◌, ℕ, Bool, false, ◌||◌, ◌==◌, List, [], ◌∷◌, Option, Some, None, Result, Ok, Err, if◌then◌else◌}
use Rattle.sx_named.specs.Named.{Name, Attribute, named, name_at, attributes_at, IsNumbered, AreNumbered, IsKnown}
use Rattle.sx_tree.specs.Tree as tree
use Rattle.sx_tree.specs.declared.events.Attr.{Attr}
use Rattle.sx_tree.specs.declared.events.Event.{Event}
use Rattle.sx_tree.specs.declared.events.Label.{Label}
use Rattle.sx_tree.specs.declared.events.Space.{Space}
use Rattle.sx_events.specs.Course.{element_begun}
use Rattle.sx_events.specs.Place.{Place, scope_with, start_fault, declares_twice, has_bad}
use Rattle.sx_events.specs.Standing.{HoldsOpen}
use Rattle.sx_events.specs.declared.elements.Elements.{Elements}
use Rattle.sx_limits.specs.declared.faults.Which.{Which}
use Rattle.sx_limits.specs.declared.faults.Which.TheVariants as which
use Rattle.sx_limits.specs.declared.limits.Limits.{Limits}
use Rattle.sx_names.specs.Numbering.{NameTable}

-- what is at fault with the declarations of an element
abbrev pub spaces_fault : List Space → Option Which
spaces_fault spaces = if declares_twice spaces then Some which.DoubleAttr else if has_bad spaces then Some which.BadAttr else None

-- a label is this name by this table
pub record IsLabelOf (names : NameTable) (name : Name) (label : Label) : Type 0 where
  pub is : name_at names label ≡ name
  pub known : IsNumbered names label

-- attributes are these by this table
pub record AreAttributesOf (names : NameTable) (attributes : List Attribute) (attrs : List Attr) : Type 0 where
  pub are : attributes_at names attrs ≡ attributes
  pub known : AreNumbered names attrs

-- one of these attributes has this number
abbrev pub has_number : List Attr → ℕ → Bool
has_number [] number = false
has_number (a ∷ rest) number = a.label.number == number || has_number rest number

-- two of these attributes have one number
abbrev pub has_double_number : List Attr → Bool
has_double_number [] = false
has_double_number (a ∷ rest) = has_number rest a.label.number || has_double_number rest

-- the start of an element of this name, or what is at fault with it
abbrev pub BeginsElement : Limits → Place → List ℕ → NameTable → Elements → Result Event Which → Type 0
BeginsElement limits p name names new (Err w) = start_fault limits p name ≡ Some w
BeginsElement limits p name names new (Ok e) =
    (start_fault limits p name ≡ None) × (named names e ≡ tree.starts (element_begun p name)) × IsKnown names e
    × HoldsOpen new (name ∷ p.opened) × (new.scope ≡ scope_with p p.attributes)
