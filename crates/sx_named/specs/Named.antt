-- Names written out, where events have the numbers that a table gives them.
use Rattle.std.specs.Prelude.{ℕ, ◌<◌, Bool, ◌&&◌, bytes_eq, List, [], ◌∷◌, length, map}
use Rattle.sx_names.specs.Numbering.{NameTable, uri_at, local_at}
use Rattle.sx_tree.specs.declared.events.Label.{Label}
use Rattle.sx_tree.specs.declared.events.Attr.{Attr}
use Rattle.sx_tree.specs.declared.events.Space.{Space}
use Rattle.sx_tree.specs.declared.events.Event.{Event}
use Rattle.sx_tree.specs.declared.events.Event.TheVariants as event
use Rattle.sx_tree.specs.Events.{Element}
use Rattle.sx_tree.specs.Mapping.{map_event}
use Rattle.sx_tree.specs.Tree.{TreeEvent, starts, ends, says, instructs, closes}

-- a name: its prefix, its namespace and its local name (Namespaces in XML 1.0, 2.1); an empty namespace is none
pub record Name : Type 0 where
  pub prefix : List ℕ
  pub uri : List ℕ
  pub local : List ℕ

-- two names have the same namespace and local name, whatever their prefixes are
abbrev pub is_same_name : Name → Name → Bool
is_same_name a b = bytes_eq a.uri b.uri && bytes_eq a.local b.local

-- an attribute: its name and its value
pub record Attribute : Type 0 where
  pub name : Name
  pub value : List ℕ

-- what a tree knows of an element: its name and its attributes (XDM 3.1, 6.2); what it declares is no part of a tree
pub record NamedElement : Type 0 where
  pub name : Name
  pub attributes : List Attribute

-- the start of an element, as it is read: its name, its attributes, and the namespaces that it declares
pub record ElementStart : Type 0 where
  pub name : Name
  pub attributes : List Attribute
  pub spaces : List Space

-- the element that starts
abbrev pub started : ElementStart → NamedElement
started s = record { name = s.name; attributes = s.attributes }

-- events as a tree knows them, without declarations of namespaces
abbrev pub in_tree : TreeEvent ElementStart → TreeEvent NamedElement
in_tree = map_event started

abbrev pub all_in_tree : List (TreeEvent ElementStart) → List (TreeEvent NamedElement)
all_in_tree events = map in_tree events

module _ (names : NameTable) where
  -- the name of a label, by this table of names
  abbrev pub name_at : Label → Name
  name_at label = record { prefix = label.prefix; uri = uri_at names label.number; local = local_at names label.number }

  abbrev pub attribute_at : Attr → Attribute
  attribute_at attr = record { name = name_at attr.label; value = attr.value }

  abbrev pub attributes_at : List Attr → List Attribute
  attributes_at [] = []
  attributes_at (a ∷ rest) = attribute_at a ∷ attributes_at rest

  -- the element with its names written out
  abbrev pub named_element : Element → NamedElement
  named_element e = record { name = name_at e.label; attributes = attributes_at e.attrs }

  -- what an event says, by this table of names
  abbrev pub named : Event → TreeEvent ElementStart
  named (event.Start label attrs spaces) = starts (record { name = name_at label; attributes = attributes_at attrs; spaces = spaces })
  named event.End = ends
  named (event.Text s) = says s
  named (event.Pi target content) = instructs target content
  named event.Close = closes

  -- the same as a tree knows it
  abbrev pub named_in_tree : Event → TreeEvent NamedElement
  named_in_tree e = in_tree (named e)

  -- the table has the name of a label
  abbrev pub IsNumbered : Label → Type 0
  IsNumbered label = label.number < length names

  -- the table has the names of attributes
  abbrev pub AreNumbered : List Attr → Type 0
  AreNumbered [] = Unit {0}
  AreNumbered (a ∷ rest) = IsNumbered a.label × AreNumbered rest

  -- the table has the names in an event
  abbrev pub IsKnown : Event → Type 0
  IsKnown (event.Start label attrs spaces) = IsNumbered label × AreNumbered attrs
  IsKnown event.End = Unit {0}
  IsKnown (event.Text s) = Unit {0}
  IsKnown (event.Pi target content) = Unit {0}
  IsKnown event.Close = Unit {0}
