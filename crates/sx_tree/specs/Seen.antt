-- What a tree says of one of its nodes (XDM 3.1, 5). Of what is no node it says what it says of an empty text that stands
-- nowhere.
use Rattle.std.specs.Prelude.{ℕ, List, [], length, Option, Some, None}
use Rattle.std.specs.Option.{option_map_or}
use Rattle.sx_tree.specs.declared.events.Label.{Label}
use Rattle.sx_tree.specs.declared.nodes.Kind.{Kind}
use Rattle.sx_tree.specs.declared.nodes.Kind.TheVariants as kind
use Rattle.sx_tree.specs.declared.nodes.Node.{Node}
use Rattle.sx_tree.specs.declared.nodes.Node.TheVariants as node
use Rattle.sx_tree.specs.Places.{Content, document, element, attribute, text, instruction, Places}
use Rattle.sx_tree.specs.TreeView.{first_place, child_places, sibling_places, outer_places, attributes_at, content_at}

-- ---- what it is

abbrev pub kind_of : Content → Kind
kind_of document = kind.Document
kind_of (element e) = kind.Element
kind_of (attribute a) = kind.Attribute
kind_of (text s) = kind.Text
kind_of (instruction target content) = kind.Pi

-- the name of an element or an attribute
abbrev pub label_of : Content → Option Label
label_of document = None
label_of (element e) = Some e.label
label_of (attribute a) = Some a.label
label_of (text s) = None
label_of (instruction target content) = None

-- the target of a processing instruction
abbrev pub target_of : Content → Option (List ℕ)
target_of document = None
target_of (element e) = None
target_of (attribute a) = None
target_of (text s) = None
target_of (instruction target content) = Some target

-- the value of an attribute, the characters of a text, or the content of a processing instruction
abbrev pub text_of : Content → List ℕ
text_of document = []
text_of (element e) = []
text_of (attribute a) = a.value
text_of (text s) = s
text_of (instruction target content) = content

-- the node at a place, or none where there is no place
abbrev pub seen_at : Places → Node → Content
seen_at t n = option_map_or (λ c. c) (content_at t n) (text [])

-- ---- where it stands

abbrev pub node_at : Option ℕ → Option Node
node_at None = None
node_at (Some k) = Some (node.At k)

-- what it stands in; an attribute stands in its element
abbrev pub parent_at : Places → Node → Option Node
parent_at t (node.At k) = node_at (first_place (outer_places t k))
parent_at t (node.Attr k i) = Some (node.At k)

-- its first child
abbrev pub first_child_at : Places → Node → Option Node
first_child_at t (node.At k) = node_at (first_place (child_places t k))
first_child_at t (node.Attr k i) = None

-- the sibling next behind it
abbrev pub next_sibling_at : Places → Node → Option Node
next_sibling_at t (node.At k) = node_at (first_place (sibling_places t k))
next_sibling_at t (node.Attr k i) = None

-- how many attributes it has
abbrev pub attribute_count : Places → Node → ℕ
attribute_count t (node.At k) = length (attributes_at t k)
attribute_count t (node.Attr k i) = 0
