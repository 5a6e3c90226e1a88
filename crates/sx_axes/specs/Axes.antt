-- The nodes of an axis, and where they end (XPath 3.1, 3.3.2.1 and 3.3.2.2).
use Rattle.std.specs.Prelude.{ℕ, suc, ◌+◌, Bool, true, false, ◌||◌, nat_lt, nat_eq, bytes_eq, List, [], ◌∷◌, ◌++◌, length, map, Option, Some, None, if◌then◌else◌}
use Rattle.std.specs.Option.{option_map_or}
use Rattle.sx_axes.specs.declared.ends.SelEnd.{SelEnd}
use Rattle.sx_axes.specs.declared.ends.SelEnd.TheVariants as end
use Rattle.sx_names.specs.Numbering.{NameTable, uri_at, local_at}
use Rattle.sx_tree.specs.declared.events.Label.{Label}
use Rattle.sx_tree.specs.declared.nodes.Node.{Node}
use Rattle.sx_tree.specs.declared.nodes.Node.TheVariants as node
use Rattle.sx_tree.specs.declared.steps.Axis.{Axis}
use Rattle.sx_tree.specs.declared.steps.Axis.TheVariants as axis
use Rattle.sx_tree.specs.declared.steps.NodeTest.{NodeTest}
use Rattle.sx_tree.specs.declared.steps.NodeTest.TheVariants as test
use Rattle.sx_tree.specs.Places.{Content, document, element, attribute, text, instruction, Places}
use Rattle.sx_tree.specs.TreeView.{places_that, first_place, inside, child_places, inside_places, outer_places, is_open_place, attributes_at, content_at}

-- ---- nodes

-- the nodes at places
abbrev pub at_places : List ℕ → List Node
at_places [] = []
at_places (k ∷ ks) = node.At k ∷ at_places ks

-- the attributes of the element at a place, from this number on, so many
abbrev pub attribute_nodes : ℕ → ℕ → List Label → List Node
attribute_nodes k i [] = []
attribute_nodes k i (a ∷ as') = node.Attr k i ∷ attribute_nodes k (suc i) as'

abbrev pub attributes : Places → ℕ → List Node
attributes t k = attribute_nodes k 0 (map (λ a. a.label) (attributes_at t k))

-- the place of a node's parent, if it has one
abbrev pub parent_place : Places → Node → Option ℕ
parent_place t (node.At k) = first_place (outer_places t k)
parent_place t (node.Attr k i) = Some k

-- this place, if there is one, as a list
abbrev pub as_list : Option ℕ → List ℕ
as_list None = []
as_list (Some k) = k ∷ []

-- the places of a node's ancestors, the innermost first
abbrev pub ancestor_places : Places → Node → List ℕ
ancestor_places t (node.At k) = outer_places t k
ancestor_places t (node.Attr k i) = k ∷ outer_places t k

-- places up to one, without it
abbrev pub places_before : ℕ → List ℕ → List ℕ
places_before n [] = []
places_before n (k ∷ ks) = if nat_lt k n then k ∷ places_before n ks else places_before n ks

-- places behind one
abbrev pub places_after : ℕ → List ℕ → List ℕ
places_after n [] = []
places_after n (k ∷ ks) = if nat_lt n k then k ∷ places_after n ks else places_after n ks

abbrev pub reversed : {X : Type 0} → List X → List X
reversed [] = []
reversed (x ∷ xs) = reversed xs ++ x ∷ []

-- whether a place is among these
abbrev pub is_among : ℕ → List ℕ → Bool
is_among n [] = false
is_among n (k ∷ ks) = nat_eq k n || is_among n ks

-- places that are not among others
abbrev pub places_without : List ℕ → List ℕ → List ℕ
places_without others [] = []
places_without others (k ∷ ks) = if is_among k others then places_without others ks else k ∷ places_without others ks

-- the children of the node at a place, or none where there is no place
abbrev pub children_of : Places → Option ℕ → List ℕ
children_of t None = []
children_of t (Some k) = child_places t k

-- all places of a tree
abbrev pub all_places : Places → List ℕ
all_places t = places_that (λ e. true) 0 t.entries

-- the places behind a node and all that is in it; what is in an element is behind its attributes
abbrev pub following_places : Places → Node → List ℕ
following_places t (node.At k) = places_after (k + length (inside t k)) (all_places t)
following_places t (node.Attr k i) = places_after k (all_places t)

-- the places before a node, but those of its ancestors, the last one first
abbrev pub preceding_places : Places → ℕ → List ℕ
preceding_places t k = reversed (places_without (outer_places t k) (places_before k (all_places t)))

-- The nodes of an axis from a node: in document order, but on the axes that go back or outward in reverse document order.
abbrev pub along : Places → Axis → Node → List Node
along t axis.SelfNode n = n ∷ []
along t axis.Child (node.At k) = at_places (child_places t k)
along t axis.Child (node.Attr k i) = []
along t axis.Descendant (node.At k) = at_places (inside_places t k)
along t axis.Descendant (node.Attr k i) = []
along t axis.DescendantOrSelf (node.At k) = node.At k ∷ at_places (inside_places t k)
along t axis.DescendantOrSelf (node.Attr k i) = node.Attr k i ∷ []
along t axis.Attribute (node.At k) = attributes t k
along t axis.Attribute (node.Attr k i) = []
along t axis.Parent n = at_places (as_list (parent_place t n))
along t axis.Ancestor n = at_places (ancestor_places t n)
along t axis.AncestorOrSelf n = n ∷ at_places (ancestor_places t n)
along t axis.Following n = at_places (following_places t n)
along t axis.FollowingSibling (node.At k) = at_places (places_after k (children_of t (parent_place t (node.At k))))
along t axis.FollowingSibling (node.Attr k i) = []
along t axis.Preceding (node.At k) = at_places (preceding_places t k)
along t axis.Preceding (node.Attr k i) = at_places (preceding_places t k)
along t axis.PrecedingSibling (node.At k) = at_places (reversed (places_before k (children_of t (parent_place t (node.At k)))))
along t axis.PrecedingSibling (node.Attr k i) = []

-- ---- the end

abbrev pub any_open : Places → List ℕ → Bool
any_open t [] = false
any_open t (k ∷ ks) = is_open_place t k || any_open t ks

-- the places of the nodes whose children an axis lists
abbrev pub listed_from : Places → Axis → Node → List ℕ
listed_from t axis.SelfNode n = []
listed_from t axis.Child (node.At k) = k ∷ []
listed_from t axis.Child (node.Attr k i) = []
listed_from t axis.Descendant (node.At k) = k ∷ inside_places t k
listed_from t axis.Descendant (node.Attr k i) = []
listed_from t axis.DescendantOrSelf (node.At k) = k ∷ inside_places t k
listed_from t axis.DescendantOrSelf (node.Attr k i) = []
listed_from t axis.Attribute n = []
listed_from t axis.Parent n = []
listed_from t axis.Ancestor n = []
listed_from t axis.AncestorOrSelf n = []
listed_from t axis.Following n = ancestor_places t n
listed_from t axis.FollowingSibling (node.At k) = as_list (parent_place t (node.At k))
listed_from t axis.FollowingSibling (node.Attr k i) = []
listed_from t axis.Preceding n = ancestor_places t n
listed_from t axis.PrecedingSibling (node.At k) = as_list (parent_place t (node.At k))
listed_from t axis.PrecedingSibling (node.Attr k i) = []

-- more may come exactly where a node is open whose children are listed
abbrev pub end_along : Places → Axis → Node → SelEnd
end_along t a n = if any_open t (listed_from t a n) then end.Open else end.Done

-- ---- node tests

-- a name has this number
abbrev pub has_number : Label → ℕ → Bool
has_number label n = nat_eq label.number n

-- a name has this number, if one is asked for
abbrev pub has_number_if : Label → Option ℕ → Bool
has_number_if label None = true
has_number_if label (Some n) = has_number label n

module _ (names : NameTable) where
  -- a name that a test asks for by its parts, or any name
  abbrev pub is_named : NodeTest → Label → Bool
  is_named (test.Name n) label = has_number label n
  is_named test.AnyName label = true
  is_named (test.InSpace uri) label = bytes_eq (uri_at names label.number) uri
  is_named (test.Local local) label = bytes_eq (local_at names label.number) local
  is_named test.Node label = false
  is_named test.Text label = false
  is_named test.Comment label = false
  is_named test.Document label = false
  is_named (test.Pi target) label = false
  is_named (test.Element name) label = false
  is_named (test.Attribute name) label = false

-- a target is this one, if one is asked for
abbrev pub has_target : List ℕ → Option (List ℕ) → Bool
has_target target None = true
has_target target (Some s) = bytes_eq target s

-- whether names on an axis are those of attributes: its principal node kind
abbrev pub is_of_attributes : Axis → Bool
is_of_attributes axis.SelfNode = false
is_of_attributes axis.Child = false
is_of_attributes axis.Descendant = false
is_of_attributes axis.DescendantOrSelf = false
is_of_attributes axis.Attribute = true
is_of_attributes axis.Parent = false
is_of_attributes axis.Ancestor = false
is_of_attributes axis.AncestorOrSelf = false
is_of_attributes axis.Following = false
is_of_attributes axis.FollowingSibling = false
is_of_attributes axis.Preceding = false
is_of_attributes axis.PrecedingSibling = false

-- whether something of this kind passes a kind test
abbrev pub is_of_kind : NodeTest → Content → Bool
is_of_kind test.Node c = true
is_of_kind test.Text (text s) = true
is_of_kind test.Document document = true
is_of_kind (test.Pi target) (instruction t s) = has_target t target
is_of_kind (test.Element name) (element e) = has_number_if e.label name
is_of_kind (test.Attribute name) (attribute a) = has_number_if a.label name
is_of_kind t c = false

-- whether it passes a name test, where names are those of elements or of attributes
abbrev pub is_of_name : NameTable → Bool → NodeTest → Content → Bool
is_of_name names false t (element e) = is_named names t e.label
is_of_name names true t (attribute a) = is_named names t a.label
is_of_name names of_attributes t c = false

abbrev pub passes : NameTable → Axis → NodeTest → Content → Bool
passes names a t c = is_of_kind t c || is_of_name names (is_of_attributes a) t c

-- the nodes that pass a test
abbrev pub passing : NameTable → Places → Axis → NodeTest → List Node → List Node
passing names t a node_test [] = []
passing names t a node_test (n ∷ ns) =
    if option_map_or (passes names a node_test) (content_at t n) false then n ∷ passing names t a node_test ns else passing names t a node_test ns

-- nodes, and where they end
pub record Along : Type 0 where
  pub nodes : List Node
  pub end : SelEnd

-- The nodes of an axis that pass a test, and their end.
abbrev pub axis_from : NameTable → Places → Axis → NodeTest → Node → Along
axis_from names t a node_test n = record { nodes = passing names t a node_test (along t a n); end = end_along t a n }
