-- Nodes in document order (XDM 3.1, 2.4): trees stand in the order in which they were made, the document first.
use Rattle.std.specs.Prelude.{Bool, true, false, not, ◌&&◌, ◌||◌, ◌==◌, nat_lt, List, [], ◌∷◌, if◌then◌else◌}
use Rattle.sx_eval.specs.Items.{Way, Tree, document, handed, made, Item, node, atom, Selected, selected}
use Rattle.sx_tree.specs.declared.nodes.Node.{Node}
use Rattle.sx_tree.specs.declared.nodes.Node.TheVariants as nodes

-- what is done on one way before what is done on another: outer parts in their order, then inner ones
abbrev pub is_way_before : Way → Way → Bool
is_way_before w [] = false
is_way_before [] (k ∷ ks) = true
is_way_before (j ∷ js) (k ∷ ks) = nat_lt j k || (j == k && is_way_before js ks)

abbrev pub is_tree_before : Tree → Tree → Bool
is_tree_before document document = false
is_tree_before document (handed k) = true
is_tree_before document (made way places) = true
is_tree_before (handed j) document = false
is_tree_before (handed j) (handed k) = nat_lt j k
is_tree_before (handed j) (made way places) = true
is_tree_before (made way places) document = false
is_tree_before (made way places) (handed k) = false
is_tree_before (made v places) (made w others) = is_way_before v w

-- an element before its attributes, and these before what is in it
abbrev pub is_node_before : Node → Node → Bool
is_node_before (nodes.At j) (nodes.At k) = nat_lt j k
is_node_before (nodes.At j) (nodes.Attr k i) = nat_lt j k || j == k
is_node_before (nodes.Attr j i) (nodes.At k) = nat_lt j k
is_node_before (nodes.Attr j h) (nodes.Attr k i) = nat_lt j k || (j == k && nat_lt h i)

-- a node is before another; an atom is before none
abbrev pub is_before : Item → Item → Bool
is_before (atom a) y = false
is_before (node s m) (atom b) = false
is_before (node s m) (node t n) = is_tree_before s t || (not (is_tree_before t s) && is_node_before m n)

-- a node in its place among nodes in order, unless it is there
abbrev pub placed : Item → List Item → List Item
placed x [] = x ∷ []
placed x (y ∷ ys) = if is_before x y then x ∷ y ∷ ys else if is_before y x then y ∷ placed x ys else y ∷ ys

-- nodes in document order, each once
abbrev pub in_order : List Item → List Item
in_order [] = []
in_order (x ∷ xs) = placed x (in_order xs)

abbrev pub is_node : Item → Bool
is_node (node t n) = true
is_node (atom a) = false

abbrev pub all_nodes : List Item → Bool
all_nodes [] = true
all_nodes (x ∷ xs) = is_node x && all_nodes xs

-- Where all items are nodes they stand in document order, each once; else as they came.
abbrev pub ordered : Selected → Selected
ordered s = if all_nodes s.items then selected (in_order s.items) s.end else s
