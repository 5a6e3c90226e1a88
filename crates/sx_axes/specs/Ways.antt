-- Ways from a node through a tree.
use Rattle.std.specs.Prelude.{ℕ, Bool, true, false, nat_lt, not, List, [], ◌∷◌, drop, Option, Some, None}
use Rattle.sx_axes.specs.Axes.{at_places, ancestor_places}
use Rattle.sx_tree.specs.declared.nodes.Node.{Node}
use Rattle.sx_tree.specs.declared.nodes.Node.TheVariants as node
use Rattle.sx_tree.specs.Places.{Places}
use Rattle.sx_tree.specs.TreeView.{places_that, sibling_places}

-- the siblings behind a node, which an attribute has none of
abbrev pub later_nodes : Places → Node → List Node
later_nodes t (node.At k) = at_places (sibling_places t k)
later_nodes t (node.Attr k i) = []

-- a node, if there is one, and the siblings behind it
abbrev pub with_later : Places → Option Node → List Node
with_later t None = []
with_later t (Some n) = n ∷ later_nodes t n

-- a node, if there is one, and its ancestors
abbrev pub with_ancestors : Places → Option Node → List Node
with_ancestors t None = []
with_ancestors t (Some n) = n ∷ at_places (ancestor_places t n)

-- there is a place, and it is no less than this
abbrev pub is_from : ℕ → Option ℕ → Bool
is_from n None = false
is_from n (Some k) = not (nat_lt k n)

-- all places from one on
abbrev pub places_from : Places → ℕ → List ℕ
places_from t k = places_that (λ e. true) k (drop k t.entries)

-- the place of a node, if there is one and it is no attribute
abbrev pub place_in : Option Node → Option ℕ
place_in None = None
place_in (Some (node.At k)) = Some k
place_in (Some (node.Attr k i)) = None
