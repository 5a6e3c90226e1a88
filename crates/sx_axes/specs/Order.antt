-- Document order (XDM 3.1, 2.4).
use Rattle.std.specs.Prelude.{◌≡◌, ℕ, suc, Bool, true, ◌&&◌, ◌||◌, nat_lt, nat_eq, List, [], ◌∷◌, ◌↔◌, if◌then◌else◌}
use Rattle.std.specs.List.{Contains}
use Rattle.sx_tree.specs.declared.nodes.Node.{Node}
use Rattle.sx_tree.specs.declared.nodes.Node.TheVariants as node

-- the place of a node; an attribute is at that of its element
abbrev pub place_of : Node → ℕ
place_of (node.At k) = k
place_of (node.Attr k i) = k

-- at one place the element is the first, and then come its attributes by their numbers
abbrev pub turn_of : Node → ℕ
turn_of (node.At k) = 0
turn_of (node.Attr k i) = suc i

-- both, which tell where a node stands in document order
abbrev pub order_of : Node → ℕ × ℕ
order_of n = (place_of n, turn_of n)

-- one node is before another in document order
abbrev pub comes_before : Node → Node → Bool
comes_before m n = nat_lt (place_of m) (place_of n) || (nat_eq (place_of m) (place_of n) && nat_lt (turn_of m) (turn_of n))

-- a node among others, where it belongs; once, if it is there
abbrev pub put_in_order : Node → List Node → List Node
put_in_order n [] = n ∷ []
put_in_order n (m ∷ ms) =
    if comes_before n m then n ∷ m ∷ ms else if comes_before m n then m ∷ put_in_order n ms else m ∷ ms

-- The nodes in document order, each once.
abbrev pub ordered : List Node → List Node
ordered [] = []
ordered (n ∷ ns) = put_in_order n (ordered ns)

-- ---- what that comes to

-- each of these is behind a node
abbrev pub AllBehind : Node → List Node → Type 0
AllBehind n [] = Unit {0}
AllBehind n (m ∷ ms) = (comes_before n m ≡ true) × AllBehind n ms

-- each is before all that follow it, so none is there twice
abbrev pub IsInOrder : List Node → Type 0
IsInOrder [] = Unit {0}
IsInOrder (n ∷ ns) = AllBehind n ns × IsInOrder ns

-- two lists have the same nodes
abbrev pub HasSameNodes : List Node → List Node → Type 0
HasSameNodes ms ns = (n : Node) → Contains ms n ↔ Contains ns n
