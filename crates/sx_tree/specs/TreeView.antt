-- What is seen of a tree at one of its nodes (XDM 3.1, 5 and 6). A node is its place in the list of nodes, or the number of
-- an attribute of the element at a place.
use Rattle.std.specs.Prelude.{◌≡◌, ℕ, zero, suc, ◌<◌, ◌≤◌, ◌^◌, Bool, true, false, ◌&&◌, nat_lt, nat_eq, List, [], ◌∷◌, length, drop, slice_get, Option, Some, None, if◌then◌else◌}
use Rattle.std.specs.Option.{option_map_or}
use Rattle.sx_tree.specs.declared.events.Attr.{Attr}
use Rattle.sx_tree.specs.declared.nodes.Node.{Node}
use Rattle.sx_tree.specs.declared.nodes.Node.TheVariants as node
use Rattle.sx_tree.specs.Places.{Content, document, element, attribute, text, instruction, Entry, Places}

-- ---- lists of nodes

-- the depth of the node at a place
abbrev pub depth_at : List Entry → ℕ → ℕ
depth_at es k = option_map_or (λ e. e.depth) (slice_get es k) 0

-- those in front of the first that is no deeper than this
abbrev pub inner : ℕ → List Entry → List Entry
inner d [] = []
inner d (e ∷ es) = if nat_lt d e.depth then e ∷ inner d es else []

-- each is deeper than this
abbrev pub all_deeper : ℕ → List Entry → Bool
all_deeper d [] = true
all_deeper d (e ∷ es) = if nat_lt d e.depth then all_deeper d es else false

-- the places, from k on, of those that pass
abbrev pub places_that : (Entry → Bool) → ℕ → List Entry → List ℕ
places_that passes k [] = []
places_that passes k (e ∷ es) = if passes e then k ∷ places_that passes (suc k) es else places_that passes (suc k) es

-- the places below k, going back, of the nodes less deep than d and than each one met
abbrev pub outward : List Entry → ℕ → ℕ → List ℕ
outward es d zero = []
outward es d (suc k) = if nat_lt (depth_at es k) d then k ∷ outward es (depth_at es k) k else outward es d k

-- the first of these places, if there is one
abbrev pub first_place : List ℕ → Option ℕ
first_place [] = None
first_place (k ∷ ks) = Some k

-- ---- one place

-- the nodes behind it
abbrev pub behind_place : Places → ℕ → List Entry
behind_place t k = drop (suc k) t.entries

-- all that is in it
abbrev pub inside : Places → ℕ → List Entry
inside t k = inner (depth_at t.entries k) (behind_place t k)

-- its children
abbrev pub child_places : Places → ℕ → List ℕ
child_places t k = places_that (λ e. nat_eq e.depth (suc (depth_at t.entries k))) (suc k) (inside t k)

-- its descendants
abbrev pub inside_places : Places → ℕ → List ℕ
inside_places t k = places_that (λ e. true) (suc k) (inside t k)

-- what it stands in, the innermost first
abbrev pub outer_places : Places → ℕ → List ℕ
outer_places t k = outward t.entries (depth_at t.entries k) k

-- it is open: a node of the tree, and the last of a depth that is open
abbrev pub is_open_place : Places → ℕ → Bool
is_open_place t k = nat_lt k (length t.entries) && (nat_lt (depth_at t.entries k) t.level && all_deeper (depth_at t.entries k) (behind_place t k))

-- the places, from k on, of the siblings among nodes that stand behind one of this depth
abbrev pub later_siblings : ℕ → ℕ → List Entry → List ℕ
later_siblings zero k es = []
later_siblings (suc d) k es = places_that (λ e. nat_eq e.depth (suc d)) k (inner d es)

-- its siblings behind it
abbrev pub sibling_places : Places → ℕ → List ℕ
sibling_places t k = later_siblings (depth_at t.entries k) (suc k) (behind_place t k)

-- the attributes of an element, and none of another node
abbrev pub attributes_of : Content → List Attr
attributes_of document = []
attributes_of (element e) = e.attrs
attributes_of (attribute a) = []
attributes_of (text s) = []
attributes_of (instruction target content) = []

abbrev pub attributes_at : Places → ℕ → List Attr
attributes_at t k = option_map_or (λ e. attributes_of e.content) (slice_get t.entries k) []

-- ---- one node

-- it is a node of the tree
abbrev pub IsNode : Places → Node → Type 0
IsNode t (node.At k) = k < length t.entries
IsNode t (node.Attr k i) = (k < length t.entries) × (i < length (attributes_at t k))

-- what it is
abbrev pub content_at : Places → Node → Option Content
content_at t (node.At k) = option_map_or (λ e. Some e.content) (slice_get t.entries k) None
content_at t (node.Attr k i) = option_map_or (λ a. Some (attribute a)) (slice_get (attributes_at t k) i) None

-- it is open, which an attribute never is
abbrev pub is_open_node : Places → Node → Bool
is_open_node t (node.At k) = is_open_place t k
is_open_node t (node.Attr k i) = false

-- ---- trees

-- Depths go inward: the first node has none, and each other one has some and is at most one deeper than the one before it. The
-- numbers of places and of attributes are below 2^32.
pub record IsTree (es : List Entry) : Type 0 where
  pub first : depth_at es 0 ≡ 0
  pub inward : (k : ℕ) → suc k < length es → (0 < depth_at es (suc k)) × (depth_at es (suc k) ≤ suc (depth_at es k))
  pub few : length es < 2 ^ 32
  pub few_attributes : (k : ℕ) (e : Entry) → slice_get es k ≡ Some e → length (attributes_of e.content) < 2 ^ 32
