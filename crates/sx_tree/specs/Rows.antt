-- The rows of a tree: what they keep of its nodes.
use Rattle.std.specs.Prelude.{◌≡◌, ◌⊎◌, ℕ, suc, ◌+◌, ◌<◌, ◌^◌, true, List, [], length, map, slice_get, Option, Some, None, IfSome, if◌then◌else◌}
use Rattle.sx_tree.specs.declared.rows.NodeContent.{NodeContent}
use Rattle.sx_tree.specs.declared.rows.NodeContent.TheVariants as content
use Rattle.sx_tree.specs.declared.rows.Row.{Row}
use Rattle.sx_tree.specs.Places.{Content, document, element, attribute, text, instruction, Entry, entry, Places}
use Rattle.sx_tree.specs.TreeView.{IsTree, depth_at, first_place, inside, outer_places, is_open_place, attributes_of}

-- what it is
abbrev pub content_of : NodeContent → Content
content_of content.Document = document
content_of (content.Element label attrs) = element (record { label = label; attrs = attrs })
content_of (content.Attribute a) = attribute a
content_of (content.Text s) = text s
content_of (content.Pi target c) = instruction target c

-- the node of a row
abbrev pub entry_of : Row → Entry
entry_of r = entry (content_of r.content) r.depth

-- how many nodes are open where this one is the innermost
abbrev pub level_of : List Entry → Option ℕ → ℕ
level_of es None = 0
level_of es (Some k) = suc (depth_at es k)

-- the tree
abbrev pub places_of_rows : List Row → Option ℕ → Places
places_of_rows rows innermost = record { entries = map entry_of rows; level = level_of (map entry_of rows) innermost }

-- the place behind all that is in a node, unless it is open
abbrev pub end_at : Places → ℕ → Option ℕ
end_at t k = if is_open_place t k then None else Some (suc k + length (inside t k))

-- a row says where its node stands and where it ends
pub record IsRow (t : Places) (k : ℕ) (r : Row) : Type 0 where
  pub parent : r.parent ≡ first_place (outer_places t k)
  pub end : r.end ≡ end_at t k

-- these are the rows of a tree, and this is its innermost open node
pub record AreRows (rows : List Row) (innermost : Option ℕ) : Type 0 where
  pub tree : IsTree (map entry_of rows)
  pub each : (k : ℕ) (r : Row) → slice_get rows k ≡ Some r → IsRow (places_of_rows rows innermost) k r
  pub innermost_open : IfSome innermost (λ k. is_open_place (places_of_rows rows innermost) k ≡ true)

-- there is room for one more node and its attributes, and it stands in one unless it is the first
pub record IsRoomFor (t : Places) (c : Content) : Type 0 where
  pub places : suc (length t.entries) < 2 ^ 32
  pub attributes : length (attributes_of c) < 2 ^ 32
  pub inward : (t.entries ≡ []) ⊎ (0 < t.level)

-- all that is in an open node has ended
abbrev pub ended_in : Places → ℕ → Places
ended_in t k = record { entries = t.entries; level = suc (depth_at t.entries k) }
