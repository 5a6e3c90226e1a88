-- Copies of nodes, by themselves or in copies of what they stand in, and as items (XSLT 3.0, 18.3 and 18.4).
use Rattle.std.specs.Prelude.{ℕ, suc, ◌-◌, nat_lt, List, [], ◌∷◌, ◌++◌, length, map, slice_get, Result, Ok, Err, if◌then◌else◌}
use Rattle.std.specs.Option.{option_map_or}
use Rattle.sx_atoms.specs.declared.error_codes.Code.TheVariants as code
use Rattle.sx_axes.specs.declared.ends.SelEnd.{SelEnd}
use Rattle.sx_axes.specs.declared.ends.SelEnd.TheVariants as end
use Rattle.sx_eval.specs.declared.values.Stop.{Stop}
use Rattle.sx_eval.specs.declared.values.Stop.TheVariants as stop
use Rattle.sx_eval.specs.Env.{Env, places_in}
use Rattle.sx_eval.specs.Items.{Way, made, Item, node, atom, Selected, selected, stopped, then_also}
use Rattle.sx_tree.specs.Copies.{node_count}
use Rattle.sx_tree.specs.declared.nodes.Node.{Node}
use Rattle.sx_tree.specs.declared.nodes.Node.TheVariants as nodes
use Rattle.sx_tree.specs.Places.{attribute, Entry, entry, Places}
use Rattle.sx_tree.specs.TreeView.{depth_at, inside, outer_places, attributes_at, is_open_node}

-- ---- copied trees

-- the node at a place, as a list
abbrev pub here : Places → ℕ → List Entry
here t k = option_map_or (λ e. e ∷ []) (slice_get t.entries k) []

-- the node at a place, and all that is in it
abbrev pub with_inside : Places → ℕ → List Entry
with_inside t k = here t k ++ inside t k

-- so much less deep
abbrev pub raised : ℕ → Entry → Entry
raised d e = entry e.content (e.depth - d)

-- a tree in which no node is open
abbrev pub whole : List Entry → Places
whole entries = record { entries = entries; level = 0 }

-- A copy of a node: the node with all that is in it, which stands in nothing.
abbrev pub copied : Places → Node → Places
copied t (nodes.At k) = whole (map (raised (depth_at t.entries k)) (with_inside t k))
copied t (nodes.Attr k i) = whole (option_map_or (λ a. entry (attribute a) 0 ∷ []) (slice_get (attributes_at t k) i) [])

-- the nodes at places, the last one first
abbrev pub each_here : Places → List ℕ → List Entry
each_here t [] = []
each_here t (k ∷ ks) = each_here t ks ++ here t k

-- A copy of a node in copies of what it stands in, of which each has its attributes and the next one in it alone.
abbrev pub snapshot : Places → Node → Places
snapshot t (nodes.At k) = whole (each_here t (outer_places t k) ++ with_inside t k)
snapshot t (nodes.Attr k i) = whole (each_here t (k ∷ outer_places t k))

-- where the node is in its snapshot
abbrev pub in_snapshot : Places → Node → Node
in_snapshot t (nodes.At k) = nodes.At (length (outer_places t k))
in_snapshot t (nodes.Attr k i) = nodes.Attr (length (outer_places t k)) i

-- What asking for a copy is answered: its nodes are more than the limit, else the node is open, else the copy.
abbrev pub copy_answer : Places → Node → ℕ → Places → Node → Result (Places × Node) Stop
copy_answer t n limit copy first =
    if nat_lt limit (node_count copy.entries) then Err (stop.Code code.Sxli0004) else
    if is_open_node t n then Err stop.Open else Ok (copy, first)

-- ---- as items

-- a node of a tree that is made on a way
abbrev pub made_at : Way → Result (Places × Node) Stop → Selected
made_at way (Ok (places, n)) = selected (node (made way places) n ∷ []) end.Done
made_at way (Err s) = stopped s

-- how an item is copied: an atom is as it is
abbrev pub Copying : Type 0
Copying = Way → Item → Selected

abbrev pub copy_node : Env → Way → Places → Node → Selected
copy_node env way t n = made_at way (copy_answer t n env.limits.list (copied t n) (nodes.At 0))

abbrev pub copy_item : Env → Copying
copy_item env way (atom a) = selected (atom a ∷ []) end.Done
copy_item env way (node tree n) = copy_node env way (places_in env tree) n

abbrev pub snapshot_node : Env → Way → Places → Node → Selected
snapshot_node env way t n = made_at way (copy_answer t n env.limits.list (snapshot t n) (in_snapshot t n))

abbrev pub snapshot_item : Env → Copying
snapshot_item env way (atom a) = selected (atom a ∷ []) end.Done
snapshot_item env way (node tree n) = snapshot_node env way (places_in env tree) n

-- items copied from this number on, each on a way of its own
abbrev pub copied_from : Copying → Way → SelEnd → ℕ → List Item → Selected
copied_from copy way end k [] = selected [] end
copied_from copy way end k (x ∷ xs) = then_also (copy (way ++ k ∷ []) x) (copied_from copy way end (suc k) xs)

-- The copies of the items of a selection, and then its end.
abbrev pub copied_each : Copying → Way → Selected → Selected
copied_each copy way s = copied_from copy way s.end 0 s.items
