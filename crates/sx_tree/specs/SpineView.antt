-- A spine as a tree: its entries, each in the one before it, and its leaf.
use Rattle.std.specs.Prelude.{ℕ, suc, ◌-◌, ◌^◌, List, [], ◌∷◌, length, take, nat_eq, Option, Some, None, if◌then◌else◌}
use Rattle.sx_tree.specs.declared.ancestors.Leaf.{Leaf}
use Rattle.sx_tree.specs.declared.ancestors.Leaf.TheVariants as leaf
use Rattle.sx_tree.specs.declared.ancestors.SpineItem.{SpineItem}
use Rattle.sx_tree.specs.declared.ancestors.SpineItem.TheVariants as spine_item
use Rattle.sx_tree.specs.Places.{Content, document, element, text, instruction, Entry, entry, Places}
use Rattle.sx_tree.specs.Spine.{Spine}

-- what an entry is; of an element as many attributes are seen as there are numbers for them
abbrev pub item_content : SpineItem → Content
item_content spine_item.Root = document
item_content (spine_item.Element label attrs) = element (record { label = label; attrs = take (2 ^ 32 - 1) attrs })

-- what a leaf is
abbrev pub leaf_content : Leaf → Content
leaf_content (leaf.Text s) = text s
leaf_content (leaf.Pi target content) = instruction target content

-- the entries from this depth on, and then the leaf
abbrev pub spine_entries : ℕ → List SpineItem → Option Leaf → List Entry
spine_entries d [] None = []
spine_entries d [] (Some l) = entry (leaf_content l) d ∷ []
spine_entries d (item ∷ items) l = entry (item_content item) d ∷ spine_entries (suc d) items l

-- The tree of a spine: all its entries are open.
abbrev pub spine_places : Spine → Places
spine_places s = record { entries = spine_entries 0 s.entries s.leaf; level = length s.entries }

-- the leaf, where it stands at this place
abbrev pub leaf_here : Spine → ℕ → Option Leaf
leaf_here s k = if nat_eq k (length s.entries) then s.leaf else None
