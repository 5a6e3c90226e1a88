-- How many nodes there are, and trees in which none is open.
use Rattle.std.specs.Prelude.{ℕ, suc, ◌+◌, List, [], ◌∷◌, length}
use Rattle.sx_tree.specs.Places.{Entry, Places}
use Rattle.sx_tree.specs.TreeView.{attributes_of}

-- each counts with its attributes
abbrev pub node_count : List Entry → ℕ
node_count [] = 0
node_count (e ∷ es) = suc (length (attributes_of e.content)) + node_count es

-- nothing of it is open
abbrev pub closed : Places → Places
closed t = record { entries = t.entries; level = 0 }
