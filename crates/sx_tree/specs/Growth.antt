-- What more events do to trees.
use Rattle.std.specs.Prelude.{◌≡◌, ℕ, ◌+◌, ◌<◌, ◌≤◌, false, List, [], ◌∷◌, ◌++◌, length}
use Rattle.sx_tree.specs.Events.{Element, MayFollow}
use Rattle.sx_tree.specs.Places.{Entry, Places, places_of, listed}
use Rattle.sx_tree.specs.Tree.{TreeEvent, tree_of}
use Rattle.sx_tree.specs.TreeView.{depth_at, is_open_place}

-- each of these may follow those before it
abbrev pub MayCome : List (TreeEvent Element) → List (TreeEvent Element) → Type 0
MayCome p [] = Unit {0}
MayCome p (h ∷ hs) = MayFollow p h × MayCome (p ++ h ∷ []) hs

-- The list of nodes of events is that of their tree.
abbrev pub ListsTree : Type 0
ListsTree = (p : List (TreeEvent Element)) → MayCome [] p → places_of p ≡ listed (tree_of p)

-- The first node alone has no depth, and each other one is at most one deeper than the node before it, and no more nodes are
-- open than have different depths.
pub record IsInStep (t : Places) : Type 0 where
  pub some : 0 < length t.entries
  pub first : depth_at t.entries 0 ≡ 0
  pub step : (k : ℕ) → k + 1 < length t.entries → (0 < depth_at t.entries (k + 1)) × (depth_at t.entries (k + 1) ≤ depth_at t.entries k + 1)
  pub level : t.level ≤ length t.entries

-- What more events leave: all nodes that were there, and behind them others; and where a node has ended, it stays so.
pub record PlacesGrow (old new : Places) : Type 0 where
  pub more : List Entry
  pub entries : new.entries ≡ old.entries ++ more
  pub ended : (k : ℕ) → k < length old.entries → is_open_place old k ≡ false → is_open_place new k ≡ false
