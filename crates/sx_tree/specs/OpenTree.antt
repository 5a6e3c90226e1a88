-- What a contract sees of a tree that grows, and what may happen in it next.
use Rattle.std.specs.Prelude.{◌≡◌, ℕ, ◌<◌}
use Rattle.sx_tree.specs.Events.{Element}
use Rattle.sx_tree.specs.Places.{Places}
use Rattle.sx_tree.specs.Tree.{TreeEvent, starts, ends, says, instructs, closes}

-- the greatest number of nodes, and the nodes that are there
pub record Table : Type 0 where
  pub limit : ℕ
  pub places : Places

-- What this asks of a tree in which it happens: nodes begin where one is open, an element ends where one is, and the document
-- ends where no element is open. What may follow events may come next in their tree.
abbrev pub MayComeNext : Places → TreeEvent Element → Type 0
MayComeNext t (starts e) = 0 < t.level
MayComeNext t ends = 1 < t.level
MayComeNext t (says s) = 0 < t.level
MayComeNext t (instructs target content) = 0 < t.level
MayComeNext t closes = t.level ≡ 1
