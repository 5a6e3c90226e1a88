use Rattle.std.proofs.Common.{◌≡◌, true}
use Rattle.sx_tree.specs.TreeView.{is_open_place}
use Rattle.sx_tree.proofs.rows.Rows.end_inside.Given as goal

abbrev pub invariant-loop-self : goal.invariant-loop-self
invariant-loop-self l = record { same : l.self.entries ≡ l.fn.self.entries; open_now : is_open_place l.self l.k ≡ true }

abbrev pub decreases-loop-self : goal.decreases-loop-self
decreases-loop-self l = l.self.level
