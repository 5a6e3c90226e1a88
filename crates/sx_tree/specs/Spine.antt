-- What a contract sees of a spine.
use Rattle.std.specs.Prelude.{List, Option}
use Rattle.sx_tree.specs.declared.ancestors.SpineItem.{SpineItem}
use Rattle.sx_tree.specs.declared.ancestors.Leaf.{Leaf}

-- the open nodes, the outermost first, and the leaf that began last, where it is the last node
pub record Spine : Type 0 where
  pub entries : List SpineItem
  pub leaf : Option Leaf
