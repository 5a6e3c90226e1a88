-- What more events do to axes.
use Rattle.std.specs.Prelude.{◌≡◌, ◌++◌, Bool, true, false, List}
use Rattle.sx_axes.specs.Axes.{Along, axis_from}
use Rattle.sx_axes.specs.declared.ends.SelEnd.TheVariants as end
use Rattle.sx_names.specs.Numbering.{NameTable}
use Rattle.sx_tree.specs.declared.steps.Axis.{Axis}
use Rattle.sx_tree.specs.declared.steps.Axis.TheVariants as axis
use Rattle.sx_tree.specs.declared.steps.NodeTest.{NodeTest}
use Rattle.sx_tree.specs.declared.nodes.Node.{Node}
use Rattle.sx_tree.specs.Events.{Element}
use Rattle.sx_tree.specs.Places.{places_of}
use Rattle.sx_tree.specs.TreeView.{IsNode}
use Rattle.sx_tree.specs.Tree.{TreeEvent}

-- it goes inward or outward, and neither to siblings nor past the node
abbrev pub goes_in_or_out : Axis → Bool
goes_in_or_out axis.SelfNode = true
goes_in_or_out axis.Child = true
goes_in_or_out axis.Descendant = true
goes_in_or_out axis.DescendantOrSelf = true
goes_in_or_out axis.Attribute = true
goes_in_or_out axis.Parent = true
goes_in_or_out axis.Ancestor = true
goes_in_or_out axis.AncestorOrSelf = true
goes_in_or_out axis.Following = false
goes_in_or_out axis.FollowingSibling = false
goes_in_or_out axis.Preceding = false
goes_in_or_out axis.PrecedingSibling = false

-- The second begins with the nodes of the first, and where the first is done it is the same.
pub record Continues (first second : Along) : Type 0 where
  pub more : List Node
  pub front : second.nodes ≡ first.nodes ++ more
  pub done : first.end ≡ end.Done → second ≡ first

-- From a node of the tree of what has happened, an axis that goes in or out gives the same on the tree of more, and behind it more.
abbrev pub AxesGrow : Type 0
AxesGrow =
    (names : NameTable) (p q : List (TreeEvent Element)) (n : Node) → IsNode (places_of p) n → (a : Axis) → goes_in_or_out a ≡ true → (t : NodeTest)
    → Continues (axis_from names (places_of p) a t n) (axis_from names (places_of (p ++ q)) a t n)
