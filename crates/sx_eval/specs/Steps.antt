-- Steps and unions of steps (XPath 3.1, 3.3.2 and 3.4.2).
use Rattle.std.specs.Prelude.{List, [], ◌∷◌, ◌++◌, map, Option, Some, None, if◌then◌else◌}
use Rattle.sx_atoms.specs.declared.error_codes.Code.TheVariants as code
use Rattle.sx_axes.specs.Axes.{Along, axis_from}
use Rattle.sx_axes.specs.declared.ends.SelEnd.{SelEnd}
use Rattle.sx_axes.specs.declared.ends.SelEnd.TheVariants as end
use Rattle.sx_eval.specs.declared.values.Stop.TheVariants as stop
use Rattle.sx_eval.specs.Env.{Env, places_in}
use Rattle.sx_eval.specs.Items.{Tree, Item, node, atom, Selected, selected, stopped, end_at}
use Rattle.sx_eval.specs.Loops.{Testing, Halt, Passed, untested, tested_all, passed}
use Rattle.sx_eval.specs.Order.{is_before, in_order, ordered}
use Rattle.sx_tree.specs.declared.nodes.Node.TheVariants as nodes
use Rattle.sx_tree.specs.declared.steps.Axis.{Axis}
use Rattle.sx_tree.specs.declared.steps.NodeTest.{NodeTest}
use Rattle.sx_tree.specs.Places.{Content, document}
use Rattle.sx_tree.specs.TreeView.{content_at}

-- a step: its axis, its node test, and its predicates
pub record Step : Type 0 where
  pub axis : Axis
  pub test : NodeTest
  pub predicates : List Testing

-- nodes of a tree as items
abbrev pub nodes_of : Tree → Along → Selected
nodes_of tree along = selected (map (node tree) along.nodes) along.end

-- the nodes of an axis from an item that pass the node test; an atom has none
abbrev pub axis_at : Env → Axis → NodeTest → Option Item → Selected
axis_at env axis node_test None = stopped (stop.Code code.Xpdy0002)
axis_at env axis node_test (Some (atom a)) = stopped (stop.Code code.Xpty0004)
axis_at env axis node_test (Some (node tree n)) = nodes_of tree (axis_from env.names (places_in env tree) axis node_test n)

-- those that pass the predicates too, in the order of the axis
abbrev pub passing : Env → Step → Option Item → Passed
passing env step item = tested_all (untested (axis_at env step.axis step.test item)) step.predicates

-- What a step selects, in document order.
abbrev pub step_at : Env → Step → Option Item → Selected
step_at env step item = ordered (passed (passing env step item))

-- ---- unions of steps

-- the earlier of two halts in document order, and the first of two at one node
abbrev pub earlier : Option Halt → Option Halt → Option Halt
earlier None h = h
earlier (Some g) None = Some g
earlier (Some g) (Some h) = if is_before h.item g.item then Some h else Some g

abbrev pub first_halt : List Passed → Option Halt
first_halt [] = None
first_halt (p ∷ ps) = earlier p.halt (first_halt ps)

-- the items of all operands
abbrev pub all_items : List Passed → List Item
all_items [] = []
all_items (p ∷ ps) = p.items ++ all_items ps

-- the first end that is not done
abbrev pub first_end : SelEnd → SelEnd → SelEnd
first_end end.Done later = later
first_end end.Open later = end.Open
first_end (end.Code c) later = end.Code c

-- the end of what they are taken from: they start at one item, which has no nodes for any of them where it is none
abbrev pub end_of_all : List Passed → SelEnd
end_of_all [] = end.Done
end_of_all (p ∷ ps) = first_end p.end (end_of_all ps)

-- those before an item
abbrev pub items_before : Item → List Item → List Item
items_before x [] = []
items_before x (y ∷ ys) = if is_before y x then y ∷ items_before x ys else items_before x ys

-- the nodes up to the first at which an operand stopped, or all
abbrev pub up_to : Option Halt → List Item → SelEnd → Selected
up_to None items end = selected items end
up_to (Some h) items end = selected (items_before h.item items) (end_at h.stop)

-- A union of steps: the nodes of all operands in document order, up to the first node at which an operand stopped.
abbrev pub union_of_steps : List Passed → Selected
union_of_steps ps = up_to (first_halt ps) (in_order (all_items ps)) (end_of_all ps)

-- ---- what else starts at the context item

-- the context item
abbrev pub context : Option Item → Selected
context None = stopped (stop.Code code.Xpdy0002)
context (Some x) = selected (x ∷ []) end.Done

-- the root of a tree, where it is a document node (3.3)
abbrev pub root_of : Tree → Option Content → Selected
root_of tree (Some document) = selected (node tree (nodes.At 0) ∷ []) end.Done
root_of tree other = stopped (stop.Code code.Xpdy0050)

abbrev pub root_at : Env → Option Item → Selected
root_at env None = stopped (stop.Code code.Xpdy0002)
root_at env (Some (atom a)) = stopped (stop.Code code.Xpty0004)
root_at env (Some (node tree n)) = root_of tree (content_at (places_in env tree) (nodes.At 0))
