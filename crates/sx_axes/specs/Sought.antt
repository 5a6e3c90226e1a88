-- What a step looks for, and what it finds of some nodes.
use Rattle.std.specs.Prelude.{◌≡◌, ℕ, Bool, false, List, ◌++◌, Option, Some, None}
use Rattle.std.specs.Option.{option_map_or}
use Rattle.sx_axes.specs.Axes.{along, has_number_if, has_target, is_named, passes, passing}
use Rattle.sx_axes.specs.declared.node_tests.Sought.{Sought}
use Rattle.sx_names.specs.Numbering.{NameTable}
use Rattle.sx_tree.specs.declared.events.Label.{Label}
use Rattle.sx_tree.specs.declared.nodes.Kind.{Kind}
use Rattle.sx_tree.specs.declared.nodes.Kind.TheVariants as kind
use Rattle.sx_tree.specs.declared.nodes.Node.{Node}
use Rattle.sx_tree.specs.declared.steps.Axis.{Axis}
use Rattle.sx_tree.specs.declared.steps.Axis.TheVariants as axis
use Rattle.sx_tree.specs.declared.steps.NodeTest.{NodeTest}
use Rattle.sx_tree.specs.Places.{Places}
use Rattle.sx_tree.specs.TreeView.{content_at}

-- there is a name, and a name test asks for it
abbrev pub is_named_of : NameTable → NodeTest → Option Label → Bool
is_named_of names t None = false
is_named_of names t (Some label) = is_named names t label

-- there is a name, and it has this number, if one is asked for
abbrev pub has_number_of : Option Label → Option ℕ → Bool
has_number_of None asked = false
has_number_of (Some label) asked = has_number_if label asked

-- there is a target, and it is this one, if one is asked for
abbrev pub has_target_of : Option (List ℕ) → Option (List ℕ) → Bool
has_target_of None asked = false
has_target_of (Some target) asked = has_target target asked

-- the principal node kind of an axis (XPath 3.1, 3.3.2.1)
abbrev pub kind_named : Axis → Kind
kind_named axis.SelfNode = kind.Element
kind_named axis.Child = kind.Element
kind_named axis.Descendant = kind.Element
kind_named axis.DescendantOrSelf = kind.Element
kind_named axis.Attribute = kind.Attribute
kind_named axis.Parent = kind.Element
kind_named axis.Ancestor = kind.Element
kind_named axis.AncestorOrSelf = kind.Element
kind_named axis.Following = kind.Element
kind_named axis.FollowingSibling = kind.Element
kind_named axis.Preceding = kind.Element
kind_named axis.PrecedingSibling = kind.Element

-- it is a node of the tree, and passes
abbrev pub is_found : Sought → Places → Node → Bool
is_found s t n = option_map_or (passes s.names.now s.axis s.test.now) (content_at t n) false

-- those of these that are nodes of the tree and pass
abbrev pub found : Sought → Places → List Node → List Node
found s t ns = passing s.names.now t s.axis s.test.now ns

-- those of these that are nodes of the tree and pass are put behind others
abbrev pub Keeps : Sought → Places → List Node → List Node → List Node → Type 0
Keeps s t ns old new = new ≡ old ++ found s t ns

-- so are those of an axis
abbrev pub KeepsAlong : Sought → Places → Axis → Node → List Node → List Node → Type 0
KeepsAlong s t a n old new = Keeps s t (along t a n) old new
