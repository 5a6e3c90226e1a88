-- The types of paths, steps, unions, choices and commas.
use Rattle.std.specs.Prelude.{Bool, true, false, not, if◌then◌else◌, ◌&&◌, ◌||◌, List, [], ◌∷◌, Option, Some, None, Result, Ok, Err}
use Rattle.sx_atoms.specs.Numbers.{◌>>=◌}
use Rattle.sx_atoms.specs.declared.error_codes.Code.{Code}
use Rattle.sx_atoms.specs.declared.error_codes.Code.TheVariants as codes
use Rattle.sx_tree.specs.declared.steps.Axis.{Axis}
use Rattle.sx_tree.specs.declared.steps.Axis.TheVariants as axes
use Rattle.sx_tree.specs.declared.steps.NodeTest.{NodeTest}
use Rattle.sx_tree.specs.declared.steps.NodeTest.TheVariants as tests
use Rattle.sx_kinds.specs.declared.types.Origin.{Origin}
use Rattle.sx_kinds.specs.declared.types.Origin.TheVariants.{Source, One, Separate, Forest}
use Rattle.sx_kinds.specs.declared.types.Parts.{Parts}
use Rattle.sx_kinds.specs.declared.types.Shape.TheVariants as shapes
use Rattle.sx_kinds.specs.declared.types.Start.TheVariants as starts
use Rattle.sx_kinds.specs.declared.types.Ty.{Ty}
use Rattle.sx_kinds.specs.declared.types.TyKind.TheVariants as kinds
use Rattle.sx_kinds.specs.declared.types.Typing.{Typing}
use Rattle.sx_kinds.specs.Kinds.{is_atomic, joined_kind, tested}
use Rattle.sx_kinds.specs.Origins.{is_source, is_one, is_forest, is_same_origin, item_of}
use Rattle.sx_kinds.specs.Parts.{is_step, is_copy, is_per_item, is_same_start, origins}

-- the origin of what has none where it gives no nodes: then it is as if from the document
abbrev pub or_source : Option Origin → Origin
or_source None = Source
or_source (Some o) = o

-- operands behind commas (XPath 3.1, 3.4.1)
abbrev pub comma_type : Parts → Ty
comma_type parts = record { kind = parts.kind; at_most_one = false; origin = or_source parts.origin }

-- the origin of a choice: what both branches have
abbrev pub choice_origin : List Origin → Origin
choice_origin (a ∷ b ∷ []) = if is_same_origin a b then a else Forest
choice_origin (a ∷ []) = a
choice_origin _ = Source

-- a choice between two branches (3.10)
abbrev pub choice : Typing → Typing → Ty
choice a b = record {
  kind = joined_kind a.ty.kind b.ty.kind;
  at_most_one = a.ty.at_most_one && b.ty.at_most_one;
  origin = choice_origin (origins (a ∷ b ∷ []));
}

-- what a `for` returns for each item (3.9.1)
abbrev pub returned_type : Ty → Ty → Ty
returned_type over t = record {
  kind = t.kind;
  at_most_one = over.at_most_one && t.at_most_one;
  origin = if is_source t.origin then Source else Forest;
}

-- the origin of a union: the document, or one copied tree in which both operands start at one item
abbrev pub union_origin : Bool → List Origin → Result Origin Code
union_origin same [] = Ok Source
union_origin same (Source ∷ []) = Ok Source
union_origin same (One ∷ []) = Ok One
union_origin same (Source ∷ Source ∷ []) = Ok Source
union_origin same (One ∷ One ∷ []) = if same then Ok One else Err codes.Sxst0003
union_origin same _ = Err codes.Sxst0003

-- a union (3.4.2)
abbrev pub union : Typing → Typing → Result Ty Code
union a b = do
  origin ← union_origin (is_same_start a.start b.start) (origins (a ∷ b ∷ []))
  Ok (record { kind = joined_kind a.ty.kind b.ty.kind; at_most_one = false; origin = origin })

-- the origin of what is evaluated for each item of the left side: the first rule that applies
abbrev pub path_origin : Ty → Typing → Origin
path_origin left right =
    if left.at_most_one || is_source right.ty.origin then right.ty.origin else
    if is_one left.origin && is_same_start right.start starts.Context then One else
    if is_copy right.shape then Separate else Forest

-- what is evaluated for each item of the left side (3.3, 3.14)
abbrev pub type_along : Ty → Typing → Ty
type_along left right = record {
  kind = right.ty.kind;
  at_most_one = left.at_most_one && right.ty.at_most_one;
  origin = path_origin left right;
}

-- whether a test of attributes gives a full name
abbrev pub names_one : NodeTest → Bool
names_one (tests.Name n) = true
names_one (tests.Attribute (Some n)) = true
names_one _ = false

-- a step_type (3.3.2)
abbrev pub step_type : Ty → Axis → NodeTest → Ty
step_type context axes.Attribute test =
    record { kind = kinds.Attribute; at_most_one = names_one test; origin = context.origin }
step_type context axes.SelfNode test = record { kind = tested test; at_most_one = true; origin = context.origin }
step_type context axes.Parent test = record { kind = tested test; at_most_one = true; origin = context.origin }
step_type context _ test = record { kind = tested test; at_most_one = false; origin = context.origin }

-- the nodes at and below those of the left side
abbrev pub descendants : Ty → Ty
descendants left =
    type_along left (record {
      ty = step_type (item_of left) axes.DescendantOrSelf tests.Node;
      shape = shapes.Step;
      deep = false;
      start = starts.Context;
      counts = false;
    })

-- a path (3.3): an atom has no nodes, and steps from nodes of several trees have no order, unless they are evaluated for
-- each item of a front part
abbrev pub path : Typing → Typing → Result Ty Code
path left right =
    if is_atomic left.ty.kind then Err codes.Xpty0004 else
    if is_forest left.ty.origin && not (is_per_item left.shape) && (right.deep || is_step right.shape)
    then Err codes.Sxst0003 else
    Ok (type_along (if right.deep then descendants left.ty else left.ty) right)
