-- The static type of an expression in its context: the kind of the items, whether there is at most one_of_kind, and the origin of
-- the nodes (XPath 3.1, 2.3.1 and 2.5; XSLT 3.0, 19.1).
use Rattle.std.specs.Prelude.{Bool, true, false, if◌then◌else◌, ◌||◌, List, [], ◌∷◌, ◌++◌, Option, Some, Result, Ok}
use Rattle.sx_atoms.specs.Numbers.{◌>>=◌}
use Rattle.sx_atoms.specs.declared.error_codes.Code.{Code}
use Rattle.sx_tree.specs.declared.steps.Axis.{Axis}
use Rattle.sx_tree.specs.declared.steps.Axis.TheVariants as axes
use Rattle.sx_kinds.specs.declared.expressions.Deep.{Deep}
use Rattle.sx_kinds.specs.declared.expressions.Expr.{Expr}
use Rattle.sx_kinds.specs.declared.expressions.Expr.TheOpen.{Expr-F}
use Rattle.sx_kinds.specs.declared.expressions.Expr.TheFolds.{fold-Expr}
use Rattle.sx_kinds.specs.declared.expressions.ExprForm.{ExprForm}
use Rattle.sx_kinds.specs.declared.expressions.ExprForm.TheVariants as forms
use Rattle.sx_kinds.specs.declared.types.Parts.{Parts}
use Rattle.sx_kinds.specs.declared.types.Shape.{Shape}
use Rattle.sx_kinds.specs.declared.types.Shape.TheVariants as shapes
use Rattle.sx_kinds.specs.declared.types.Start.{Start}
use Rattle.sx_kinds.specs.declared.types.Start.TheVariants as starts
use Rattle.sx_kinds.specs.declared.types.Ty.{Ty}
use Rattle.sx_kinds.specs.declared.types.TyKind.TheVariants as kinds
use Rattle.sx_kinds.specs.declared.types.Typing.{Typing}
pub use Rattle.sx_kinds.specs.Kinds.{rank, is_node, is_atomic, may_be_node, may_be_number, joined_kind, atomised}
pub use Rattle.sx_kinds.specs.Kinds.{as_number, extreme, signed, mixed, reckoned, summed, kind_of}
pub use Rattle.sx_kinds.specs.Kinds.{kind_of_atom, tested}
pub use Rattle.sx_kinds.specs.Origins.{one_of_kind, many, is_source, is_one, is_separate, is_forest, is_same_origin}
pub use Rattle.sx_kinds.specs.Origins.{item_of, type_below, is_deep}
pub use Rattle.sx_kinds.specs.Parts.{missing, there, first_typing, second_of, third_of, is_step, is_child_step}
pub use Rattle.sx_kinds.specs.Parts.{is_copy, is_per_item, is_positional, is_same_start, joined_start}
pub use Rattle.sx_kinds.specs.Parts.{start_through, start_outside, origins, all_source, comma_origin}
pub use Rattle.sx_kinds.specs.Parts.{joined_all, start_of_all, parts_of_typings}
pub use Rattle.sx_kinds.specs.Paths.{or_source, comma_type, choice_origin, choice, returned_type, union_origin, union}
pub use Rattle.sx_kinds.specs.Paths.{path_origin, type_along, names_one, step_type, descendants, path}
pub use Rattle.sx_kinds.specs.Calls.{text_call_type, copied, seq_call_type, called, argument_type, called_shape}
pub use Rattle.sx_kinds.specs.Calls.{called_start, is_count}

-- the type of an expression, by its form and what is known of its parts; or the code of a construct that has none
abbrev pub type_by : ExprForm → Ty → Parts → Result Ty Code
type_by forms.Comma context parts = Ok (comma_type parts)
type_by (forms.For x) context parts = Ok (returned_type (there parts.first).ty (there parts.second).ty)
type_by (forms.Let x) context parts = Ok (there parts.second).ty
type_by (forms.Some x) context parts = Ok (one_of_kind kinds.Boolean)
type_by (forms.Every x) context parts = Ok (one_of_kind kinds.Boolean)
type_by forms.If context parts = Ok (choice (there parts.second) (there parts.third))
type_by forms.Or context parts = Ok (one_of_kind kinds.Boolean)
type_by forms.And context parts = Ok (one_of_kind kinds.Boolean)
type_by (forms.Compare op general) context parts = Ok (one_of_kind kinds.Boolean)
type_by forms.Concat context parts = Ok (one_of_kind kinds.Str)
type_by forms.Range context parts = Ok (many kinds.Integer)
type_by (forms.Arith op) context parts =
    Ok (one_of_kind (reckoned op (there parts.first).ty.kind (there parts.second).ty.kind))
type_by (forms.Unary minus) context parts = Ok (one_of_kind (signed (as_number (there parts.first).ty.kind)))
type_by forms.Union context parts = union (there parts.first) (there parts.second)
type_by (forms.Castable type optional) context parts = Ok (one_of_kind kinds.Boolean)
type_by (forms.Cast type optional) context parts = Ok (one_of_kind (kind_of type))
type_by forms.Map context parts = Ok (type_along (there parts.first).ty (there parts.second))
type_by (forms.Path per_item) context parts = path (there parts.first) (there parts.second)
type_by (forms.Step axis test) context parts = Ok (step_type context axis test)
type_by forms.Filter context parts = Ok (there parts.first).ty
type_by (forms.Literal atom) context parts = Ok (one_of_kind (kind_of_atom atom))
type_by (forms.Var x ty) context parts = Ok ty
type_by forms.Empty context parts = Ok (one_of_kind kinds.Nothing)
type_by forms.Dot context parts = Ok (record context { at_most_one = true })
type_by forms.Root context parts =
    Ok (record { kind = kinds.Document; at_most_one = true; origin = context.origin })
type_by (forms.Call f ty accumulator) context parts = Ok (called f ty (argument_type context parts.first))

-- what a path with this left side is to what stands around it
abbrev pub path_shape : Typing → Shape
path_shape left =
    if is_separate left.ty.origin || is_per_item left.shape then shapes.PerItem else shapes.Other

-- what a step_type is to what stands around it, by whether it has a positional predicate
abbrev pub step_shape : Axis → Bool → Shape
step_shape axes.Child positional = if positional then shapes.Step else shapes.ChildStep
step_shape _ positional = shapes.Step

-- what an expression is to what stands around it
abbrev pub shape_by : ExprForm → Parts → Shape
shape_by (forms.Path per_item) parts = path_shape (there parts.first)
shape_by (forms.Step axis _) parts = step_shape axis parts.positional
shape_by forms.Filter parts = if is_copy (there parts.first).shape then shapes.Copy else shapes.Other
shape_by (forms.Call f ty accumulator) parts = called_shape f
shape_by _ parts = shapes.Other

-- where the nodes of an expression start
abbrev pub start_by : ExprForm → Parts → Start
start_by forms.Comma parts = parts.start
start_by (forms.For x) parts = start_outside x (there parts.second).start
start_by (forms.Let x) parts = start_outside x (there parts.second).start
start_by forms.If parts = joined_start (there parts.second).start (there parts.third).start
start_by forms.Union parts = joined_start (there parts.first).start (there parts.second).start
start_by forms.Map parts = start_through (there parts.first).start (there parts.second).start
start_by (forms.Path per_item) parts = start_through (there parts.first).start (there parts.second).start
start_by (forms.Step axis _) parts = starts.Context
start_by forms.Filter parts = (there parts.first).start
start_by (forms.Var x ty) parts = starts.Variable x
start_by forms.Dot parts = starts.Context
start_by forms.Root parts = starts.Context
start_by (forms.Call f ty accumulator) parts = called_start f (there parts.first).start
start_by _ parts = starts.Nowhere

-- whether an expression calls `position()` or `last()` in its own focus: the right side of a path has another one_of_kind, and so
-- have predicates
abbrev pub counts_by : ExprForm → Parts → Bool
counts_by forms.Map parts = (there parts.first).counts
counts_by (forms.Path per_item) parts = (there parts.first).counts
counts_by (forms.Step axis _) parts = false
counts_by forms.Filter parts = (there parts.first).counts
counts_by (forms.Call f ty accumulator) parts = is_count f || parts.counts
counts_by _ parts = parts.counts

-- what is known of an expression by its form and its parts, or the code of a construct that has no type
abbrev pub known_by : ExprForm → Deep → Ty → Parts → Result Typing Code
known_by form deep context parts = do
  ty ← type_by form context parts
  Ok (record {
    ty = ty;
    shape = shape_by form parts;
    deep = is_deep deep;
    start = start_by form parts;
    counts = counts_by form parts;
  })

-- the context of a part, by what is known of the first one_of_kind before it: the left side's item for the right side of a path, an
-- item of what is filtered for a predicate (3.3.2, 3.2), and else that of the whole
abbrev pub focus : ExprForm → Ty → Option Typing → Ty
focus forms.Map context (Some t) = item_of t.ty
focus (forms.Path per_item) context (Some t) = item_of t.ty
focus (forms.Step axis test) context before = item_of (step_type context axis test)
focus forms.Filter context (Some t) = item_of t.ty
focus _ context before = context

-- what is known of parts, each in its focus, or the first code of one_of_kind
abbrev pub each : ExprForm → Ty → List Typing → List (Ty → Result Typing Code) → Result (List Typing) Code
each form context before [] = Ok before
each form context before (part ∷ parts) = do
  t ← part (focus form context (first_typing before))
  each form context (before ++ t ∷ []) parts

-- what is known of an expression in a context: the codes of its parts come before its own
abbrev pub known : Expr-F (Ty → Result Typing Code) → Ty → Result Typing Code
known e outer = do
  parts ← each e.form (type_below e.deep outer) [] e.parts
  known_by e.form e.deep (type_below e.deep outer) (parts_of_typings parts)

-- what is known of each expression in each context
unfoldable pub typing : Expr → Ty → Result Typing Code
typing = fold-Expr (Ty → Result Typing Code) known

-- the type of an expression in a context, or its first code in written order, inner ones before outer ones
abbrev pub type_of : Expr → Ty → Result Ty Code
type_of e context = do
  t ← typing e context
  Ok t.ty
