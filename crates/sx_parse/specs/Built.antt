-- What nodes build, one after another, from the lists of operands that are complete: the last list on top.
use Rattle.std.specs.Prelude.{ℕ, List, [], ◌∷◌, ◌++◌}
use Rattle.sx_kinds.specs.declared.constructs.ConstructKind.TheVariants as kind
use Rattle.sx_kinds.specs.declared.expressions.Expr.{Expr}
use Rattle.sx_kinds.specs.declared.expressions.ExprForm.TheVariants as form
use Rattle.sx_tree.specs.declared.steps.Axis.TheVariants as axis
use Rattle.sx_tree.specs.declared.steps.NodeTest.TheVariants as node_test
use Rattle.sx_parse.specs.declared.nodes.Node.{Node}
use Rattle.sx_parse.specs.declared.nodes.Node.TheVariants as node
use Rattle.sx_parse.specs.Checks.{token_text}
use Rattle.sx_parse.specs.Literals.{IsLiteral}
use Rattle.sx_parse.specs.Says.{Meaning, made, number_at, token_kind_at, any_type, step_expression, step_axis, node_test_of, literal_atom, type_named_at, root_of, begun_by, joined_by, cast_by, bound_by, whole_expression, filtered, call_of}

-- the operands on top, and what is below_top them
abbrev pub top : List (List Expr) → List Expr
top [] = []
top (es ∷ s) = es

abbrev pub below_top : List (List Expr) → List (List Expr)
below_top [] = []
below_top (es ∷ s) = s

-- what commas join on top
abbrev pub whole_top : Meaning → List (List Expr) → Expr
whole_top m s = whole_expression m (top s)

-- a node takes its operands, and puts what it makes of them in their place
abbrev pub put_node : Meaning → Node → List (List Expr) → List (List Expr)
put_node m (node.Literal p) s = (made m kind.LiteralValue (form.Literal (literal_atom m p)) [] ∷ []) ∷ s
put_node m node.Dot s = (made m kind.Dot form.Dot [] ∷ []) ∷ s
put_node m node.Parent s = (step_expression m axis.Parent node_test.Node ∷ []) ∷ s
put_node m node.Root s = (root_of m ∷ []) ∷ s
put_node m (node.Variable p) s = (made m kind.Var (form.Var (number_at m p) any_type) [] ∷ []) ∷ s
put_node m (node.Step pre t) s = (step_expression m (step_axis pre t) (node_test_of m t) ∷ []) ∷ s
put_node m node.Empty s = (made m kind.Empty form.Empty [] ∷ []) ∷ s
put_node m node.Parens s = (whole_top m s ∷ []) ∷ below_top s
put_node m (node.Call p) s = (call_of m p [] ∷ []) ∷ s
put_node m (node.Called p) s = (call_of m p (top s) ∷ []) ∷ below_top s
put_node m (node.Filter more) s = (filtered m more (whole_top m (below_top s)) (whole_top m s) ∷ []) ∷ below_top (below_top s)
put_node m node.Comma s = (top (below_top s) ++ whole_top m s ∷ []) ∷ below_top (below_top s)
put_node m (node.Prefix o) s = (begun_by m o (whole_top m s) ∷ []) ∷ below_top s
put_node m (node.Binary o) s = (joined_by m o (whole_top m (below_top s)) (whole_top m s) ∷ []) ∷ below_top (below_top s)
put_node m (node.Cast k r optional) s = (cast_by m k (type_named_at m r) optional (whole_top m s) ∷ []) ∷ below_top s
put_node m node.Choice s =
    (made m kind.If form.If (whole_top m (below_top (below_top s)) ∷ whole_top m (below_top s) ∷ whole_top m s ∷ []) ∷ []) ∷ below_top (below_top (below_top s))
put_node m (node.Bind k r) s = (bound_by m k (number_at m r) (whole_top m (below_top s)) (whole_top m s) ∷ []) ∷ below_top (below_top s)

-- what is there behind nodes
abbrev pub node_built : Meaning → List Node → List (List Expr) → List (List Expr)
node_built m [] s = s
node_built m (n ∷ ns) s = node_built m ns (put_node m n s)

-- the token at a place is a literal
abbrev pub IsLiteralAt : Meaning → ℕ → Type 0
IsLiteralAt m place = IsLiteral (token_kind_at m place) (token_text m.text m.tokens place)

-- a node, if it is a literal, stands for a token that is one
abbrev pub IsLiteralIn : Meaning → Node → Type 0
IsLiteralIn m (node.Literal place) = IsLiteralAt m place
IsLiteralIn m n = Unit {0}

-- so do the literals among nodes
abbrev pub AreLiteralsIn : Meaning → List Node → Type 0
AreLiteralsIn m [] = Unit {0}
AreLiteralsIn m (n ∷ ns) = IsLiteralIn m n × AreLiteralsIn m ns
