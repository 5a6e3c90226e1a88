-- The expression that a derivation says. Parentheses leave nothing behind; constructs have the number 0 until they are numbered.
use Rattle.std.specs.Prelude.{ℕ, Bool, true, false, List, [], ◌∷◌, ◌++◌, slice_get, slice_index_or, bytes_eq, codes, Option, Some, None, Result, Ok, Err, if◌then◌else◌}
use Rattle.sx_atoms.specs.declared.atoms.Atom.{Atom}
use Rattle.sx_atoms.specs.declared.atoms.Atom.TheVariants as atom
use Rattle.sx_atoms.specs.declared.atoms.AtomType.{AtomType}
use Rattle.sx_atoms.specs.declared.atoms.AtomType.TheVariants as atom_type
use Rattle.sx_atoms.specs.declared.error_codes.Code.{Code}
use Rattle.sx_atoms.specs.declared.functions.SeqFn.TheVariants as seq_fn
use Rattle.sx_chars.specs.Names.{prefix_of, local_of}
use Rattle.sx_kinds.specs.declared.constructs.ConstructKind.{ConstructKind}
use Rattle.sx_kinds.specs.declared.constructs.ConstructKind.TheVariants as kind
use Rattle.sx_atoms.specs.declared.arithmetic.ArithOp.TheVariants as arith
use Rattle.sx_kinds.specs.declared.expressions.Deep.TheVariants as deep
use Rattle.sx_kinds.specs.declared.expressions.Expr.{Expr}
use Rattle.sx_kinds.specs.declared.expressions.Expr.TheViews.{roll-Expr, out-Expr}
use Rattle.sx_kinds.specs.declared.expressions.ExprForm.{ExprForm}
use Rattle.sx_kinds.specs.declared.expressions.ExprForm.TheVariants as form
use Rattle.sx_kinds.specs.declared.expressions.Function.{Function}
use Rattle.sx_kinds.specs.declared.expressions.Function.TheVariants as function
use Rattle.sx_kinds.specs.declared.types.Origin.TheVariants as origin
use Rattle.sx_kinds.specs.declared.types.Ty.{Ty}
use Rattle.sx_kinds.specs.declared.types.TyKind.TheVariants as ty_kind
use Rattle.sx_lex.specs.declared.kinds.Token.{Token}
use Rattle.sx_lex.specs.declared.kinds.TokenKind.{TokenKind}
use Rattle.sx_lex.specs.declared.kinds.TokenKind.TheVariants as token_kind
use Rattle.sx_tree.specs.declared.steps.Axis.{Axis}
use Rattle.sx_tree.specs.declared.steps.Axis.TheVariants as axis
use Rattle.sx_tree.specs.declared.steps.NodeTest.{NodeTest}
use Rattle.sx_tree.specs.declared.steps.NodeTest.TheVariants as node_test
use Rattle.sx_names.specs.Scope.{ScopeBindings}
use Rattle.sx_parse.specs.declared.lexemes.Operator.{Operator}
use Rattle.sx_parse.specs.declared.lexemes.Operator.TheVariants as operator
use Rattle.sx_parse.specs.declared.lexemes.Casting.{Casting}
use Rattle.sx_parse.specs.declared.lexemes.Casting.TheVariants as casting
use Rattle.sx_parse.specs.declared.lexemes.Binder.{Binder}
use Rattle.sx_parse.specs.declared.lexemes.Binder.TheVariants as binder
use Rattle.sx_parse.specs.declared.lexemes.KindWord.{KindWord}
use Rattle.sx_parse.specs.declared.lexemes.KindWord.TheVariants as kind_word
use Rattle.sx_parse.specs.declared.lexemes.StepPrefix.{StepPrefix}
use Rattle.sx_parse.specs.declared.lexemes.StepPrefix.TheVariants as prefix
use Rattle.sx_parse.specs.declared.lexemes.Test.{Test}
use Rattle.sx_parse.specs.declared.lexemes.Test.TheVariants as test
use Rattle.sx_parse.specs.Checks.{name_uri, or_none, function_of, type_named, literal_of, token_text}
use Rattle.sx_parse.specs.Grammar.{axis_of, Tree, literal, dot, parent, root, variable, step, empty, parens, call, called, filter, comma, prefixed, binary, cast, choice, bind, Bindings, first, also, binder_of}
use Rattle.sx_parse.specs.Nodes.{takes_more}

-- what the words of a text mean: its bytes and its tokens, the bindings in force, for each token the number of its name where it
-- has one, and the line of its element
pub record Meaning : Type 0 where
  pub text : List ℕ
  pub tokens : List Token
  pub scope : ScopeBindings
  pub numbers : List ℕ
  pub line : ℕ

-- the number of the name of the token at a place
abbrev pub number_at : Meaning → ℕ → ℕ
number_at m place = slice_index_or m.numbers place 0

-- the type of a variable, and of the current item or group, before types are looked at
abbrev pub any_type : Ty
any_type = record { kind = ty_kind.Any; at_most_one = false; origin = origin.Source }

abbrev pub made : Meaning → ConstructKind → ExprForm → List Expr → Expr
made m k f parts = roll-Expr (record { construct = record { number = 0; line = m.line; kind = k }; deep = deep.No; form = f; parts = parts })

-- an expression that stands behind `//`
abbrev pub deepened : Expr → Expr
deepened e = roll-Expr (record { construct = (out-Expr e).construct; deep = deep.Written; form = (out-Expr e).form; parts = (out-Expr e).parts })

-- one more predicate
abbrev pub with_part : Expr → Expr → Expr
with_part e p = roll-Expr (record { construct = (out-Expr e).construct; deep = (out-Expr e).deep; form = (out-Expr e).form; parts = (out-Expr e).parts ++ p ∷ [] })

-- ---- steps

abbrev pub test_axis : Test → Axis
test_axis (test.Kind kind_word.Attribute p) = axis.Attribute
test_axis (test.KindOf kind_word.Attribute p w q) = axis.Attribute
test_axis t = axis.Child

abbrev pub or_child : Option Axis → Axis
or_child None = axis.Child
or_child (Some a) = a

-- the axis of a step: without one, `child`, or `attribute` for the test of an attribute
abbrev pub step_axis : StepPrefix → Test → Axis
step_axis prefix.Plain t = test_axis t
step_axis prefix.At t = axis.Attribute
step_axis (prefix.Axis w p) t = or_child (axis_of w)

-- a wildcard of one part
abbrev pub wild_test : ScopeBindings → List ℕ → NodeTest
wild_test scope text = if bytes_eq (prefix_of text) (codes "*") then node_test.Local (local_of text) else node_test.InSpace (or_none (name_uri scope text))

abbrev pub kind_test : KindWord → NodeTest
kind_test kind_word.Node = node_test.Node
kind_test kind_word.Text = node_test.Text
kind_test kind_word.Comment = node_test.Comment
kind_test kind_word.DocumentNode = node_test.Document
kind_test kind_word.ProcessingInstruction = node_test.Pi None
kind_test kind_word.Element = node_test.Element None
kind_test kind_word.Attribute = node_test.Attribute None

abbrev pub named_kind_test : Meaning → KindWord → ℕ → NodeTest
named_kind_test m kind_word.ProcessingInstruction q = node_test.Pi (Some (token_text m.text m.tokens q))
named_kind_test m kind_word.Element q = node_test.Element (Some (number_at m q))
named_kind_test m kind_word.Attribute q = node_test.Attribute (Some (number_at m q))
named_kind_test m k q = kind_test k

abbrev pub node_test_of : Meaning → Test → NodeTest
node_test_of m (test.Named w p) = node_test.Name (number_at m p)
node_test_of m test.Any = node_test.AnyName
node_test_of m (test.Wild p) = wild_test m.scope (token_text m.text m.tokens p)
node_test_of m (test.Kind k p) = kind_test k
node_test_of m (test.KindOf k p w q) = named_kind_test m k q

abbrev pub step_expression : Meaning → Axis → NodeTest → Expr
step_expression m a t = made m kind.Step (form.Step a t) []

-- ---- the other leaves

abbrev pub token_kind_in : Option Token → TokenKind
token_kind_in None = token_kind.Str
token_kind_in (Some token) = token.kind

abbrev pub token_kind_at : Meaning → ℕ → TokenKind
token_kind_at m place = token_kind_in (slice_get m.tokens place)

abbrev pub or_empty_text : Result Atom Code → Atom
or_empty_text (Ok a) = a
or_empty_text (Err c) = atom.Str []

abbrev pub literal_atom : Meaning → ℕ → Atom
literal_atom m place = or_empty_text (literal_of (token_kind_at m place) (token_text m.text m.tokens place))

abbrev pub or_true : Option Function → Function
or_true None = function.Seq seq_fn.True
or_true (Some f) = f

abbrev pub called_function : Meaning → ℕ → Function
called_function m place = or_true (function_of m.scope (token_text m.text m.tokens place))

abbrev pub or_untyped : Option AtomType → AtomType
or_untyped None = atom_type.Untyped
or_untyped (Some t) = t

abbrev pub type_named_at : Meaning → ℕ → AtomType
type_named_at m place =
    or_untyped (type_named (or_none (name_uri m.scope (token_text m.text m.tokens place))) (local_of (token_text m.text m.tokens place)))

-- ---- what joins operands

abbrev pub joined_by : Meaning → Operator → Expr → Expr → Expr
joined_by m operator.Or a b = made m kind.Or form.Or (a ∷ b ∷ [])
joined_by m operator.And a b = made m kind.And form.And (a ∷ b ∷ [])
joined_by m (operator.Compare op general) a b = made m kind.Compare (form.Compare op general) (a ∷ b ∷ [])
joined_by m operator.Concat a b = made m kind.Concat form.Concat (a ∷ b ∷ [])
joined_by m operator.Range a b = made m kind.Range form.Range (a ∷ b ∷ [])
joined_by m (operator.Arith op) a b = made m kind.Arith (form.Arith op) (a ∷ b ∷ [])
joined_by m operator.Union a b = made m kind.Union form.Union (a ∷ b ∷ [])
joined_by m operator.Map a b = made m kind.Map form.Map (a ∷ b ∷ [])
joined_by m operator.Slash a b = made m kind.Path (form.Path false) (a ∷ b ∷ [])
joined_by m operator.DoubleSlash a b = made m kind.Path (form.Path false) (a ∷ deepened b ∷ [])

abbrev pub root_of : Meaning → Expr
root_of m = made m kind.Root form.Root []

-- a sign, or a path from the root
abbrev pub begun_by : Meaning → Operator → Expr → Expr
begun_by m operator.Slash e = joined_by m operator.Slash (root_of m) e
begun_by m operator.DoubleSlash e = joined_by m operator.DoubleSlash (root_of m) e
begun_by m (operator.Arith arith.Sub) e = made m kind.Unary (form.Unary true) (e ∷ [])
begun_by m o e = made m kind.Unary (form.Unary false) (e ∷ [])

abbrev pub cast_by : Meaning → Casting → AtomType → Bool → Expr → Expr
cast_by m casting.Castable t optional e = made m kind.Castable (form.Castable t optional) (e ∷ [])
cast_by m casting.Cast t optional e = made m kind.Cast (form.Cast t optional) (e ∷ [])

abbrev pub bound_by : Meaning → Binder → ℕ → Expr → Expr → Expr
bound_by m binder.For n a e = made m kind.For (form.For n) (a ∷ e ∷ [])
bound_by m binder.Let n a e = made m kind.Let (form.Let n) (a ∷ e ∷ [])
bound_by m binder.Some n a e = made m kind.Some (form.Some n) (a ∷ e ∷ [])
bound_by m binder.Every n a e = made m kind.Every (form.Every n) (a ∷ e ∷ [])

-- operands that commas join: one alone is itself
abbrev pub whole_expression : Meaning → List Expr → Expr
whole_expression m (e ∷ []) = e
whole_expression m es = made m kind.Comma form.Comma es

abbrev pub filtered : Meaning → Bool → Expr → Expr → Expr
filtered m true b e = with_part b e
filtered m false b e = made m kind.Filter form.Filter (b ∷ e ∷ [])

abbrev pub call_of : Meaning → ℕ → List Expr → Expr
call_of m place args = made m kind.Call (form.Call (called_function m place) any_type None) args

-- the operands of a derivation, which commas outside parentheses join (XPath 3.1, 3.4.1)
abbrev mutual
  pub operands : Meaning → Tree → List Expr
  operands m (literal p) = made m kind.LiteralValue (form.Literal (literal_atom m p)) [] ∷ []
  operands m dot = made m kind.Dot form.Dot [] ∷ []
  operands m parent = step_expression m axis.Parent node_test.Node ∷ []
  operands m root = root_of m ∷ []
  operands m (variable w p) = made m kind.Var (form.Var (number_at m p) any_type) [] ∷ []
  operands m (step pre t) = step_expression m (step_axis pre t) (node_test_of m t) ∷ []
  operands m empty = made m kind.Empty form.Empty [] ∷ []
  operands m (parens e) = whole_expression m (operands m e) ∷ []
  operands m (call w p) = call_of m p [] ∷ []
  operands m (called w p e) = call_of m p (operands m e) ∷ []
  operands m (filter b e) = filtered m (takes_more b) (whole_expression m (operands m b)) (whole_expression m (operands m e)) ∷ []
  operands m (comma a b) = operands m a ++ whole_expression m (operands m b) ∷ []
  operands m (prefixed o e) = begun_by m o (whole_expression m (operands m e)) ∷ []
  operands m (binary a l o b) = joined_by m o (whole_expression m (operands m a)) (whole_expression m (operands m b)) ∷ []
  operands m (cast e k p q w r optional) = cast_by m k (type_named_at m r) optional (whole_expression m (operands m e)) ∷ []
  operands m (choice p c q t r e) = made m kind.If form.If (whole_expression m (operands m c) ∷ whole_expression m (operands m t) ∷ whole_expression m (operands m e) ∷ []) ∷ []
  operands m (bind bs l e) = bound_in m bs (whole_expression m (operands m e)) ∷ []

  -- each variable is bound in what follows it
  pub bound_in : Meaning → Bindings → Expr → Expr
  bound_in m (first k p w r l a) e = bound_by m k (number_at m r) (whole_expression m (operands m a)) e
  bound_in m (also bs w r l a) e = bound_in m bs (bound_by m (binder_of bs) (number_at m r) (whole_expression m (operands m a)) e)

-- what a derivation says
abbrev pub says : Meaning → Tree → Expr
says m t = whole_expression m (operands m t)

-- the alternatives of the derivation of a pattern (XSLT 3.0, 5.5.2)
abbrev pub alternatives : Meaning → Tree → List Expr
alternatives m (binary a l operator.Union b) = alternatives m a ++ says m b ∷ []
alternatives m t = says m t ∷ []
