-- What some expressions select at the element `r` of a tree that is open: of `r`, an `a` with the text 1, which has ended, and a `b`
-- that has begun. It says for each of them what the definitions come to.
use Rattle.std.specs.Prelude.{◌≡◌, ℕ, true, false, List, [], ◌∷◌, Some, None, Ok, pos}
use Rattle.sx_atoms.specs.Arithmetic.{dec}
use Rattle.sx_atoms.specs.declared.arithmetic.ArithOp.{ArithOp}
use Rattle.sx_atoms.specs.declared.arithmetic.ArithOp.TheVariants as arith
use Rattle.sx_atoms.specs.declared.atoms.Atom.TheVariants as atoms
use Rattle.sx_atoms.specs.declared.error_codes.Code.TheVariants as code
use Rattle.sx_atoms.specs.declared.functions.SeqFn.{SeqFn}
use Rattle.sx_atoms.specs.declared.functions.SeqFn.TheVariants as fn
use Rattle.sx_atoms.specs.declared.functions.TextFn.TheVariants as text_fn
use Rattle.sx_axes.specs.declared.ends.SelEnd.{SelEnd}
use Rattle.sx_axes.specs.declared.ends.SelEnd.TheVariants as end
use Rattle.sx_eval.specs.Copying.{whole}
use Rattle.sx_eval.specs.Env.{Env, Focus}
use Rattle.sx_eval.specs.Evaluation.{Evaluation, evaluation_of}
use Rattle.sx_eval.specs.Items.{document, made, Item, node, atom, Selected, selected, all_of}
use Rattle.sx_kinds.specs.declared.constructs.Construct.{Construct}
use Rattle.sx_kinds.specs.declared.constructs.ConstructKind.TheVariants as construct
use Rattle.sx_kinds.specs.declared.expressions.Deep.{Deep}
use Rattle.sx_kinds.specs.declared.expressions.Deep.TheVariants as deeps
use Rattle.sx_kinds.specs.declared.expressions.ExprForm.{ExprForm}
use Rattle.sx_kinds.specs.declared.expressions.ExprForm.TheVariants as forms
use Rattle.sx_kinds.specs.declared.expressions.Function.TheVariants as function
use Rattle.sx_kinds.specs.Origins.{many}
use Rattle.sx_kinds.specs.declared.types.TyKind.TheVariants as kinds
use Rattle.sx_limits.specs.Limits.{stated}
use Rattle.sx_tree.specs.declared.events.Label.{Label}
use Rattle.sx_tree.specs.declared.nodes.Node.TheVariants as nodes
use Rattle.sx_tree.specs.declared.steps.Axis.{Axis}
use Rattle.sx_tree.specs.declared.steps.Axis.TheVariants as axes
use Rattle.sx_tree.specs.declared.steps.NodeTest.{NodeTest}
use Rattle.sx_tree.specs.declared.steps.NodeTest.TheVariants as tests
use Rattle.sx_tree.specs.Events.{Element}
use Rattle.sx_tree.specs.Places as places
use Rattle.sx_tree.specs.Places.{Places, entry, places_of}
use Rattle.sx_tree.specs.Tree.{starts, ends, says}

-- ---- the tree

-- names by their numbers, from 0: r, a, b and k
abbrev label : ℕ → Label
label n = record { number = n; prefix = [] }

abbrev named : ℕ → Element
named n = record { label = label n; attrs = [] }

abbrev tree : Places
tree = places_of (starts (named 0) ∷ starts (named 1) ∷ says (49 ∷ []) ∷ ends ∷ starts (named 2) ∷ [])

abbrev around : Env
around = record {
  document = tree;
  copies = [];
  names = ([], 114 ∷ []) ∷ ([], 97 ∷ []) ∷ ([], 98 ∷ []) ∷ ([], 107 ∷ []) ∷ [];
  vars = [];
  current = None;
  group = None;
  accumulators = [];
  limits = stated;
}

-- its nodes: the document node, r, a, the text, and b
abbrev at_place : ℕ → Item
at_place k = node document (nodes.At k)

abbrev at_r : Focus
at_r = record { item = Some (at_place 1); position = pos 1; last = Ok (pos 1) }

-- what an expression selects at r
abbrev at : Evaluation → Selected
at e = e.select [] around at_r

-- ---- the expressions

abbrev written : Construct
written = record { number = 0; line = 0; kind = construct.Step }

abbrev of : ExprForm → List Evaluation → Evaluation
of form parts = evaluation_of (record { construct = written; deep = deeps.No; form = form; parts = parts })

-- behind `//`
abbrev below : Deep → ExprForm → Evaluation
below deep form = evaluation_of (record { construct = written; deep = deep; form = form; parts = [] })

abbrev step : Axis → NodeTest → Evaluation
step axis test = of (forms.Step axis test) []

abbrev child : ℕ → Evaluation
child n = step axes.Child (tests.Name n)

abbrev child_with : ℕ → Evaluation → Evaluation
child_with n predicate = of (forms.Step axes.Child (tests.Name n)) (predicate ∷ [])

abbrev number : ℕ → Evaluation
number n = of (forms.Literal (atoms.Int (pos n))) []

abbrev path : Evaluation → Evaluation → Evaluation
path left right = of (forms.Path false) (left ∷ right ∷ [])

abbrev each_item : Evaluation → Evaluation → Evaluation
each_item left right = of (forms.Path true) (left ∷ right ∷ [])

abbrev call : SeqFn → List Evaluation → Evaluation
call f args = of (forms.Call (function.Seq f) (many kinds.Any) None) args

abbrev calculation : ArithOp → Evaluation → Evaluation → Evaluation
calculation op left right = of (forms.Arith op) (left ∷ right ∷ [])

-- 1 idiv 0
abbrev faulty : Evaluation
faulty = calculation arith.Idiv (number 1) (number 0)

abbrev dot : Evaluation
dot = of forms.Dot []

abbrev comma : Evaluation → Evaluation → Evaluation
comma first second = of forms.Comma (first ∷ second ∷ [])

abbrev union : Evaluation → Evaluation → Evaluation
union left right = of forms.Union (left ∷ right ∷ [])

abbrev variable : ℕ → Evaluation
variable n = of (forms.Var n (many kinds.Any)) []

-- ---- what they select

abbrev integer : ℕ → Item
integer n = atom (atoms.Int (pos n))

-- nothing, and this end
abbrev none_and : SelEnd → Selected
none_and end = selected [] end

-- a copy of a: the element with its text
abbrev copy_of_a : Places
copy_of_a = whole (entry (places.element (named 1)) 0 ∷ entry (places.text (49 ∷ [])) 1 ∷ [])

pub record SelectWhatTheySay : Type 0 where
  -- a; b: more may come
  pub closed_child : at (child 1) ≡ selected (at_place 2 ∷ []) end.Open
  pub open_child : at (child 2) ≡ selected (at_place 4 ∷ []) end.Open
  -- a/text()
  pub text : at (path (child 1) (step axes.Child tests.Text)) ≡ selected (at_place 3 ∷ []) end.Open
  -- @k: the attributes of an element that has begun are all there
  pub attribute : at (step axes.Attribute (tests.Name 3)) ≡ none_and end.Done
  -- count(a); sum(b)
  pub count : at (call fn.Count (child 1 ∷ [])) ≡ none_and end.Open
  pub sum : at (call fn.Sum (child 2 ∷ [])) ≡ none_and end.Open
  -- a[1 idiv 0]
  pub faulty_predicate : at (child_with 1 faulty) ≡ none_and (end.Code code.Foar0001)
  -- (1 idiv 0) + count(a); count(a) + (1 idiv 0)
  pub left_first : at (calculation arith.Add faulty (call fn.Count (child 1 ∷ []))) ≡ none_and (end.Code code.Foar0001)
  pub right_second : at (calculation arith.Add (call fn.Count (child 1 ∷ [])) faulty) ≡ none_and end.Open
  -- a + 1: operands are all there only where the selection is done
  pub operand : at (calculation arith.Add (child 1) (number 1)) ≡ none_and end.Open
  -- a ! (. + 1): the text of a node that has ended is there
  pub at_each : at (of forms.Map (child 1 ∷ calculation arith.Add dot (number 1) ∷ []))
      ≡ selected (atom (atoms.Dec (dec (pos 2000000000))) ∷ []) end.Open
  -- . + (1 idiv 0): both operands are values before one has an atom
  pub values_first : at (calculation arith.Add dot faulty) ≡ none_and (end.Code code.Foar0001)
  -- a[1]; a[last()]
  pub first : at (child_with 1 (number 1)) ≡ selected (at_place 2 ∷ []) end.Open
  pub last : at (child_with 1 (call fn.Last [])) ≡ none_and end.Open
  -- b | a: nodes stand in document order
  pub in_order : at (union (child 2) (child 1)) ≡ selected (at_place 2 ∷ at_place 4 ∷ []) end.Open
  -- b | a[1 idiv 0]: the union ends at the first node at which an operand stops
  pub stopped_union : at (union (child 2) (child_with 1 faulty)) ≡ none_and (end.Code code.Foar0001)
  -- 1, a: up to the first end that is not done
  pub in_turn : at (comma (number 1) (child 1)) ≡ selected (integer 1 ∷ at_place 2 ∷ []) end.Open
  pub not_reached : at (comma (child 1) (number 1)) ≡ selected (at_place 2 ∷ []) end.Open
  -- a/..; .//text() in both readings; /
  pub parent : at (path (child 1) (step axes.Parent tests.Node)) ≡ selected (at_place 1 ∷ []) end.Open
  pub descendants : at (path dot (below deeps.Descendant (forms.Step axes.Child tests.Text))) ≡ selected (at_place 3 ∷ []) end.Open
  -- (the children of r itself are not all there, so those of what is in it are not reached in the second)
  pub through_parents : at (path dot (below deeps.Parents (forms.Step axes.Child tests.Text))) ≡ none_and end.Open
  pub root : at (of forms.Root []) ≡ all_of (at_place 0 ∷ [])
  -- copy-of(a), in which nothing is open; copy-of(b); copy-of(a)/text(), for each copy by itself
  pub copy : at (call fn.CopyOf (child 1 ∷ [])) ≡ selected (node (made (1 ∷ 0 ∷ []) copy_of_a) (nodes.At 0) ∷ []) end.Open
  pub open_copy : at (call fn.CopyOf (child 2 ∷ [])) ≡ none_and end.Open
  pub in_copy : at (each_item (call fn.CopyOf (child 1 ∷ [])) (step axes.Child tests.Text))
      ≡ selected (node (made (0 ∷ 1 ∷ 0 ∷ []) copy_of_a) (nodes.At 1) ∷ []) end.Open
  -- exists(a) asks for all of a; empty(@k) has them
  pub exists : at (call fn.Exists (child 1 ∷ [])) ≡ none_and end.Open
  pub empty : at (call fn.Empty (step axes.Attribute tests.AnyName ∷ [])) ≡ all_of (atom (atoms.Bool true) ∷ [])
  -- boolean((1, 2, 1 idiv 0)) fails at its second item; if ((1, 2, 1 idiv 0)) takes the value first
  pub truth : at (call fn.Boolean (comma (number 1) (comma (number 2) faulty) ∷ [])) ≡ none_and (end.Code code.Forg0006)
  pub choice : at (of forms.If (comma (number 1) (comma (number 2) faulty) ∷ number 1 ∷ number 2 ∷ [])) ≡ none_and (end.Code code.Foar0001)
  -- for $v in (1, 2) return $v + 1; some $v in (1, 2) satisfies $v = 1, which decides before 1 idiv 0 is looked at
  pub for_each : at (of (forms.For 9) (comma (number 1) (number 2) ∷ calculation arith.Add (variable 9) (number 1) ∷ []))
      ≡ all_of (integer 2 ∷ integer 3 ∷ [])
  pub some_item : at (of (forms.Some 9) (comma (number 1) (number 0) ∷ calculation arith.Idiv (number 1) (variable 9) ∷ [])) ≡ all_of (atom (atoms.Bool true) ∷ [])
  pub every_item : at (of (forms.Every 9) (comma (number 2) (number 0) ∷ calculation arith.Idiv (number 1) (variable 9) ∷ [])) ≡ all_of (atom (atoms.Bool false) ∷ [])
  -- $v where it has no value yet; current-group() where there is no group; position()
  pub unknown : at (variable 9) ≡ none_and (end.Code code.Xtde0640)
  pub no_group : at (call fn.CurrentGroup []) ≡ none_and (end.Code code.Xtde1061)
  pub position : at (call fn.Position []) ≡ all_of (integer 1 ∷ [])
  -- string(a/text()) is known only where a is all there; name(.) is known at once
  pub string : at (of (forms.Call (function.Text text_fn.String) (many kinds.Any) None) (path (child 1) (step axes.Child tests.Text) ∷ [])) ≡ none_and end.Open
  pub name : at (call fn.Name []) ≡ all_of (atom (atoms.Str (114 ∷ [])) ∷ [])
  -- 1 to 3; an atom has no children
  pub range : at (of forms.Range (number 1 ∷ number 3 ∷ [])) ≡ all_of (integer 1 ∷ integer 2 ∷ integer 3 ∷ [])
  pub step_at_atom : at (of forms.Map (number 1 ∷ child 1 ∷ [])) ≡ none_and (end.Code code.Xpty0004)
  pub union_at_atom : at (of forms.Map (number 1 ∷ union (child 1) (child 2) ∷ [])) ≡ none_and (end.Code code.Xpty0004)
