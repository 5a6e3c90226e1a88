-- What expressions select, on closed and on open trees (XPath 3.1, 3).
use Rattle.std.specs.Prelude.{ℕ, suc, Bool, true, false, List, [], ◌∷◌, ◌++◌, map, Option, Some, None, Result, Ok, Err, ℤ, slice_get, if◌then◌else◌}
use Rattle.std.specs.Option.{option_map_or}
use Rattle.sx_atoms.specs.Comparison.{comparison_of}
use Rattle.sx_atoms.specs.declared.atoms.Atom.{Atom}
use Rattle.sx_atoms.specs.declared.atoms.Atom.TheVariants as atoms
use Rattle.sx_atoms.specs.declared.comparison.CmpOp.TheVariants as op
use Rattle.sx_atoms.specs.declared.error_codes.Code.TheVariants as code
use Rattle.sx_eval.specs.declared.values.Stop.{Stop}
use Rattle.sx_eval.specs.declared.values.Stop.TheVariants as stop
use Rattle.sx_eval.specs.Calls.{called}
use Rattle.sx_eval.specs.Env.{Env, with_variable, latest, Focus}
use Rattle.sx_eval.specs.Folds.{truth_item}
use Rattle.sx_eval.specs.Items.{Way, Item, atom, Value, coded, within, Selected, all_of, stopped, value_of, selection_of, ◌>>=◌}
use Rattle.sx_eval.specs.Loops.{Testing, in_turn, at_each, untested, tested_all, passed}
use Rattle.sx_eval.specs.Operators.{Answer, calculated, signed, compared, concatenated, ranged, cast_to, is_castable}
use Rattle.sx_eval.specs.Order.{ordered, in_order, all_nodes}
use Rattle.sx_eval.specs.Steps.{Step, step_at, passing, union_of_steps, context, root_at}
use Rattle.sx_eval.specs.Strings.{short, atoms_of, as_atom, items_of}
use Rattle.sx_fn_seq.specs.Truths.{effective_truth}
use Rattle.sx_kinds.specs.declared.expressions.Deep.{Deep}
use Rattle.sx_kinds.specs.declared.expressions.Deep.TheVariants as deeps
use Rattle.sx_kinds.specs.declared.expressions.Expr.{Expr}
use Rattle.sx_kinds.specs.declared.expressions.Expr.TheOpen.{Expr-F}
use Rattle.sx_kinds.specs.declared.expressions.Expr.TheFolds.{fold-Expr}
use Rattle.sx_kinds.specs.declared.expressions.ExprForm.{ExprForm}
use Rattle.sx_kinds.specs.declared.expressions.ExprForm.TheVariants as forms
use Rattle.sx_tree.specs.declared.steps.Axis.{Axis}
use Rattle.sx_tree.specs.declared.steps.Axis.TheVariants as axes
use Rattle.sx_tree.specs.declared.steps.NodeTest.{NodeTest}
use Rattle.sx_tree.specs.declared.steps.NodeTest.TheVariants as tests

-- what is selected on a way, with what is known around it, at a focus
abbrev pub Meaning : Type 0
Meaning = Way → Env → Focus → Selected

-- What is known of an expression: whether it stands behind `//`; the steps of which it is a union, if it is one; what it selects; and
-- where it is a path that is evaluated for each item of its front part, that part, and what is evaluated for each of its items.
pub record Evaluation : Type 0 where
  pub deep : Deep
  pub steps : Option (Way → Env → List Step)
  pub front : Meaning
  pub behind : Option Meaning
  pub select : Meaning

-- nothing
abbrev pub nothing : Meaning
nothing way env f = all_of []

abbrev pub no_part : Evaluation
no_part = record { deep = deeps.No; steps = None; front = nothing; behind = None; select = nothing }

-- a part
abbrev pub part : List Evaluation → ℕ → Evaluation
part parts i = option_map_or (λ e. e) (slice_get parts i) no_part

-- the way to a part, and to an item for which it is evaluated
abbrev pub to_part : Way → ℕ → Way
to_part way i = way ++ i ∷ []

abbrev pub to_item : Way → ℕ → ℕ → Way
to_item way i k = way ++ i ∷ k ∷ []

-- what a part selects, and its value
abbrev pub part_at : List Evaluation → ℕ → Meaning
part_at parts i way env f = (part parts i).select (to_part way i) env f

abbrev pub part_value : List Evaluation → ℕ → Way → Env → Focus → Value
part_value parts i way env f = value_of env.limits.list (part_at parts i way env f)

-- ---- truth values

abbrev pub truth_of : List Item → Result Bool Stop
truth_of items = coded (effective_truth (map as_atom items))

abbrev pub truth_at : List Evaluation → ℕ → Way → Env → Focus → Result Bool Stop
truth_at parts i way env f = do
  items ← part_value parts i way env f
  truth_of items

abbrev pub truth_value : Result Bool Stop → Value
truth_value answer = do
  b ← answer
  Ok (truth_item b)

-- the right side is not evaluated where the left one decides (3.8)
abbrev pub or_else : Bool → Result Bool Stop → Result Bool Stop
or_else left right = if left then Ok true else right

abbrev pub and_also : Bool → Result Bool Stop → Result Bool Stop
and_also left right = if left then right else Ok false

-- ---- operators

-- two operands: both are values first, then atoms
abbrev pub with_two_atoms : (List Atom → List Atom → Answer) → List Evaluation → Way → Env → Focus → Value
with_two_atoms operate parts way env f = do
  xs ← part_value parts 0 way env f
  ys ← part_value parts 1 way env f
  as' ← atoms_of env xs
  bs ← atoms_of env ys
  answer ← coded (operate as' bs)
  Ok (items_of answer)

abbrev pub with_atoms : (List Atom → Answer) → List Evaluation → Way → Env → Focus → Value
with_atoms operate parts way env f = do
  xs ← part_value parts 0 way env f
  as' ← atoms_of env xs
  answer ← coded (operate as')
  Ok (items_of answer)

-- a string that is no longer than the limit
abbrev pub bounded_string : ℕ → List Item → Value
bounded_string limit (atom (atoms.Str s) ∷ []) = do
  t ← short limit s
  Ok (items_of (atoms.Str t ∷ []))
bounded_string limit items = Ok items

abbrev pub concat_value : List Evaluation → Way → Env → Focus → Value
concat_value parts way env f = do
  items ← with_two_atoms concatenated parts way env f
  bounded_string env.limits.string items

-- no more items than a list may have
abbrev pub range_value : List Evaluation → Way → Env → Focus → Value
range_value parts way env f = do
  items ← with_two_atoms (ranged env.limits.range) parts way env f
  within env.limits.list items

-- ---- variables (3.9, 3.11)

-- what a part selects where a variable has this value, or the stop of the value
abbrev pub with_value : ℕ → Value → (Env → Selected) → Env → Selected
with_value name (Ok items) run env = run (with_variable env name items)
with_value name (Err s) run env = stopped s

-- the values for each item, one behind another; no more items so far than a list may have
abbrev pub for_each : (ℕ → Item → Value) → ℕ → ℕ → List Item → List Item → Value
for_each run limit k so_far [] = Ok so_far
for_each run limit k so_far (x ∷ xs) = do
  items ← run k x
  more ← within limit (so_far ++ items)
  for_each run limit (suc k) more xs

-- whether a test holds at some item: the first one that does, or stops, decides
abbrev pub holds_at_some : (ℕ → Item → Result Bool Stop) → ℕ → List Item → Result Bool Stop
holds_at_some test k [] = Ok false
holds_at_some test k (x ∷ xs) = do
  holds ← test k x
  if holds then Ok true else holds_at_some test (suc k) xs

-- whether it holds at every item: the first one at which it does not, or stops, decides
abbrev pub holds_at_every : (ℕ → Item → Result Bool Stop) → ℕ → List Item → Result Bool Stop
holds_at_every test k [] = Ok true
holds_at_every test k (x ∷ xs) = do
  holds ← test k x
  if holds then holds_at_every test (suc k) xs else Ok false

-- what the second part selects where a variable is an item of the first part's value
abbrev pub at_variable : List Evaluation → ℕ → Way → Env → Focus → ℕ → Item → Value
at_variable parts name way env f k x =
    value_of env.limits.list ((part parts 1).select (to_item way 1 k) (with_variable env name (x ∷ [])) f)

abbrev pub for_value : List Evaluation → ℕ → Way → Env → Focus → Value
for_value parts name way env f = do
  xs ← part_value parts 0 way env f
  for_each (at_variable parts name way env f) env.limits.list 0 [] xs

abbrev pub test_variable : List Evaluation → ℕ → Way → Env → Focus → ℕ → Item → Result Bool Stop
test_variable parts name way env f k x = do
  items ← at_variable parts name way env f k x
  truth_of items

abbrev pub some_value : List Evaluation → ℕ → Way → Env → Focus → Value
some_value parts name way env f = do
  xs ← part_value parts 0 way env f
  truth_value (holds_at_some (test_variable parts name way env f) 0 xs)

abbrev pub every_value : List Evaluation → ℕ → Way → Env → Focus → Value
every_value parts name way env f = do
  xs ← part_value parts 0 way env f
  truth_value (holds_at_every (test_variable parts name way env f) 0 xs)

-- the value, or that there is none yet
abbrev pub variable_of : Option (List Item) → Selected
variable_of None = stopped (stop.Code code.Xtde0640)
variable_of (Some items) = all_of items

-- the value of a variable; one that has none yet is read too early (XSLT 3.0, 9.5)
abbrev pub variable_at : ℕ → Env → Selected
variable_at name env = variable_of (latest name env.vars None)

-- ---- predicates (3.2 and 3.3.2)

-- whether a number is the position
abbrev pub is_position : Atom → ℤ → Result Bool Stop
is_position a position = coded (comparison_of op.Eq false a (atoms.Int position))

-- whether a predicate with this value holds at a position: a number stands for a position
abbrev pub holds_at : ℤ → List Item → Result Bool Stop
holds_at position (atom (atoms.Int n) ∷ []) = is_position (atoms.Int n) position
holds_at position (atom (atoms.Dec d) ∷ []) = is_position (atoms.Dec d) position
holds_at position items = truth_of items

abbrev pub predicate_at : Meaning → ℕ → Way → Env → Testing
predicate_at select i way env k f = do
  items ← value_of env.limits.list (select (to_item way i k) env f)
  holds_at f.position items

-- predicates, which are parts from this number on
abbrev pub predicates_from : ℕ → List Evaluation → Way → Env → List Testing
predicates_from i [] way env = []
predicates_from i (e ∷ es) way env = predicate_at e.select i way env ∷ predicates_from (suc i) es way env

abbrev pub filter_at : List Evaluation → Meaning
filter_at [] way env f = all_of []
filter_at (e ∷ es) way env f =
    passed (tested_all (untested (e.select (to_part way 0) env f)) (predicates_from 1 es way env))

-- ---- steps

-- the axis of a step: behind `//` a child step is one on the descendant axis, where it is read so
abbrev pub axis_of : Deep → Axis → Axis
axis_of deeps.Descendant axes.Child = axes.Descendant
axis_of deep axis = axis

abbrev pub step_of : Deep → Axis → NodeTest → List Evaluation → Way → Env → Step
step_of deep axis test parts way env =
    record { axis = axis_of deep axis; test = test; predicates = predicates_from 0 parts way env }

-- the steps of which an expression is a union
abbrev pub steps_of_two : Option (Way → Env → List Step) → Option (Way → Env → List Step) → Option (Way → Env → List Step)
steps_of_two (Some left) (Some right) = Some (λ way env. left (to_part way 0) env ++ right (to_part way 1) env)
steps_of_two left right = None

abbrev pub steps_by : ExprForm → Deep → List Evaluation → Option (Way → Env → List Step)
steps_by (forms.Step axis test) deeps.No parts = Some (λ way env. step_of deeps.No axis test parts way env ∷ [])
steps_by forms.Union deep parts = steps_of_two (part parts 0).steps (part parts 1).steps
steps_by form deep parts = None

-- the nodes of both values in document order; an atom is of a wrong type
abbrev pub union_of_values : ℕ → List Item → List Item → Value
union_of_values limit xs ys = if all_nodes (xs ++ ys) then within limit (in_order (xs ++ ys)) else Err (stop.Code code.Xpty0004)

-- a union of steps asks at each node; any other takes its operands as values (3.4.2)
abbrev pub union_by : Option (Way → Env → List Step) → List Evaluation → Meaning
union_by (Some steps) parts way env f = union_of_steps (map (λ (s : Step). passing env s f.item) (steps way env))
union_by None parts way env f = selection_of (do
  xs ← part_value parts 0 way env f
  ys ← part_value parts 1 way env f
  union_of_values env.limits.list xs ys)

-- ---- paths (3.3)

-- all nodes at and below the context item
abbrev pub at_and_below : Env → Focus → Selected
at_and_below env f = step_at env (record { axis = axes.DescendantOrSelf; test = tests.Node; predicates = [] }) f.item

-- what stands on the left of `/`, where the right side stands behind `//` or not
abbrev pub below_by : Deep → Env → Selected → Selected
below_by deeps.No env s = s
below_by deeps.Descendant env s = s
below_by deeps.Written env s = ordered (at_each (λ k f. at_and_below env f) s)
below_by deeps.Parents env s = ordered (at_each (λ k f. at_and_below env f) s)

-- what the right side selects at each item of the left side
abbrev pub along : Evaluation → Way → Env → Selected → Selected
along right way env s = at_each (λ k f. right.select (to_item way 1 k) env f) s

-- a path: where it gives nodes alone they stand in document order
abbrev pub path_from : Evaluation → Way → Env → Selected → Selected
path_from right way env s = ordered (along right way env (below_by right.deep env s))

-- what is evaluated for each item of a front part: the right side in the focus of the item, or behind what was there before
abbrev pub right_at : Evaluation → Deep → Meaning
right_at right deeps.No way env f = ordered (right.select way env f)
right_at right deeps.Descendant way env f = ordered (right.select way env f)
right_at right deeps.Written way env f = ordered (along right way env (at_and_below env f))
right_at right deeps.Parents way env f = ordered (along right way env (at_and_below env f))

abbrev pub behind_by : Option Meaning → Evaluation → Meaning
behind_by None right way env f = right_at right right.deep way env f
behind_by (Some left) right way env f = path_from right way env (left (to_part way 0) env f)

-- for each item of the front part, without an order across its items
abbrev pub per_item : Meaning → Meaning → Meaning
per_item front behind way env f = at_each (λ k g. behind (to_item way 1 k) env g) (front (to_part way 0) env f)

abbrev pub front_by : ExprForm → List Evaluation → Meaning → Meaning
front_by (forms.Path true) parts select = (part parts 0).front
front_by form parts select = select

abbrev pub behind_of : ExprForm → List Evaluation → Option Meaning
behind_of (forms.Path true) parts = Some (behind_by (part parts 0).behind (part parts 1))
behind_of form parts = None

abbrev pub path_by : Bool → List Evaluation → Meaning
path_by false parts way env f = path_from (part parts 1) way env (part_at parts 0 way env f)
path_by true parts way env f = per_item (part parts 0).front (behind_by (part parts 0).behind (part parts 1)) way env f

-- ---- all expressions

-- the parts in turn
abbrev pub each_part : ℕ → List Evaluation → Way → Env → Focus → List Selected
each_part i [] way env f = []
each_part i (e ∷ es) way env f = e.select (to_part way i) env f ∷ each_part (suc i) es way env f

-- the branch that a test chooses, or its stop
abbrev pub choice_of : Result Bool Stop → Selected → Selected → Selected
choice_of (Ok b) first second = if b then first else second
choice_of (Err s) first second = stopped s

-- what an expression selects, by its form
abbrev pub select_by : ExprForm → Deep → List Evaluation → Meaning
select_by forms.Comma deep parts way env f = in_turn (each_part 0 parts way env f)
select_by (forms.For name) deep parts way env f = selection_of (for_value parts name way env f)
select_by (forms.Let name) deep parts way env f =
    with_value name (part_value parts 0 way env f) (λ inner. part_at parts 1 way inner f) env
select_by (forms.Some name) deep parts way env f = selection_of (some_value parts name way env f)
select_by (forms.Every name) deep parts way env f = selection_of (every_value parts name way env f)
select_by forms.If deep parts way env f = choice_of (truth_at parts 0 way env f) (part_at parts 1 way env f) (part_at parts 2 way env f)
select_by forms.Or deep parts way env f = selection_of (truth_value (do
  left ← truth_at parts 0 way env f
  or_else left (truth_at parts 1 way env f)))
select_by forms.And deep parts way env f = selection_of (truth_value (do
  left ← truth_at parts 0 way env f
  and_also left (truth_at parts 1 way env f)))
select_by (forms.Compare op general) deep parts way env f = selection_of (with_two_atoms (compared op general) parts way env f)
select_by forms.Concat deep parts way env f = selection_of (concat_value parts way env f)
select_by forms.Range deep parts way env f = selection_of (range_value parts way env f)
select_by (forms.Arith op) deep parts way env f = selection_of (with_two_atoms (calculated op) parts way env f)
select_by (forms.Unary minus) deep parts way env f = selection_of (with_atoms (signed minus) parts way env f)
select_by forms.Union deep parts way env f = union_by (steps_by forms.Union deep parts) parts way env f
select_by (forms.Castable type optional) deep parts way env f =
    selection_of (with_atoms (λ as'. Ok (atoms.Bool (is_castable type optional as') ∷ [])) parts way env f)
select_by (forms.Cast type optional) deep parts way env f = selection_of (with_atoms (cast_to type optional) parts way env f)
select_by forms.Map deep parts way env f = along (part parts 1) way env (part_at parts 0 way env f)
select_by (forms.Path per_item) deep parts way env f = path_by per_item parts way env f
select_by (forms.Step axis test) deep parts way env f = step_at env (step_of deep axis test parts way env) f.item
select_by forms.Filter deep parts way env f = filter_at parts way env f
select_by (forms.Literal a) deep parts way env f = all_of (atom a ∷ [])
select_by (forms.Var name ty) deep parts way env f = variable_at name env
select_by forms.Empty deep parts way env f = all_of []
select_by forms.Dot deep parts way env f = context f.item
select_by forms.Root deep parts way env f = root_at env f.item
select_by (forms.Call function ty accumulator) deep parts way env f =
    called way env f function accumulator (each_part 0 parts way env f)

-- an expression of whose parts this is known
abbrev pub evaluation_of : Expr-F Evaluation → Evaluation
evaluation_of e = record {
  deep = e.deep;
  steps = steps_by e.form e.deep e.parts;
  front = front_by e.form e.parts (select_by e.form e.deep e.parts);
  behind = behind_of e.form e.parts;
  select = select_by e.form e.deep e.parts;
}

-- what is known of each expression
unfoldable pub evaluation : Expr → Evaluation
evaluation = fold-Expr Evaluation evaluation_of

-- What an expression selects.
abbrev pub sel : Expr → Way → Env → Focus → Selected
sel e = (evaluation e).select

-- The value of an expression.
abbrev pub val : Expr → Way → Env → Focus → Value
val e way env f = value_of env.limits.list (sel e way env f)
