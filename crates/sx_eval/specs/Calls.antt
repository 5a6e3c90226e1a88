-- Calls of functions (XPath 3.1, 3.1.5; XPath functions and operators 3.1; XSLT 3.0, 14.2, 18 and 20.4).
use Rattle.std.specs.Prelude.{ℕ, Bool, true, false, nat_eq, ◌&&◌, List, [], ◌∷◌, ◌++◌, reverse, Option, Some, None, Result, Ok, Err, slice_get, unwrap_or, ℤ, if◌then◌else◌}
use Rattle.sx_atoms.specs.Arguments.{argument}
use Rattle.sx_atoms.specs.declared.atoms.Atom.{Atom}
use Rattle.sx_atoms.specs.declared.atoms.Atom.TheVariants as atoms
use Rattle.sx_atoms.specs.declared.error_codes.Code.{Code}
use Rattle.sx_atoms.specs.declared.error_codes.Code.TheVariants as code
use Rattle.sx_atoms.specs.declared.functions.SeqFn.{SeqFn}
use Rattle.sx_atoms.specs.declared.functions.SeqFn.TheVariants as fn
use Rattle.sx_atoms.specs.declared.functions.TextFn.{TextFn}
use Rattle.sx_atoms.specs.declared.functions.TextFn.TheVariants as text_fn
use Rattle.sx_axes.specs.declared.ends.SelEnd.{SelEnd}
use Rattle.sx_axes.specs.declared.ends.SelEnd.TheVariants as end
use Rattle.sx_eval.specs.declared.values.Stop.{Stop}
use Rattle.sx_eval.specs.declared.values.Stop.TheVariants as stop
use Rattle.sx_eval.specs.Copying.{copy_item, snapshot_item, copied_each}
use Rattle.sx_eval.specs.Env.{Env, Group, ValueAt, Focus, places_in}
use Rattle.sx_eval.specs.Folds.{fold_of, join_of}
use Rattle.sx_eval.specs.Items.{Way, Tree, document, handed, made, Item, node, atom, Value, coded, Selected, selected, stopped, then_also, value_of, selection_of, ◌>>=◌}
use Rattle.sx_eval.specs.Steps.{context}
use Rattle.sx_eval.specs.Strings.{short, atom_of, atoms_of, items_of}
use Rattle.sx_fn_seq.specs.Calls.{seq_call}
use Rattle.sx_fn_seq.specs.Parts.{head_of, tail_of, subsequence_of, zero_or_one, one_or_more, exactly_one}
use Rattle.sx_fn_text.specs.Calls.{text_call}
use Rattle.sx_kinds.specs.declared.expressions.Function.{Function}
use Rattle.sx_kinds.specs.declared.expressions.Function.TheVariants as function
use Rattle.sx_names.specs.Numbering.{NameTable, uri_at, local_at}
use Rattle.sx_tree.specs.declared.events.Label.{Label}
use Rattle.sx_tree.specs.declared.nodes.Node.{Node}
use Rattle.sx_tree.specs.declared.nodes.Node.TheVariants as nodes
use Rattle.sx_tree.specs.Places as content
use Rattle.sx_tree.specs.Places.{Content}
use Rattle.sx_tree.specs.Seen.{seen_at}

-- ---- arguments

-- the values of arguments, in their order
abbrev pub values : ℕ → List Selected → Result (List (List Item)) Stop
values limit [] = Ok []
values limit (s ∷ ss) = do
  items ← value_of limit s
  rest ← values limit ss
  Ok (items ∷ rest)

-- and then their atoms, in their order
abbrev pub all_atoms : Env → List (List Item) → Result (List (List Atom)) Stop
all_atoms env [] = Ok []
all_atoms env (items ∷ rest) = do
  as' ← atoms_of env items
  more ← all_atoms env rest
  Ok (as' ∷ more)

-- all are values before one has atoms
abbrev pub argument_atoms : Env → List Selected → Result (List (List Atom)) Stop
argument_atoms env args = do
  items ← values env.limits.list args
  all_atoms env items

-- the context item, where the one argument of a function is missing
abbrev pub or_context : Option Item → List Selected → List Selected
or_context item [] = context item ∷ []
or_context item (s ∷ ss) = s ∷ ss

-- the first argument
abbrev pub first_of : List Selected → Selected
first_of [] = selected [] end.Done
first_of (s ∷ ss) = s

-- ---- functions on texts

-- whether its argument is the context item where it is missing
abbrev pub text_takes_context : TextFn → Bool
text_takes_context text_fn.String = true
text_takes_context text_fn.StringLength = true
text_takes_context text_fn.NormalizeSpace = true
text_takes_context f = false

abbrev pub text_arguments : TextFn → Option Item → List Selected → List Selected
text_arguments f item args = if text_takes_context f then or_context item args else args

-- no string is longer than the limit
abbrev pub short_atom : ℕ → Atom → Result Atom Stop
short_atom limit (atoms.Str s) = do
  t ← short limit s
  Ok (atoms.Str t)
short_atom limit a = Ok a

abbrev pub short_atoms : ℕ → List Atom → Result (List Atom) Stop
short_atoms limit [] = Ok []
short_atoms limit (a ∷ as') = do
  b ← short_atom limit a
  bs ← short_atoms limit as'
  Ok (b ∷ bs)

-- a function of atoms
abbrev pub text_answer : Env → TextFn → List Selected → Value
text_answer env f args = do
  as' ← argument_atoms env args
  answer ← coded (text_call f as')
  bounded ← short_atoms env.limits.string answer
  Ok (items_of bounded)

-- the separator of a join, which is empty where it is missing
abbrev pub separator_in : Env → List Selected → Result (List Atom) Stop
separator_in env (s ∷ separator ∷ rest) = do
  items ← value_of env.limits.list separator
  atoms_of env items
separator_in env args = Ok []

abbrev pub called_text : Env → Focus → TextFn → List Selected → Value
called_text env f text_fn.StringJoin args = join_of env (first_of args) (separator_in env args)
called_text env f g args = text_answer env g (text_arguments g f.item args)

-- ---- functions on nodes

-- a name as it is written, by its prefix and its local part
abbrev pub qualified : List ℕ → List ℕ → List ℕ
qualified [] local = local
qualified (c ∷ prefix) local = (c ∷ prefix) ++ 58 ∷ local

-- the name of a node, its local part, and the namespace of that; a processing instruction has its target, and others have none
abbrev pub name_of : NameTable → SeqFn → Label → List ℕ
name_of names fn.Name label = qualified label.prefix (local_at names label.number)
name_of names fn.LocalName label = local_at names label.number
name_of names f label = uri_at names label.number

abbrev pub target_for : SeqFn → List ℕ → List ℕ
target_for fn.Name target = target
target_for fn.LocalName target = target
target_for f target = []

abbrev pub name_in : NameTable → SeqFn → Content → List ℕ
name_in names f content.document = []
name_in names f (content.element e) = name_of names f e.label
name_in names f (content.attribute a) = name_of names f a.label
name_in names f (content.text s) = []
name_in names f (content.instruction target s) = target_for f target

-- of one node at most
abbrev pub name_answer : Env → SeqFn → List Item → Result (List ℕ) Code
name_answer env f [] = Ok []
name_answer env f (node tree n ∷ []) = Ok (name_in env.names f (seen_at (places_in env tree) n))
name_answer env f (atom a ∷ []) = Err code.Xpty0004
name_answer env f (x ∷ y ∷ more) = Err code.Xpty0004

abbrev pub name_value : Env → SeqFn → Selected → Value
name_value env f s = do
  items ← value_of env.limits.list s
  name ← coded (name_answer env f items)
  Ok (items_of (atoms.Str name ∷ []))

-- ---- parts of sequences

-- by the items of the first argument alone
abbrev pub part_of : SeqFn → List Item → Result (List Item) Code
part_of fn.Head items = Ok (head_of items)
part_of fn.Tail items = Ok (tail_of items)
part_of fn.Reverse items = Ok (reverse items)
part_of fn.ZeroOrOne items = zero_or_one items
part_of fn.OneOrMore items = one_or_more items
part_of f items = exactly_one items

abbrev pub part_value : Env → SeqFn → Selected → Value
part_value env f s = do
  items ← value_of env.limits.list s
  coded (part_of f items)

-- the items at positions: all arguments are values first, and those behind the first one atoms then
abbrev pub between : Env → List (List Item) → Value
between env [] = Ok []
between env (items ∷ numbers) = do
  as' ← all_atoms env numbers
  coded (subsequence_of items (argument as' 0) (slice_get as' 1))

abbrev pub subsequence_value : Env → List Selected → Value
subsequence_value env args = do
  all ← values env.limits.list args
  between env all

-- ---- functions of the context

-- where there is a context item
abbrev pub with_item : Option Item → Value → Value
with_item None value = Err (stop.Code code.Xpdy0002)
with_item (Some x) value = value

abbrev pub number_item : ℤ → Value
number_item n = Ok (items_of (atoms.Int n ∷ []))

abbrev pub last_value : Result ℤ Stop → Value
last_value last = do
  n ← last
  number_item n

-- the current group, and its key (XSLT 3.0, 14.2.1 and 14.2.2)
abbrev pub group_of : Option Group → Selected
group_of None = stopped (stop.Code code.Xtde1061)
group_of (Some g) = selected g.members g.end

abbrev pub key_of : Option Group → Value
key_of None = Err (stop.Code code.Xtde1071)
key_of (Some g) = Ok (items_of (g.key ∷ []))

-- ---- accumulators (XSLT 3.0, 18.2.6 and 18.2.7)

abbrev pub is_node_equal : Node → Node → Bool
is_node_equal (nodes.At j) (nodes.At k) = nat_eq j k
is_node_equal (nodes.Attr j h) (nodes.Attr k i) = nat_eq j k && nat_eq h i
is_node_equal m n = false

-- the values of an accumulator at a node, if they are among these
abbrev pub values_at : ℕ → Node → List ValueAt → Option ValueAt
values_at name n [] = None
values_at name n (v ∷ vs) = if nat_eq v.accumulator name && is_node_equal v.node n then Some v else values_at name n vs

-- after its start, or after its end
abbrev pub value_in : SeqFn → Option ValueAt → Value
value_in f None = Err (stop.Code code.Xtde3362)
value_in fn.AccumulatorBefore (Some v) = coded v.before
value_in f (Some v) = v.after

-- at a node of the document that is no attribute
abbrev pub accumulated_at : Env → SeqFn → ℕ → Tree → Node → Value
accumulated_at env f name tree (nodes.Attr k i) = Err (stop.Code code.Xtte3360)
accumulated_at env f name document (nodes.At k) = value_in f (values_at name (nodes.At k) env.accumulators)
accumulated_at env f name (handed j) (nodes.At k) = Err (stop.Code code.Xtde3362)
accumulated_at env f name (made way places) (nodes.At k) = Err (stop.Code code.Xtde3362)

abbrev pub accumulated : Env → SeqFn → ℕ → Option Item → Value
accumulated env f name None = Err (stop.Code code.Xpdy0002)
accumulated env f name (Some (atom a)) = Err (stop.Code code.Xtte3360)
accumulated env f name (Some (node tree n)) = accumulated_at env f name tree n

-- ---- functions on sequences

-- one atom
abbrev pub one_atom : Result Atom Stop → Value
one_atom answer = do
  a ← answer
  Ok (items_of (a ∷ []))

-- the atoms of items, one by one, up to the first that has none, and then this end
abbrev pub data_from : Env → SelEnd → List Item → Selected
data_from env end [] = selected [] end
data_from env end (x ∷ xs) = then_also (selection_of (one_atom (atom_of env x))) (data_from env end xs)

abbrev pub data_each : Env → Selected → Selected
data_each env s = data_from env s.end s.items

-- a function whose arguments are values, and then atoms
abbrev pub seq_answer : Env → SeqFn → List Selected → Value
seq_answer env f args = do
  as' ← argument_atoms env args
  answer ← coded (seq_call f as')
  Ok (items_of answer)

-- What a call of a function on sequences, nodes or the context selects. The number is that of the name of an accumulator.
abbrev pub called_seq : Way → Env → Focus → SeqFn → ℕ → List Selected → Selected
called_seq way env f fn.Name name args = selection_of (name_value env fn.Name (first_of (or_context f.item args)))
called_seq way env f fn.LocalName name args = selection_of (name_value env fn.LocalName (first_of (or_context f.item args)))
called_seq way env f fn.NamespaceUri name args = selection_of (name_value env fn.NamespaceUri (first_of (or_context f.item args)))
called_seq way env f fn.Count name args = selection_of (fold_of env fn.Count (first_of args))
called_seq way env f fn.Empty name args = selection_of (fold_of env fn.Empty (first_of args))
called_seq way env f fn.Exists name args = selection_of (fold_of env fn.Exists (first_of args))
called_seq way env f fn.Boolean name args = selection_of (fold_of env fn.Boolean (first_of args))
called_seq way env f fn.Not name args = selection_of (fold_of env fn.Not (first_of args))
called_seq way env f fn.Sum name args = selection_of (fold_of env fn.Sum (first_of args))
called_seq way env f fn.Avg name args = selection_of (fold_of env fn.Avg (first_of args))
called_seq way env f fn.Min name args = selection_of (fold_of env fn.Min (first_of args))
called_seq way env f fn.Max name args = selection_of (fold_of env fn.Max (first_of args))
called_seq way env f fn.DistinctValues name args = selection_of (fold_of env fn.DistinctValues (first_of args))
called_seq way env f fn.Data name args = data_each env (first_of (or_context f.item args))
called_seq way env f fn.Position name args = selection_of (with_item f.item (number_item f.position))
called_seq way env f fn.Last name args = selection_of (with_item f.item (last_value f.last))
called_seq way env f fn.Head name args = selection_of (part_value env fn.Head (first_of args))
called_seq way env f fn.Tail name args = selection_of (part_value env fn.Tail (first_of args))
called_seq way env f fn.Reverse name args = selection_of (part_value env fn.Reverse (first_of args))
called_seq way env f fn.ZeroOrOne name args = selection_of (part_value env fn.ZeroOrOne (first_of args))
called_seq way env f fn.OneOrMore name args = selection_of (part_value env fn.OneOrMore (first_of args))
called_seq way env f fn.ExactlyOne name args = selection_of (part_value env fn.ExactlyOne (first_of args))
called_seq way env f fn.Subsequence name args = selection_of (subsequence_value env args)
called_seq way env f fn.CopyOf name args = copied_each (copy_item env) (way ++ 1 ∷ []) (first_of (or_context f.item args))
called_seq way env f fn.Snapshot name args = copied_each (snapshot_item env) (way ++ 1 ∷ []) (first_of (or_context f.item args))
called_seq way env f fn.Current name args = context env.current
called_seq way env f fn.CurrentGroup name args = group_of env.group
called_seq way env f fn.CurrentGroupingKey name args = selection_of (key_of env.group)
called_seq way env f fn.AccumulatorBefore name args = selection_of (accumulated env fn.AccumulatorBefore name f.item)
called_seq way env f fn.AccumulatorAfter name args = selection_of (accumulated env fn.AccumulatorAfter name f.item)
called_seq way env f g name args = selection_of (seq_answer env g args)

-- What a call selects.
abbrev pub called : Way → Env → Focus → Function → Option ℕ → List Selected → Selected
called way env f (function.Text g) name args = selection_of (called_text env f g args)
called way env f (function.Seq g) name args = called_seq way env f g (unwrap_or name 0) args
