-- Functions that take their first argument item by item (XPath functions and operators 3.1, 5.4.2, 7.3, 14.1, 14.2.1 and 14.4).
use Rattle.std.specs.Prelude.{ℕ, Bool, true, false, nat_lt, nat_le, ◌-◌, ◌&&◌, List, [], ◌∷◌, ◌++◌, length, map, Option, Some, None, Result, Ok, Err, pos, not, ◌==◌, if◌then◌else◌}
use Rattle.sx_atoms.specs.Arguments.{text_argument}
use Rattle.sx_atoms.specs.Printing.{text_of}
use Rattle.sx_atoms.specs.declared.atoms.Atom.{Atom}
use Rattle.sx_atoms.specs.declared.atoms.Atom.TheVariants as atoms
use Rattle.sx_atoms.specs.declared.comparison.CmpOp.TheVariants as op
use Rattle.sx_atoms.specs.declared.error_codes.Code.{Code}
use Rattle.sx_atoms.specs.declared.error_codes.Code.TheVariants as code
use Rattle.sx_atoms.specs.declared.functions.SeqFn.{SeqFn}
use Rattle.sx_atoms.specs.declared.functions.SeqFn.TheVariants as fn
use Rattle.sx_eval.specs.declared.values.Stop.{Stop}
use Rattle.sx_eval.specs.declared.values.Stop.TheVariants as stop
use Rattle.sx_eval.specs.Env.{Env}
use Rattle.sx_eval.specs.Items.{Item, Value, coded, Selected, value_by, stop_at, ◌>>=◌}
use Rattle.sx_eval.specs.Strings.{short, atoms_of, as_atom, items_of}
use Rattle.sx_fn_seq.specs.Calls.{seq_call}
use Rattle.sx_fn_seq.specs.Distinct.{distinct_of}
use Rattle.sx_fn_seq.specs.Extremes.{extreme_of}
use Rattle.sx_fn_seq.specs.Sums.{total_of}
use Rattle.sx_fn_seq.specs.Truths.{effective_truth}

-- why an answer is none, if it is none
abbrev pub stop_in : {A : Type 0} → Result A Stop → Option Stop
stop_in (Ok a) = None
stop_in (Err s) = Some s

-- why a function has no answer to the items so far, if it has none
abbrev pub Failing : Type 0
Failing = List Item → Option Stop

-- the first of two stops
abbrev pub or_later : Option Stop → Option Stop → Option Stop
or_later None later = later
or_later (Some s) later = Some s

-- a value, unless there was a stop before it
abbrev pub value_after : Option Stop → Value → Value
value_after None value = value
value_after (Some s) value = Err s

-- the first stop of items, as they come behind those that were seen
abbrev pub first_failing : Failing → List Item → List Item → Option Stop
first_failing fails seen [] = None
first_failing fails seen (x ∷ xs) = or_later (fails (seen ++ x ∷ [])) (first_failing fails (seen ++ x ∷ []) xs)

-- The items of a selection, where none fails at its place and the end is done.
abbrev pub folded : Failing → Selected → Value
folded fails s = value_after (first_failing fails [] s.items) (value_by s.items (stop_at s.end))

-- ---- what fails at an item

-- its atom, or what a function makes of the atoms so far
abbrev pub atoms_fail : {A : Type 0} → Env → (List Atom → Result A Stop) → Failing
atoms_fail env f items = stop_in (do
  as' ← atoms_of env items
  f as')

-- no more distinct values than the limit
abbrev pub few_distinct : ℕ → List Atom → Result (List Atom) Stop
few_distinct limit as' = if nat_lt limit (length (distinct_of as')) then Err (stop.Code code.Sxli0004) else Ok as'

-- what fails at an item of a function's first argument; an average fails where the sum does
abbrev pub fails_of : Env → SeqFn → Failing
fails_of env fn.Boolean items = stop_in (coded (effective_truth (map as_atom items)))
fails_of env fn.Not items = stop_in (coded (effective_truth (map as_atom items)))
fails_of env fn.Sum items = atoms_fail env (λ as'. coded (total_of as')) items
fails_of env fn.Avg items = atoms_fail env (λ as'. coded (total_of as')) items
fails_of env fn.Min items = atoms_fail env (λ as'. coded (extreme_of op.Lt as')) items
fails_of env fn.Max items = atoms_fail env (λ as'. coded (extreme_of op.Gt as')) items
fails_of env fn.DistinctValues items = atoms_fail env (few_distinct env.limits.list) items
fails_of env f items = None

-- ---- what is answered

-- a truth value
abbrev pub truth_item : Bool → List Item
truth_item b = items_of (atoms.Bool b ∷ [])

-- what a function answers to the atoms of items
abbrev pub answer_of_atoms : Env → SeqFn → List Item → Value
answer_of_atoms env f items = do
  as' ← atoms_of env items
  answer ← coded (seq_call f (as' ∷ []))
  Ok (items_of answer)

-- what a function answers to all items: some count nodes as they are, and the others ask for atoms
abbrev pub answer_to_all : Env → SeqFn → List Item → Value
answer_to_all env fn.Count items = Ok (items_of (atoms.Int (pos (length items)) ∷ []))
answer_to_all env fn.Empty items = Ok (truth_item (length items == 0))
answer_to_all env fn.Exists items = Ok (truth_item (not (length items == 0)))
answer_to_all env fn.Boolean items = do
  b ← coded (effective_truth (map as_atom items))
  Ok (truth_item b)
answer_to_all env fn.Not items = do
  b ← coded (effective_truth (map as_atom items))
  Ok (truth_item (not b))
answer_to_all env f items = answer_of_atoms env f items

-- A function of one argument, which it takes item by item.
abbrev pub fold_of : Env → SeqFn → Selected → Value
fold_of env f s = do
  items ← folded (fails_of env f) s
  answer_to_all env f items

-- ---- joined strings

-- a text, or none
abbrev pub text_or_none : Result (List ℕ) Code → List ℕ
text_or_none (Ok s) = s
text_or_none (Err c) = []

-- the text between two items as far as it counts: none where the separator has none
abbrev pub counted_separator : Result (List Atom) Stop → List ℕ
counted_separator (Ok as') = text_or_none (text_argument as')
counted_separator (Err s) = []

-- whether it has not come
abbrev pub is_open_value : Result (List Atom) Stop → Bool
is_open_value (Ok as') = false
is_open_value (Err stop.Open) = true
is_open_value (Err (stop.Code c)) = false

-- the texts of atoms with a separator between two
abbrev pub joined : List ℕ → List Atom → List ℕ
joined separator [] = []
joined separator (a ∷ []) = text_of a
joined separator (a ∷ b ∷ as') = text_of a ++ separator ++ joined separator (b ∷ as')

-- a code behind so many items: where the separator has not come, their text may be too long by separators, which has a code of
-- its own before this one
abbrev pub behind_items : Bool → ℕ → Stop → Stop
behind_items separator_open count stop.Open = stop.Open
behind_items separator_open count (stop.Code code.Sxli0003) = stop.Code code.Sxli0003
behind_items separator_open count (stop.Code c) = if separator_open && nat_le 2 count then stop.Open else stop.Code c

abbrev pub option_behind : Bool → ℕ → Option Stop → Option Stop
option_behind separator_open count None = None
option_behind separator_open count (Some s) = Some (behind_items separator_open count s)

-- what fails at an item: its atom, or the text so far is too long
abbrev pub join_fails : Env → Result (List Atom) Stop → Failing
join_fails env separator items =
    option_behind (is_open_value separator) (length items - 1)
    (atoms_fail env (λ as'. short env.limits.string (joined (counted_separator separator) as')) items)

-- the items, where none fails and the end is done
abbrev pub join_items : Env → Result (List Atom) Stop → Selected → Value
join_items env separator s =
    value_after (first_failing (join_fails env separator) [] s.items)
    (value_by s.items (option_behind (is_open_value separator) (length s.items) (stop_at s.end)))

-- The texts of the first argument, joined: its items come first, then the separator.
abbrev pub join_of : Env → Selected → Result (List Atom) Stop → Value
join_of env s separator = do
  items ← join_items env separator s
  as' ← atoms_of env items
  between ← separator
  text ← coded (text_argument between)
  Ok (items_of (atoms.Str (joined text as') ∷ []))
