-- Items, sequences of them and what ends these, as far as a tree has come (XDM 3.1, 2.1 and 2.5).
use Rattle.std.specs.Prelude.{ℕ, nat_lt, List, [], ◌++◌, length, Option, Some, None, Result, Ok, Err, if◌then◌else◌}
use Rattle.sx_atoms.specs.declared.atoms.Atom.{Atom}
use Rattle.sx_atoms.specs.declared.error_codes.Code.{Code}
use Rattle.sx_atoms.specs.declared.error_codes.Code.TheVariants as code
use Rattle.sx_axes.specs.declared.ends.SelEnd.{SelEnd}
use Rattle.sx_axes.specs.declared.ends.SelEnd.TheVariants as end
use Rattle.sx_eval.specs.declared.values.Stop.{Stop}
use Rattle.sx_eval.specs.declared.values.Stop.TheVariants as stop
use Rattle.sx_tree.specs.declared.nodes.Node.{Node}
use Rattle.sx_tree.specs.Places.{Places}

-- Where in an evaluation something is done: the numbers of the parts, and of the items for which they are evaluated, from the
-- outermost expression inward.
abbrev pub Way : Type 0
Way = List ℕ

-- A tree: the document; one that was handed in, by its number among them; or one that was made, by the way to where it was.
pub data Tree : Type 0 where
  document : Tree
  handed : ℕ → Tree
  made : Way → Places → Tree

-- an item: a node of a tree, or an atom
pub data Item : Type 0 where
  node : Tree → Node → Item
  atom : Atom → Item

-- ---- what is there for an expression as a whole

-- a strict value: all items, or why there are none
abbrev pub Value : Type 0
Value = Result (List Item) Stop

-- the code of a stop
abbrev pub coded : {A : Type 0} → Result A Code → Result A Stop
coded (Ok a) = Ok a
coded (Err c) = Err (stop.Code c)

infixl 20 ◌>>=◌
-- one behind another, up to the first stop
abbrev pub ◌>>=◌ : {A B : Type 0} → Result A Stop → (A → Result B Stop) → Result B Stop
(Ok a) >>= f = f a
(Err s) >>= f = Err s

-- no more items than the limit
abbrev pub within : ℕ → List Item → Value
within limit items = if nat_lt limit (length items) then Err (stop.Code code.Sxli0004) else Ok items

-- ---- selections

-- the items that come one by one, and where they end
pub record Selected : Type 0 where
  pub items : List Item
  pub end : SelEnd

abbrev pub selected : List Item → SelEnd → Selected
selected items end = record { items = items; end = end }

-- these, and no more
abbrev pub all_of : List Item → Selected
all_of items = selected items end.Done

-- the end that a stop is
abbrev pub end_at : Stop → SelEnd
end_at (stop.Code c) = end.Code c
end_at stop.Open = end.Open

-- the stop that an end is, if it is one
abbrev pub stop_at : SelEnd → Option Stop
stop_at end.Done = None
stop_at end.Open = Some stop.Open
stop_at (end.Code c) = Some (stop.Code c)

-- no items, and a stop
abbrev pub stopped : Stop → Selected
stopped s = selected [] (end_at s)

-- what comes behind these items, by their end
abbrev pub with_rest : List Item → SelEnd → Selected → Selected
with_rest items end.Done rest = selected (items ++ rest.items) rest.end
with_rest items end.Open rest = selected items end.Open
with_rest items (end.Code c) rest = selected items (end.Code c)

-- one selection behind another, where the first is done
abbrev pub then_also : Selected → Selected → Selected
then_also s rest = with_rest s.items s.end rest

-- the value of items with this end
abbrev pub value_by : List Item → Option Stop → Value
value_by items None = Ok items
value_by items (Some s) = Err s

-- The strict value of a selection: it has no more items than the limit, whatever its end; else they are all there.
abbrev pub value_of : ℕ → Selected → Value
value_of limit s = do
  items ← within limit s.items
  value_by items (stop_at s.end)

-- a strict value as a selection: its items come when all are known
abbrev pub selection_of : Value → Selected
selection_of (Ok items) = all_of items
selection_of (Err s) = stopped s
