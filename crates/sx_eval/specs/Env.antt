-- What an expression is evaluated with: its focus, and what is known around it (XPath 3.1, 2.1.2; XSLT 3.0, 5.3.4).
use Rattle.std.specs.Prelude.{ℕ, suc, ◌==◌, ◌++◌, List, [], ◌∷◌, Option, Some, None, Result, Ok, Err, ℤ, pos, length, slice_get, unwrap_or, if◌then◌else◌}
use Rattle.sx_atoms.specs.declared.atoms.Atom.{Atom}
use Rattle.sx_atoms.specs.declared.error_codes.Code.{Code}
use Rattle.sx_axes.specs.declared.ends.SelEnd.{SelEnd}
use Rattle.sx_eval.specs.declared.values.Stop.{Stop}
use Rattle.sx_eval.specs.Items.{Tree, document, handed, made, Item, Value, Selected, stop_at}
use Rattle.sx_limits.specs.declared.limits.Limits.{Limits}
use Rattle.sx_names.specs.Numbering.{NameTable}
use Rattle.sx_tree.specs.declared.nodes.Node.{Node}
use Rattle.sx_tree.specs.Places.{Places}

-- ---- what is known around an expression

-- the value of a variable
pub record Binding : Type 0 where
  pub name : ℕ
  pub items : List Item

-- the current group, as far as it has come, and its key (XSLT 3.0, 14.2)
pub record Group : Type 0 where
  pub key : Atom
  pub members : List Item
  pub end : SelEnd

-- the values of an accumulator at a node of the document: after its start, and after its end (XSLT 3.0, 18.2)
pub record ValueAt : Type 0 where
  pub accumulator : ℕ
  pub node : Node
  pub before : Result (List Item) Code
  pub after : Value

-- the document; the trees that were handed in; the names; the variables, of two with one name the later one counting; the item
-- of the instruction; the group; the values of accumulators; and the limits
pub record Env : Type 0 where
  pub document : Places
  pub copies : List Places
  pub names : NameTable
  pub vars : List Binding
  pub current : Option Item
  pub group : Option Group
  pub accumulators : List ValueAt
  pub limits : Limits

-- no nodes
abbrev pub no_places : Places
no_places = record { entries = []; level = 0 }

-- the nodes of a tree
abbrev pub places_in : Env → Tree → Places
places_in env document = env.document
places_in env (handed k) = unwrap_or (slice_get env.copies k) no_places
places_in env (made way places) = places

-- the value of the last variable of a name, or what was found before
abbrev pub latest : ℕ → List Binding → Option (List Item) → Option (List Item)
latest name [] found = found
latest name (v ∷ vs) found = latest name vs (if v.name == name then Some v.items else found)

-- the same with one more variable
abbrev pub with_variable : Env → ℕ → List Item → Env
with_variable env name items = record env { vars = env.vars ++ record { name = name; items = items } ∷ [] }

-- ---- the focus

-- the context item, its position, and the number of items that are gone through
pub record Focus : Type 0 where
  pub item : Option Item
  pub position : ℤ
  pub last : Result ℤ Stop

-- how many items a selection has, where it is done
abbrev pub last_by : ℕ → Option Stop → Result ℤ Stop
last_by count None = Ok (pos count)
last_by count (Some s) = Err s

abbrev pub last_of : Selected → Result ℤ Stop
last_of s = last_by (length s.items) (stop_at s.end)

-- the focus at an item, which is at this place from 0
abbrev pub focus_at : Result ℤ Stop → ℕ → Item → Focus
focus_at last k x = record { item = Some x; position = pos (suc k); last = last }
