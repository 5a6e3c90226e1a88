-- The text of nodes, and the atoms of items (XDM 3.1, 5.14 and 6; XPath 3.1, 2.4.2).
use Rattle.std.specs.Prelude.{ℕ, Bool, nat_lt, List, [], ◌∷◌, ◌++◌, length, map, Option, Some, None, Result, Ok, Err, if◌then◌else◌}
use Rattle.sx_atoms.specs.declared.atoms.Atom.{Atom}
use Rattle.sx_atoms.specs.declared.atoms.Atom.TheVariants as atoms
use Rattle.sx_atoms.specs.declared.error_codes.Code.TheVariants as code
use Rattle.sx_eval.specs.declared.values.Stop.{Stop}
use Rattle.sx_eval.specs.declared.values.Stop.TheVariants as stop
use Rattle.sx_eval.specs.Env.{Env, places_in}
use Rattle.sx_eval.specs.Items.{Item, node, atom, ◌>>=◌}
use Rattle.sx_tree.specs.declared.nodes.Node.{Node}
use Rattle.sx_tree.specs.declared.nodes.Node.TheVariants as nodes
use Rattle.sx_tree.specs.Places.{Content, document, element, attribute, text, instruction, Entry, Places}
use Rattle.sx_tree.specs.Seen.{seen_at, text_of}
use Rattle.sx_tree.specs.TreeView.{inside, is_open_node}

-- the characters of a text, and of nothing else
abbrev pub characters_of : Content → List ℕ
characters_of document = []
characters_of (element e) = []
characters_of (attribute a) = []
characters_of (text s) = s
characters_of (instruction target content) = []

-- the characters of all texts
abbrev pub characters : List Entry → List ℕ
characters [] = []
characters (e ∷ es) = characters_of e.content ++ characters es

-- the text of a node as far as it has come: that of all texts in it, or its own
abbrev pub text_so_far : Places → Node → List ℕ
text_so_far t (nodes.At k) = text_of (seen_at t (nodes.At k)) ++ characters (inside t k)
text_so_far t (nodes.Attr k i) = text_of (seen_at t (nodes.Attr k i))

-- a text that is no longer than the limit
abbrev pub short : ℕ → List ℕ → Result (List ℕ) Stop
short limit s = if nat_lt limit (length s) then Err (stop.Code code.Sxli0003) else Ok s

-- a text that may still go on, or not
abbrev pub ended_text : Bool → List ℕ → Result (List ℕ) Stop
ended_text is_open s = if is_open then Err stop.Open else Ok s

-- the text of a node: it is no longer than the limit, also as far as it has come, and the node has ended
abbrev pub text_of_node : Env → Places → Node → Result (List ℕ) Stop
text_of_node env t n = do
  s ← short env.limits.string (text_so_far t n)
  ended_text (is_open_node t n) s

-- the atom of a node with this text: of a processing instruction a string, else text without a type
abbrev pub atom_of_text : Content → List ℕ → Atom
atom_of_text document s = atoms.Untyped s
atom_of_text (element e) s = atoms.Untyped s
atom_of_text (attribute a) s = atoms.Untyped s
atom_of_text (text t) s = atoms.Untyped s
atom_of_text (instruction target content) s = atoms.Str s

-- the atom of an item
abbrev pub atom_of : Env → Item → Result Atom Stop
atom_of env (atom a) = Ok a
atom_of env (node tree n) = do
  s ← text_of_node env (places_in env tree) n
  Ok (atom_of_text (seen_at (places_in env tree) n) s)

-- the atoms of items, in their order
abbrev pub atoms_of : Env → List Item → Result (List Atom) Stop
atoms_of env [] = Ok []
atoms_of env (x ∷ xs) = do
  a ← atom_of env x
  as' ← atoms_of env xs
  Ok (a ∷ as')

-- the atom that an item is, which a node is not
abbrev pub as_atom : Item → Option Atom
as_atom (atom a) = Some a
as_atom (node tree n) = None

-- the items that atoms are
abbrev pub items_of : List Atom → List Item
items_of as' = map atom as'
