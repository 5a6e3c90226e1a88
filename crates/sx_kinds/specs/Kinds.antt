-- The kinds of items, by which types speak of them (XPath data model 3.1, 2.7; XPath 3.1, 2.5).
use Rattle.std.specs.Prelude.{ℕ, Bool, true, false, if◌then◌else◌, ◌&&◌, ◌||◌, ◌==◌, nat_le}
use Rattle.sx_atoms.specs.declared.atoms.Atom.{Atom}
use Rattle.sx_atoms.specs.declared.atoms.Atom.TheVariants as atoms
use Rattle.sx_atoms.specs.declared.atoms.AtomType.{AtomType}
use Rattle.sx_atoms.specs.declared.atoms.AtomType.TheVariants as to
use Rattle.sx_tree.specs.declared.steps.NodeTest.{NodeTest}
use Rattle.sx_tree.specs.declared.steps.NodeTest.TheVariants as tests
use Rattle.sx_atoms.specs.declared.arithmetic.ArithOp.{ArithOp}
use Rattle.sx_atoms.specs.declared.arithmetic.ArithOp.TheVariants as ops
use Rattle.sx_kinds.specs.declared.types.TyKind.{TyKind}
use Rattle.sx_kinds.specs.declared.types.TyKind.TheVariants as kinds

-- the kinds, from those of nodes to those of atoms, by number
abbrev pub rank : TyKind → ℕ
rank kinds.Document = 0
rank kinds.Element = 1
rank kinds.Attribute = 2
rank kinds.Text = 3
rank kinds.Pi = 4
rank kinds.Node = 5
rank kinds.Integer = 6
rank kinds.Decimal = 7
rank kinds.Str = 8
rank kinds.Boolean = 9
rank kinds.Untyped = 10
rank kinds.AnyAtom = 11
rank kinds.Any = 12
rank kinds.Nothing = 13

-- whether the items of a kind are nodes
abbrev pub is_node : TyKind → Bool
is_node kind = nat_le (rank kind) 5

-- whether they are atoms
abbrev pub is_atomic : TyKind → Bool
is_atomic kind = nat_le 6 (rank kind) && nat_le (rank kind) 11

-- whether a node may be among them
abbrev pub may_be_node : TyKind → Bool
may_be_node kind = is_node kind || rank kind == 12

-- whether a number may be among them
abbrev pub may_be_number : TyKind → Bool
may_be_number kinds.Integer = true
may_be_number kinds.Decimal = true
may_be_number kinds.AnyAtom = true
may_be_number kinds.Any = true
may_be_number _ = false

-- two kinds joined_kind: the one that both are, or the least that has both; `()` is neutral
abbrev pub joined_kind : TyKind → TyKind → TyKind
joined_kind a b =
    if rank a == 13 then b else
    if rank b == 13 then a else
    if rank a == rank b then a else
    if is_node a && is_node b then kinds.Node else
    if is_atomic a && is_atomic b then kinds.AnyAtom else kinds.Any

-- the kind of an item's atom (XPath data model 3.1, 5.15 and 6)
abbrev pub atomised : TyKind → TyKind
atomised kinds.Document = kinds.Untyped
atomised kinds.Element = kinds.Untyped
atomised kinds.Attribute = kinds.Untyped
atomised kinds.Text = kinds.Untyped
atomised kinds.Pi = kinds.Str
atomised kinds.Node = kinds.AnyAtom
atomised kinds.Any = kinds.AnyAtom
atomised kind = kind

-- the kind of what is compared or rounded as a number: nodes and untyped text are read as decimals
abbrev pub as_number : TyKind → TyKind
as_number kinds.Integer = kinds.Integer
as_number kinds.Decimal = kinds.Decimal
as_number kinds.Str = kinds.Str
as_number kinds.Boolean = kinds.Boolean
as_number kinds.AnyAtom = kinds.AnyAtom
as_number kinds.Any = kinds.AnyAtom
as_number kinds.Nothing = kinds.Nothing
as_number _ = kinds.Decimal

-- the kind of the least or the greatest of some items: of atoms that are untyped, it is read as a decimal (XPath functions and
-- operators 3.1, 14.4.3 and 14.4.4)
abbrev pub extreme : TyKind → TyKind
extreme kind = as_number (atomised kind)

-- the kind of a number that is this one with a sign (XPath 3.1, 3.5)
abbrev pub signed : TyKind → TyKind
signed kinds.Integer = kinds.Integer
signed kinds.Decimal = kinds.Decimal
signed _ = kinds.AnyAtom

-- the kind of a sum, a difference, a product or a remainder: that of integers is an integer, and a decimal makes a decimal
abbrev pub mixed : TyKind → TyKind → TyKind
mixed kinds.Integer kinds.Integer = kinds.Integer
mixed kinds.Decimal _ = kinds.Decimal
mixed _ kinds.Decimal = kinds.Decimal
mixed _ _ = kinds.AnyAtom

-- the kind of what an operator of arithmetic gives (3.5)
abbrev pub reckoned : ArithOp → TyKind → TyKind → TyKind
reckoned ops.Add a b = mixed (as_number a) (as_number b)
reckoned ops.Sub a b = mixed (as_number a) (as_number b)
reckoned ops.Mul a b = mixed (as_number a) (as_number b)
reckoned ops.Div a b = kinds.Decimal
reckoned ops.Idiv a b = kinds.Integer
reckoned ops.Mod a b = mixed (as_number a) (as_number b)

-- the kind of a sum of all items (XPath functions and operators 3.1, 14.4.5)
abbrev pub summed : TyKind → TyKind
summed kinds.Integer = kinds.Integer
summed _ = kinds.AnyAtom

-- the kind that an atomic type has
abbrev pub kind_of : AtomType → TyKind
kind_of to.Integer = kinds.Integer
kind_of to.Decimal = kinds.Decimal
kind_of to.Str = kinds.Str
kind_of to.Boolean = kinds.Boolean
kind_of to.Untyped = kinds.Untyped

-- the kind of an atom
abbrev pub kind_of_atom : Atom → TyKind
kind_of_atom (atoms.Int n) = kinds.Integer
kind_of_atom (atoms.Dec d) = kinds.Decimal
kind_of_atom (atoms.Str s) = kinds.Str
kind_of_atom (atoms.Bool b) = kinds.Boolean
kind_of_atom (atoms.Untyped s) = kinds.Untyped

-- the kind of a node that passes a test, on another axis than that of attributes (XPath 3.1, 3.3.2.2)
abbrev pub tested : NodeTest → TyKind
tested (tests.Name n) = kinds.Element
tested tests.AnyName = kinds.Element
tested (tests.InSpace uri) = kinds.Element
tested (tests.Local name) = kinds.Element
tested tests.Node = kinds.Node
tested tests.Text = kinds.Text
tested tests.Comment = kinds.Node
tested tests.Document = kinds.Document
tested (tests.Pi target) = kinds.Pi
tested (tests.Element name) = kinds.Element
tested (tests.Attribute name) = kinds.Attribute
