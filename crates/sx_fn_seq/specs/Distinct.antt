-- Values that differ (XPath functions and operators 3.1, 14.2.1).
use Rattle.std.specs.Prelude.{Bool, if◌then◌else◌, List, [], ◌∷◌, ◌++◌}
use Rattle.std.specs.List.{list_any}
use Rattle.sx_atoms.specs.declared.atoms.Atom.{Atom}
use Rattle.sx_atoms.specs.declared.comparison.CmpOp.TheVariants as op
use Rattle.sx_fn_seq.specs.Order.{stands}

-- whether two atoms are equal by `eq`; values of different kinds are not, and what has no type is text (14.2.1)
abbrev pub are_equal : Atom → Atom → Bool
are_equal a b = stands op.Eq a b

-- whether an atom equals one of some
abbrev pub is_among : List Atom → Atom → Bool
is_among atoms a = list_any (λ x. are_equal x a) atoms

-- those items that none before them equals, behind items that stand before them all (14.2.1)
abbrev pub new_behind : List Atom → List Atom → List Atom
new_behind before [] = []
new_behind before (item ∷ rest) =
    if is_among before item then new_behind (before ++ item ∷ []) rest
    else item ∷ new_behind (before ++ item ∷ []) rest

-- the items that none before them equals (14.2.1)
abbrev pub distinct_of : List Atom → List Atom
distinct_of items = new_behind [] items
