-- The order of atoms (XPath 3.1, 3.7.1).
use Rattle.std.specs.Prelude.{Bool, false}
use Rattle.std.specs.Result.{result_unwrap_or}
use Rattle.sx_atoms.specs.Comparison.{comparison_of}
use Rattle.sx_atoms.specs.declared.atoms.Atom.{Atom}
use Rattle.sx_atoms.specs.declared.comparison.CmpOp.{CmpOp}

-- whether an operator holds of two values, of which what has no type is text; it does not where they have no order (3.7.1)
abbrev pub stands : CmpOp → Atom → Atom → Bool
stands operator a b = result_unwrap_or (comparison_of operator false a b) false
