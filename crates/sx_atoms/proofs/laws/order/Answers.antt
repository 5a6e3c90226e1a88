use Rattle.std.proofs.lemmas.Cmp.{int_cmp_total, on_total}
use Rattle.sx_atoms.specs.Numbers.{units}
use Rattle.sx_atoms.proofs.laws.order.Goals as goal

pub returns-clause-total : goal.returns-clause-total
returns-clause-total c = on_total units int_cmp_total
