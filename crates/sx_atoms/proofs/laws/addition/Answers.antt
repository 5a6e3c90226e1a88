use Rattle.sx_atoms.proofs.Sums.{commutes, associates}
use Rattle.sx_atoms.proofs.laws.addition.Goals as goal

pub returns-clause-commutative : goal.returns-clause-commutative
returns-clause-commutative c = commutes

pub returns-clause-associative : goal.returns-clause-associative
returns-clause-associative c = associates
