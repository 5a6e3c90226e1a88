use Rattle.sx_atoms.specs.Arithmetic.{dec, quotient_of, whole_quotient_of, remainder_of}
use Rattle.sx_atoms.specs.Laws.{atom_of}
use Rattle.sx_atoms.specs.declared.atoms.Atom.TheVariants as atom
use Rattle.sx_atoms.proofs.Cuts.{divisor_given, whole_law, restored, quotient_law, product_law}
use Rattle.sx_atoms.proofs.laws.division.Goals as goal

pub returns-clause-whole : goal.returns-clause-whole
returns-clause-whole c = λ x y r q h g.
    let p = divisor_given whole_quotient_of x y (atom.Int q) h in
    whole_law x y r q p.0 p.1 (divisor_given remainder_of x y (atom_of r) g).1

pub returns-clause-restored : goal.returns-clause-restored
returns-clause-restored c = λ x y r p s q h g k l.
    let d = divisor_given whole_quotient_of x y (atom.Int q) h in
    restored x y r p s q d.0 d.1 (divisor_given remainder_of x y (atom_of r) g).1 k l

pub returns-clause-quotient : goal.returns-clause-quotient
returns-clause-quotient c = λ x y d h.
    let p = divisor_given quotient_of x y (atom.Dec (dec d)) h in
    quotient_law x y d p.0 p.1

pub returns-clause-product : goal.returns-clause-product
returns-clause-product c = product_law
