use Rattle.std.proofs.Common.{◌≡◌, true, Ok, ap}
use Rattle.sx_atoms.specs.Arithmetic.{dec}
use Rattle.sx_atoms.specs.Casting.{cast_of}
use Rattle.sx_atoms.specs.Laws.{atom_of, number_type, exact_content}
use Rattle.sx_atoms.specs.Numbers.{◌>>=◌, fits}
use Rattle.sx_atoms.specs.Printing.{text_of}
use Rattle.sx_atoms.specs.declared.atoms.Atom.TheVariants as atom
use Rattle.sx_atoms.specs.declared.numbers.Number.{Number}
use Rattle.sx_atoms.specs.declared.numbers.Number.TheVariants as number
use Rattle.sx_atoms.proofs.Printings.{integer_back, decimal_back}
use Rattle.sx_atoms.proofs.laws.printing.Goals as goal

back : (x : Number) → fits (exact_content x) ≡ true → cast_of (atom.Str (text_of (atom_of x))) (number_type x) ≡ Ok (atom_of x)
back (number.Int n) h = ap (λ r. r >>= (λ m. Ok (atom.Int m))) (integer_back n h)
back (number.Dec d) h = ap (λ r. r >>= (λ z. Ok (atom.Dec (dec z)))) (decimal_back d.0 h)

back_untyped : (x : Number) → fits (exact_content x) ≡ true → cast_of (atom.Untyped (text_of (atom_of x))) (number_type x) ≡ Ok (atom_of x)
back_untyped (number.Int n) h = ap (λ r. r >>= (λ m. Ok (atom.Int m))) (integer_back n h)
back_untyped (number.Dec d) h = ap (λ r. r >>= (λ z. Ok (atom.Dec (dec z)))) (decimal_back d.0 h)

pub returns-clause-text : goal.returns-clause-text
returns-clause-text c = back

pub returns-clause-untyped : goal.returns-clause-untyped
returns-clause-untyped c = back_untyped
