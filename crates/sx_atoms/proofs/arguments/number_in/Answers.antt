use Rattle.std.proofs.Common.{◌≡◌, IfOk, Result, subst}
use Rattle.sx_atoms.specs.Casting.{cast_of}
use Rattle.sx_atoms.specs.declared.atoms.Atom.{Atom}
use Rattle.sx_atoms.specs.declared.atoms.AtomType.TheVariants as type
use Rattle.sx_atoms.specs.declared.error_codes.Code.{Code}
use Rattle.sx_atoms.specs.Arguments.{number_atom}
use Rattle.sx_atoms.proofs.ArgumentReadings.{untyped_number}
use Rattle.sx_atoms.proofs.arguments.number_in.Goals as goal

pub returns-in-Untyped : goal.returns-in-Untyped
returns-in-Untyped c =
    let e : cast_of c.args.atom.now type.Decimal ≡ number_atom c.args.atom.now = rw c.in-Untyped.is (untyped_number c.in-Untyped.field-0) in
    subst (λ (r : Result Atom Code). IfOk c.cast.result (λ a. a ≡ r)) e c.cast.ensures
