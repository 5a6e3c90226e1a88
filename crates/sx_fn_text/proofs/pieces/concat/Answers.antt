use Rattle.std.proofs.Common.{◌∙◌, subst, string_bytes}
use Rattle.sx_fn_text.specs.Pieces.{IsPrinted}
use Rattle.sx_fn_text.proofs.Prints.{concat_next}
use Rattle.sx_fn_text.proofs.pieces.concat.Goals as goal

pub loop-atoms-preserved : goal.loop-atoms-preserved
loop-atoms-preserved c =
    let atoms = c.atoms-item.result in
    let told = rw c.in_default.is at c.in_ok-code.ensures in
    let h : IsPrinted atoms (string_bytes c.loop-atoms.out) (string_bytes c.append_argument.new.out) =
    subst (λ l. IsPrinted l (string_bytes c.loop-atoms.out) (string_bytes c.append_argument.new.out)) c.as_slice.ensures told in
    concat_next (string_bytes c.loop-atoms.out) (string_bytes c.append_argument.new.out) c.args.args.now c.loop-atoms.atoms-index atoms
    c.loop-atoms-test.true c.atoms-item.is h ∙ c.loop-atoms.invariant
