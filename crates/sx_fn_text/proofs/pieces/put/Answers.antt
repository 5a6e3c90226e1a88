use Rattle.std.proofs.Common.{ap, ◌∙◌, string_bytes, if◌then◌else◌, false, Bool, arith}
use Rattle.sx_fn_text.specs.Pieces.{is_begun}
use Rattle.sx_fn_text.proofs.Prints.{begun}
use Rattle.sx_fn_text.proofs.pieces.put.Goals as goal

pub returns-then-is_blank-clause-apart : goal.returns-then-is_blank-clause-apart
returns-then-is_blank-clause-apart c = λ cs e.
    let out = c.args.out.now in
    begun (string_bytes out) cs out.bytes.len c.is_empty.result e (omega (arith, out.bytes.ok.0)) c.is_empty.ensures
    ∙ ap (λ (b : Bool). if b then is_begun cs else false) c.if-is_blank.ensures
