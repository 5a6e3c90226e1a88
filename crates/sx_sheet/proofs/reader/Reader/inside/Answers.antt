use Rattle.std.proofs.Common.{ℕ, Some, ap, ◌∙◌, sym}
use Rattle.sx_sheet.specs.Machine.{SheetState, state_of_reader, with_literal}
use Rattle.sx_sheet.proofs.Stepping.{looked_up}
use Rattle.sx_sheet.proofs.reader.Reader.inside.Goals as goal

pub returns-in_ok-next-in-StartsLiteral-clause-step : goal.returns-in_ok-next-in-StartsLiteral-clause-step
returns-in_ok-next-in-StartsLiteral-clause-step c names look tokens h g =
    let n : ℕ = c.in-StartsLiteral.number in
    let s : SheetState = state_of_reader tokens c.args.self in
    let known = rw c.in-StartsLiteral.is at h in
    rw c.in-StartsLiteral.is (ap (λ (x : SheetState). Some x) (c.in_ok-next-in-StartsLiteral.ensures.step tokens) ∙ sym (looked_up names look n (with_literal c.args.line c.args.template s) known g))

pub returns-in_ok-next-in-StartsApply-clause-step : goal.returns-in_ok-next-in-StartsApply-clause-step
returns-in_ok-next-in-StartsApply-clause-step c names look tokens h g = rw c.in-StartsApply.is (ap (λ (x : SheetState). Some x) (c.in_ok-next-in-StartsApply.ensures.step tokens))
