use Rattle.std.proofs.Common.{List, ℕ, Some, ap, ◌∙◌, sym}
use Rattle.sx_kinds.specs.declared.constructs.Instr.{Instr}
use Rattle.sx_sheet.specs.declared.stages.Stage.TheVariants as stage
use Rattle.sx_sheet.specs.Numbers.{text_with}
use Rattle.sx_sheet.specs.Machine.{SheetState, state_of_reader, with_instr}
use Rattle.sx_sheet.proofs.Stepping.{says_some}
use Rattle.sx_sheet.proofs.reader.Reader.in_text.Goals as goal

pub returns-in_ok-next-in-Says-clause-step : goal.returns-in_ok-next-in-Says-clause-step
returns-in_ok-next-in-Says-clause-step c names tokens =
    let s : SheetState = state_of_reader tokens c.args.self in
    let e = c.in_ok-next-in-Says.ensures.step tokens in
    let kept = c.text.ensures ∙ ap (λ (w : List ℕ). text_with c.args.construct w) c.in_ok-said-in-Says.ensures in
    rw c.in-Says.is (rw (says_some c.args.template c.args.construct s c.in-Says.said.now (sym c.if-not-is_empty.ensures)) (ap (λ (x : SheetState). Some x) (e ∙ ap (λ (i : Instr). with_instr s (stage.TextEnd c.args.template) i) kept)))

pub returns-in_ok-next-in-Ends-clause-step : goal.returns-in_ok-next-in-Ends-clause-step
returns-in_ok-next-in-Ends-clause-step c names tokens =
    let s : SheetState = state_of_reader tokens c.args.self in
    let e = c.in_ok-next-in-Ends.ensures.step tokens in
    let kept = c.text-empty.ensures ∙ ap (λ (w : List ℕ). text_with c.args.construct w) c.new.ensures in
    rw c.in-Ends.is (ap (λ (x : SheetState). Some x) (e ∙ ap (λ (i : Instr). with_instr s (stage.Body c.args.template) i) kept))
