use Rattle.std.proofs.Common.{◌≡◌, drop}
use Rattle.sx_machine.specs.Body.{culprit}
use Rattle.sx_machine.proofs.streamability.culprit.Given as goal

abbrev pub invariant-loop-template : goal.invariant-loop-template
invariant-loop-template l = culprit (drop l.template-index l.sheet.templates) ≡ culprit l.sheet.templates
