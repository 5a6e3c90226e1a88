use Rattle.std.proofs.Common.{take}
use Rattle.sx_machine.specs.Plan.{AreRulesOf}
use Rattle.sx_machine.proofs.plans.rules_from.Given as goal

abbrev pub invariant-loop-template : goal.invariant-loop-template
invariant-loop-template l = AreRulesOf (take l.template-index l.templates) l.rules
