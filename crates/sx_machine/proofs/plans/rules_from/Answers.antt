use Rattle.sx_machine.proofs.Rules.{rules_more}
use Rattle.sx_machine.proofs.plans.rules_from.Goals as goal

pub loop-template-preserved : goal.loop-template-preserved
loop-template-preserved c =
    rules_more c.args.templates.now c.loop-template.rules c.push.new.self c.loop-template.template-index c.template-item.result c.in_ok-rule_from.field-0
    c.loop-template-test.true c.template-item.is c.loop-template.invariant c.in_ok-rule_from.ensures c.in_ok-push.ensures.ok
