use Rattle.std.proofs.lemmas.Result.{on_ok_weaker}
use Rattle.sx_machine.proofs.Readings.{read_before, read_behind}
use Rattle.sx_machine.proofs.plans.Plan.push.Goals as goal

pub returns-in-Some : goal.returns-in-Some
returns-in-Some c = on_ok_weaker c.push.result (λ pushed names.
    read_behind names c.args.self.now.before c.in-Some.after c.push.new.self c.args.self.now.behind c.args.raw c.in-Some.is pushed) c.push.ensures.ok

pub returns-in-None : goal.returns-in-None
returns-in-None c = on_ok_weaker c.push-in-None.result (λ pushed names.
    read_before names c.args.self.now.before c.push-in-None.new.self c.args.self.now.behind c.args.raw c.in-None.is pushed) c.push-in-None.ensures.ok
