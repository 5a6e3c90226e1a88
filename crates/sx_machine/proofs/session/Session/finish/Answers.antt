use Rattle.std.proofs.lemmas.Result.{on_ok_weaker}
use Rattle.sx_machine.proofs.session.Session.finish.Goals as goal

pub returns-clause-stands : goal.returns-clause-stands
returns-clause-stands c = on_ok_weaker c.feed.result (λ fed sheet known invocations p given keeps distinct follows s.
    fed sheet known invocations p given keeps distinct tt follows s) c.feed.ensures.stands
