use Rattle.std.proofs.lemmas.Result.{on_ok_weaker}
use Rattle.sx_top.proofs.Stylesheets.{collected}
use Rattle.sx_top.proofs.stylesheet.CollectorEventTaker.take.Goals as goal

pub returns-clause-took : goal.returns-clause-took
returns-clause-took c =
    on_ok_weaker c.push.result
    (λ pushed m known events w kept distinct comes s. collected c.args.self.now _ m known c.args._names.now events w c.args.event c.args.line kept comes s pushed)
    c.push.ensures.ok
