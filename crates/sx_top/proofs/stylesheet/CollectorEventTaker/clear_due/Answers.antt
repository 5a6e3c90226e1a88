use Rattle.sx_top.proofs.Stylesheets.{cleared}
use Rattle.sx_top.proofs.stylesheet.CollectorEventTaker.clear_due.Goals as goal

pub returns : goal.returns
returns c = λ m names events w s. cleared c.args.self.now m names events w s
