use Rattle.sx_top.proofs.Stylesheets.{due_is}
use Rattle.sx_top.proofs.stylesheet.CollectorEventTaker.due.Goals as goal

pub returns : goal.returns
returns c = λ m names events w s. due_is c.args.self.now m names events w s
