use Rattle.sx_top.proofs.Stylesheets.{input_is}
use Rattle.sx_top.proofs.stylesheet.CollectorEventTaker.input.Goals as goal

pub returns : goal.returns
returns c = λ m names events w s. input_is c.args.self.now m names events w s
