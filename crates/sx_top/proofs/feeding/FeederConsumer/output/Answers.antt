use Rattle.sx_top.proofs.Feedings.{feeds_output}
use Rattle.sx_top.proofs.feeding.FeederConsumer.output.Goals as goal

pub returns : goal.returns
returns g c = λ written outcome b w ended f.
    feeds_output g.T.EventTaker.stands c.args.self.now written outcome b w ended f c.due.result.now (λ known events stands. c.due.ensures f.meaning known events w stands)
