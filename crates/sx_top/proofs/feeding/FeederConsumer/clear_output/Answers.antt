use Rattle.sx_top.proofs.Feedings.{feeds_cleared}
use Rattle.sx_top.proofs.feeding.FeederConsumer.clear_output.Goals as goal

pub returns-clause-taken : goal.returns-clause-taken
returns-clause-taken g c = λ written outcome b w ended f.
    feeds_cleared g.T.EventTaker.stands c.args.self.now written outcome b w ended f c.clear_due.new.self (λ known events stands. c.clear_due.ensures f.meaning known events w stands)
