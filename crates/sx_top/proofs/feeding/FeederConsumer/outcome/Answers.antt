use Rattle.sx_top.proofs.Feedings.{feeds_meaning, feeds_outcome}
use Rattle.sx_top.proofs.feeding.FeederConsumer.outcome.Goals as goal

pub returns-clause-is : goal.returns-clause-is
returns-clause-is g c = λ written outcome b w ended f. feeds_outcome g.T.EventTaker.stands c.args.self.now written outcome b w ended f

pub returns-clause-meaning : goal.returns-clause-meaning
returns-clause-meaning g c = λ written outcome b w ended f. feeds_meaning g.T.EventTaker.stands c.args.self.now written outcome b w ended f
