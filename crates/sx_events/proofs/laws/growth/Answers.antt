use Rattle.sx_events.proofs.Growths.{grows, broken_stays}
use Rattle.sx_events.proofs.laws.growth.Goals as goal

pub returns-clause-grows : goal.returns-clause-grows
returns-clause-grows c = grows

pub returns-clause-broken : goal.returns-clause-broken
returns-clause-broken c = broken_stays
