use Rattle.sx_build.proofs.Later.{grows, error_stays, stops}
use Rattle.sx_build.proofs.laws.growth.Goals as goal

pub returns-clause-adds : goal.returns-clause-adds
returns-clause-adds c = grows

pub returns-clause-stays : goal.returns-clause-stays
returns-clause-stays c = error_stays

pub returns-clause-stops : goal.returns-clause-stops
returns-clause-stops c = stops
