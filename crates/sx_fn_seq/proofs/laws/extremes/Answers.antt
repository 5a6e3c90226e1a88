use Rattle.sx_fn_seq.proofs.Bests.{extreme_one, extreme_among, extreme_unbeaten}
use Rattle.sx_fn_seq.proofs.laws.extremes.Goals as goal

pub returns-clause-one : goal.returns-clause-one
returns-clause-one c = extreme_one

pub returns-clause-among : goal.returns-clause-among
returns-clause-among c = extreme_among

pub returns-clause-unbeaten : goal.returns-clause-unbeaten
returns-clause-unbeaten c = extreme_unbeaten
