use Rattle.sx_types.proofs.Alternatives.{pattern_stays}
use Rattle.sx_types.proofs.laws.pattern_again.Goals as goal

pub returns : goal.returns
returns c = pattern_stays
