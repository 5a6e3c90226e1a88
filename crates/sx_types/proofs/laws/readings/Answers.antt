use Rattle.sx_types.proofs.Known.{same_reading}
use Rattle.sx_types.proofs.laws.readings.Goals as goal

pub returns : goal.returns
returns c = same_reading
