use Rattle.sx_fn_text.proofs.Wholes.{lengths}
use Rattle.sx_fn_text.proofs.laws.lengths.Goals as goal

pub returns : goal.returns
returns c = lengths
