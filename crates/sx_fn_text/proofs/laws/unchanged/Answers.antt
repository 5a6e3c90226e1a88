use Rattle.sx_fn_text.proofs.Wholes.{unchanged}
use Rattle.sx_fn_text.proofs.laws.unchanged.Goals as goal

pub returns : goal.returns
returns c = unchanged
