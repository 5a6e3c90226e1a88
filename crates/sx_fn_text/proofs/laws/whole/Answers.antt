use Rattle.sx_fn_text.proofs.Wholes.{whole}
use Rattle.sx_fn_text.proofs.laws.whole.Goals as goal

pub returns : goal.returns
returns c = whole
