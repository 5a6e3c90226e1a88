use Rattle.sx_fn_text.proofs.Wholes.{parts}
use Rattle.sx_fn_text.proofs.laws.parts.Goals as goal

pub returns : goal.returns
returns c = parts
