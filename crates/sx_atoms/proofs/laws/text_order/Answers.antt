use Rattle.sx_atoms.proofs.Characters.{by_characters}
use Rattle.sx_atoms.proofs.laws.text_order.Goals as goal

pub returns : goal.returns
returns c = by_characters
