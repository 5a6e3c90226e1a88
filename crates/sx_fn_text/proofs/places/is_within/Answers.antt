use Rattle.sx_fn_text.proofs.Finds.{within_same}
use Rattle.sx_fn_text.proofs.places.is_within.Goals as goal

pub returns : goal.returns
returns c = within_same c.contains.result c.args.s.now c.args.t.now c.utf8.s c.utf8.t c.contains.ensures.cases
