use Rattle.std.proofs.Common.{◌∙◌}
use Rattle.std.proofs.lemmas.Str.Pattern.{starts_text}
use Rattle.sx_fn_text.proofs.Finds.{begins_same}
use Rattle.sx_fn_text.proofs.places.begins.Goals as goal

pub returns : goal.returns
returns c = starts_text c.starts_with.result c.args.t.now c.args.s.now c.starts_with.ensures.cases ∙ begins_same c.args.s.now c.args.t.now c.utf8.s c.utf8.t
