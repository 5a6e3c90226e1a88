use Rattle.std.proofs.Common.{◌∙◌}
use Rattle.std.proofs.lemmas.Str.Pattern.{ends_text}
use Rattle.sx_fn_text.proofs.Finds.{ends_same}
use Rattle.sx_fn_text.proofs.places.ends.Goals as goal

pub returns : goal.returns
returns c = ends_text c.ends_with.result c.args.t.now c.args.s.now c.ends_with.ensures.cases ∙ ends_same c.args.s.now c.args.t.now c.utf8.s c.utf8.t
