use Rattle.std.proofs.lemmas.Iterator.{YieldsList-from_chars, items_from_collect}
use Rattle.sx_fn_text.proofs.tables.characters.Goals as goal

pub returns : goal.returns
returns c = items_from_collect c.collect.result c.collect.ensures.ran (YieldsList-from_chars c.args.s.now c.utf8.s c.chars.ensures.rest)
