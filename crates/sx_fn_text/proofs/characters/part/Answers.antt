use Rattle.std.proofs.Common.{◌-◌}
use Rattle.std.proofs.lemmas.Iterator.{YieldsList-from_chars, YieldsList-from_take, text_from_collect}
use Rattle.std.proofs.lemmas.Iterator.Adapters.{YieldsList-from_skip}
use Rattle.std.proofs.lemmas.Iterator.Consumers.{YieldsList-at}
use Rattle.sx_fn_text.proofs.characters.part.Goals as goal

pub returns : goal.returns
returns c =
    let behind = YieldsList-from_skip c.args.from (YieldsList-at c.skip.ensures.source (YieldsList-from_chars c.args.s.now c.utf8.s c.chars.ensures.rest)) c.skip.ensures.count in
    let road = YieldsList-from_take (c.args.to - c.args.from) (YieldsList-at c.take.ensures.source behind) c.take.ensures.count in
    text_from_collect c.collect.result c.collect.ensures.ran road
