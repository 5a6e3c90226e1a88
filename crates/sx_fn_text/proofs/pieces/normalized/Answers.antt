use Rattle.std.proofs.Common.{sym, ap, ◌∙◌, map-id}
use Rattle.std.proofs.lemmas.Iterator.{YieldsList-from_chars}
use Rattle.std.proofs.lemmas.Iterator.Consumers.{YieldsList-end}
use Rattle.std.specs.Str.{chars, encode_utf8_all}
use Rattle.sx_fn_text.proofs.Spaces.{written, walked}
use Rattle.sx_fn_text.proofs.pieces.normalized.Goals as goal

pub returns : goal.returns
returns c =
    let end = YieldsList-end (YieldsList-from_chars c.args.s.now c.utf8.s cc) c.loop-c.yielded _ c.loop-c.yielded_by _ _ c.in-None.is c.next.ensures.steps in
    c.from_string.ensures ∙ c.loop-c.invariant.0 ∙ ap (λ l. encode_utf8_all (written l).text) (sym (map-id c.loop-c.yielded) ∙ end.0)
    ∙ ap encode_utf8_all (walked (chars c.args.s.now))
