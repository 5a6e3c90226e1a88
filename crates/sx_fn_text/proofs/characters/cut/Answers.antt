use Rattle.std.proofs.Common.{◌≤◌, subst, length, sym, ap, ◌∙◌, arith}
use Rattle.std.specs.Str.{chars, encode_utf8_all}
use Rattle.std.proofs.lemmas.Str.{encodes-chars, length-le-encodes}
use Rattle.sx_atoms.specs.Positions.{selects}
use Rattle.sx_atoms.specs.Ranges.{range_cut}
use Rattle.sx_fn_text.proofs.characters.cut.Goals as goal

pub returns : goal.returns
returns c =
    let s = c.args.s.now in
    let short : length (chars s) ≤ length s = subst (λ bs. length (chars s) ≤ length bs) (encodes-chars s c.utf8.s) (length-le-encodes (chars s)) in
    let e = range_cut (selects c.args.span.now) c.range-from.result.0 c.range-from.result.1 (chars s) c.range-from.ensures.order
    (λ p h. c.range-from.ensures.exact p (omega arith)) in
    c.from_string.ensures ∙ c.in_ok-part.ensures ∙ ap encode_utf8_all (sym e)
