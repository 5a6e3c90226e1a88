use Rattle.std.proofs.Common.{◌∙◌, not, eqb, arith}
use Rattle.std.proofs.lemmas.List.Sums.{prefix_len-le-length}
use Rattle.sx_esis.proofs.PlaceLemmas.{place_is}
use Rattle.sx_esis.proofs.places.place_of.Goals as goal

pub returns-clause-place : goal.returns-clause-place
returns-clause-place c = c.unwrap_or.ensures ∙ place_is c.args.mark c.args.bytes.now c.memchr.result c.memchr.ensures

pub returns-clause-within : goal.returns-clause-within
returns-clause-within c =
    let bytes = c.args.bytes.now in
    let is = c.unwrap_or.ensures ∙ place_is c.args.mark bytes c.memchr.result c.memchr.ensures in
    let most = prefix_len-le-length (λ b. not (eqb b c.args.mark)) bytes in
    omega arith
