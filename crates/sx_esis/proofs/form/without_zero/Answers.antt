use Rattle.std.proofs.Common.{◌∙◌, ap, refl, eqb}
use Rattle.std.specs.List.{position_or_len}
use Rattle.sx_esis.proofs.PlaceLemmas.{zero_found, zero_nowhere}
use Rattle.sx_esis.proofs.form.without_zero.Goals as goal

pub returns-then-place_of-text-clause-err : goal.returns-then-place_of-text-clause-err
returns-then-place_of-text-clause-err c =
    (refl, zero_found c.args.text.now c.place_of.result (c.place_of.ensures.place ∙ ap (position_or_len (λ b. eqb b 0)) c.as_bytes.ensures.value) c.if-place_of-text.true)

pub returns-clause-ok : goal.returns-clause-ok
returns-clause-ok c =
    (refl, zero_nowhere c.args.text.now c.place_of.result (c.place_of.ensures.place ∙ ap (position_or_len (λ b. eqb b 0)) c.as_bytes.ensures.value) c.utf8.text c.if-place_of-text.false)
