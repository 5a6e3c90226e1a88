use Rattle.std.proofs.Common.{◌∙◌, ◌<◌, ℕ, List, ap, sym, subst, length, eqb, arith}
use Rattle.std.proofs.lemmas.Result.{err_from_is_err_and}
use Rattle.std.proofs.lemmas.Slice.{between_from_start}
use Rattle.std.specs.List.{position_or_len}
use Rattle.std.specs.Str.{IsCharBoundary}
use Rattle.sx_chars.specs.Names.{is_qname}
use Rattle.sx_esis.specs.Forms.{HasValueAt, IsImplied}
use Rattle.sx_esis.proofs.FormLemmas.{at_space, behind_space, no_name, no_rest, rest_fault, implied, valued}
use Rattle.sx_esis.proofs.form.attribute.Goals as goal

pub range-requires-clause-end_boundary : goal.range-requires-clause-end_boundary
range-requires-clause-end_boundary c =
    let text = c.args.text.now in
    let is = c.place_of-name_length.ensures.place ∙ ap (position_or_len (λ b. eqb b 32)) c.as_bytes.ensures.value in
    at_space text c.place_of-name_length.result c.utf8.text is

pub returns-then-not-is_qname-clause-err : goal.returns-then-not-is_qname-clause-err
returns-then-not-is_qname-clause-err c =
    let text = c.args.text.now in
    let n = c.place_of-name_length.result in
    let is = c.place_of-name_length.ensures.place ∙ ap (position_or_len (λ b. eqb b 32)) c.as_bytes.ensures.value in
    no_name text n c.utf8.text is (ap is_qname (sym (c.range.ensures.value ∙ between_from_start text n)) ∙ sym c.is_qname.ensures ∙ c.if-not-is_qname.true)

pub returns-then-name_length-text-clause-err : goal.returns-then-name_length-text-clause-err
returns-then-name_length-text-clause-err c =
    let text = c.args.text.now in
    let n = c.place_of-name_length.result in
    let is = c.place_of-name_length.ensures.place ∙ ap (position_or_len (λ b. eqb b 32)) c.as_bytes.ensures.value in
    let name = ap is_qname (sym (c.range.ensures.value ∙ between_from_start text n)) ∙ sym c.is_qname.ensures ∙ c.if-not-is_qname.false in
    no_rest text n c.utf8.text is name (let all = c.if-name_length-text.true in omega arith)

pub range_from-requires : goal.range_from-requires
range_from-requires c =
    let text = c.args.text.now in
    let n = c.place_of-name_length.result in
    let is = c.place_of-name_length.ensures.place ∙ ap (position_or_len (λ b. eqb b 32)) c.as_bytes.ensures.value in
    let within : n < length text = let some = c.if-name_length-text.false in let most = c.place_of-name_length.ensures.within in omega (arith, ap length c.as_bytes.ensures.value) in
    λ _. behind_space text n c.utf8.text is within

pub returns-in_err-value_place-clause-err : goal.returns-in_err-value_place-clause-err
returns-in_err-value_place-clause-err c =
    let p = err_from_is_err_and c.from_residual.result c.from_residual.ensures.1 in
    let text = c.args.text.now in
    let n = c.place_of-name_length.result in
    let is = c.place_of-name_length.ensures.place ∙ ap (position_or_len (λ b. eqb b 32)) c.as_bytes.ensures.value in
    let name = ap is_qname (sym (c.range.ensures.value ∙ between_from_start text n)) ∙ sym c.is_qname.ensures ∙ c.if-not-is_qname.false in
    let within : n < length text = let some = c.if-name_length-text.false in let most = c.place_of-name_length.ensures.within in omega (arith, ap length c.as_bytes.ensures.value) in
    let fault = rw c.range_from.ensures.value at c.in_err-value_place.ensures.err in
    rw (p.1, p.2) (rest_fault text n c.utf8.text is name within c.in_err-value_place.field-0.0 fault)

pub returns-in-None-clause-ok : goal.returns-in-None-clause-ok
returns-in-None-clause-ok c =
    let text = c.args.text.now in
    let n = c.place_of-name_length.result in
    let is = c.place_of-name_length.ensures.place ∙ ap (position_or_len (λ b. eqb b 32)) c.as_bytes.ensures.value in
    let name = ap is_qname (sym (c.range.ensures.value ∙ between_from_start text n)) ∙ sym c.is_qname.ensures ∙ c.if-not-is_qname.false in
    let within : n < length text = let some = c.if-name_length-text.false in let most = c.place_of-name_length.ensures.within in omega (arith, ap length c.as_bytes.ensures.value) in
    let found = rw c.in-None.is at c.in_ok-value_place.ensures.ok in
    implied text n c.utf8.text is name within (subst IsImplied c.range_from.ensures.value found)

pub returns-in-Some-clause-ok : goal.returns-in-Some-clause-ok
returns-in-Some-clause-ok c =
    let text = c.args.text.now in
    let n = c.place_of-name_length.result in
    let place = c.in-Some.place in
    let is = c.place_of-name_length.ensures.place ∙ ap (position_or_len (λ b. eqb b 32)) c.as_bytes.ensures.value in
    let name = ap is_qname (sym (c.range.ensures.value ∙ between_from_start text n)) ∙ sym c.is_qname.ensures ∙ c.if-not-is_qname.false in
    let within : n < length text = let some = c.if-name_length-text.false in let most = c.place_of-name_length.ensures.within in omega (arith, ap length c.as_bytes.ensures.value) in
    let found = rw c.in-Some.is at c.in_ok-value_place.ensures.ok in
    let cut = rw c.in-Some.is at c.in_ok-value_place.ensures.boundary in
    valued text n c.utf8.text is name within place (subst (λ (s : List ℕ). HasValueAt s place) c.range_from.ensures.value found) (subst (λ (s : List ℕ). IsCharBoundary s place) c.range_from.ensures.value cut)
