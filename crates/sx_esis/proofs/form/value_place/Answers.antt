use Rattle.std.proofs.Common.{◌≡◌, ◌∙◌, ◌-◌, ℕ, ap, sym, subst, take, eqb, arith, true, false}
use Rattle.std.specs.List.{position_or_len}
use Rattle.std.specs.Str.{IsCharBoundary}
use Rattle.sx_esis.specs.Forms.{HasValueAt}
use Rattle.sx_esis.specs.Lines.{is_type}
use Rattle.sx_esis.proofs.FormLemmas.{at_space, rest_at, no_type, has_value}
use Rattle.sx_esis.proofs.form.value_place.Goals as goal

pub range-requires-clause-end_boundary : goal.range-requires-clause-end_boundary
range-requires-clause-end_boundary c =
    let rest = c.args.rest.now in
    let is = c.place_of-length.ensures.place ∙ ap (position_or_len (λ b. eqb b 32)) c.as_bytes.ensures.value in
    at_space rest c.place_of-length.result c.utf8.rest is

pub returns-then-not-is_type-clause-err : goal.returns-then-not-is_type-clause-err
returns-then-not-is_type-clause-err c =
    let rest = c.args.rest.now in
    let n = c.place_of-length.result in
    let is = c.place_of-length.ensures.place ∙ ap (position_or_len (λ b. eqb b 32)) c.as_bytes.ensures.value in
    let kind : is_type (take n rest) ≡ false =
    ap (λ (m : ℕ). is_type (take m rest)) (let e : n ≡ n - 0 = omega arith in e) ∙ ap is_type (sym c.range.ensures.value) ∙ sym c.is_type.ensures ∙ c.if-not-is_type.true in
    no_type rest n c.utf8.rest is (sym c.is_implied.ensures ∙ c.if-is_implied.false) kind

pub returns-clause-ok : goal.returns-clause-ok
returns-clause-ok c =
    let rest = c.args.rest.now in
    let n = c.place_of-length.result in
    let is = c.place_of-length.ensures.place ∙ ap (position_or_len (λ b. eqb b 32)) c.as_bytes.ensures.value in
    let kind : is_type (take n rest) ≡ true =
    ap (λ (m : ℕ). is_type (take m rest)) (let e : n ≡ n - 0 = omega arith in e) ∙ ap is_type (sym c.range.ensures.value) ∙ sym c.is_type.ensures ∙ c.if-not-is_type.false in
    subst (λ (m : ℕ). HasValueAt rest m) (sym c.min.ensures) (has_value rest n c.utf8.rest is (sym c.is_implied.ensures ∙ c.if-is_implied.false) kind)

pub returns-clause-boundary : goal.returns-clause-boundary
returns-clause-boundary c =
    let rest = c.args.rest.now in
    let n = c.place_of-length.result in
    let is = c.place_of-length.ensures.place ∙ ap (position_or_len (λ b. eqb b 32)) c.as_bytes.ensures.value in
    subst (λ (m : ℕ). IsCharBoundary rest m) (sym c.min.ensures) (rest_at rest n c.utf8.rest is).0
