use Rattle.std.proofs.Common.{◌≡◌, ◌∙◌, ap, sym, take, arith, false}
use Rattle.std.proofs.lemmas.Result.{err_from_is_err_and}
use Rattle.sx_esis.specs.Escapes.{is_character, number}
use Rattle.sx_esis.proofs.EscapeLemmas.{decimal_empty, decimal_open, decimal_other, decimal_fault, decimal_reads, digits_within}
use Rattle.sx_esis.proofs.NumberLemmas.{saturated_character, exact_character}
use Rattle.sx_esis.proofs.escapes.decimal.Goals as goal
use Rattle.sx_esis.proofs.escapes.decimal.Goals.{then-digits-eq0-via-then-digits-eq0, then-digits-eq0-via-else-digits-eq0+then-digits-bytes, then-digits-eq0-via-else-digits-eq0+else-digits-bytes+then-bytes-digits-ne59}

pub bounds-bytes-digits : goal.bounds-bytes-digits
bounds-bytes-digits c = digits_within c.args.bytes.now c.digit_count-digits.result c.digit_count-digits.ensures c.if-digits-bytes.false

pub returns-then-digits-eq0-clause-err : goal.returns-then-digits-eq0-clause-err
returns-then-digits-eq0-clause-err c =
    let bytes = c.args.bytes.now in
    let digits = c.digit_count-digits.result in
    let is = c.digit_count-digits.ensures in
    elim c.then-digits-eq0.branch [
      | then-digits-eq0-via-then-digits-eq0 w ↦ decimal_empty bytes digits is w.if-digits-eq0.true
      | then-digits-eq0-via-else-digits-eq0+then-digits-bytes w ↦ decimal_open bytes digits is (let e = w.if-digits-bytes.true in omega arith)
      | then-digits-eq0-via-else-digits-eq0+else-digits-bytes+then-bytes-digits-ne59 w ↦ decimal_other bytes digits is (digits_within bytes digits is w.if-digits-bytes.false) w.if-bytes-digits-ne59.true
    ]

pub returns-in_err-character-clause-err : goal.returns-in_err-character-clause-err
returns-in_err-character-clause-err c =
    let p = err_from_is_err_and c.from_residual.result c.from_residual.ensures.1 in
    let bytes = c.args.bytes.now in
    let digits = c.digit_count-digits.result in
    let is = c.digit_count-digits.ensures in
    let none : is_character (number 10 (take digits bytes)) ≡ false =
    sym (ap is_character c.decimal_number.ensures ∙ saturated_character (number 10 (take digits bytes))) ∙ c.in_err-character.ensures.err.1 in
    rw (p.1, p.2, c.in_err-character.ensures.err.0)
    (decimal_fault bytes digits is (let some = c.if-digits-eq0.false in omega arith) (digits_within bytes digits is c.if-digits-bytes.false) c.if-bytes-digits-ne59.false none)

pub returns-clause-ok : goal.returns-clause-ok
returns-clause-ok c =
    let bytes = c.args.bytes.now in
    let digits = c.digit_count-digits.result in
    let is = c.digit_count-digits.ensures in
    let one = ap is_character (sym c.decimal_number.ensures) ∙ c.in_ok-character.ensures.ok.1 in
    let exact = exact_character (number 10 (take digits bytes)) one in
    decimal_reads bytes digits is c.in_ok-character.character (let some = c.if-digits-eq0.false in omega arith) (digits_within bytes digits is c.if-digits-bytes.false) c.if-bytes-digits-ne59.false
    exact.0 (c.in_ok-character.ensures.ok.0 ∙ c.decimal_number.ensures ∙ exact.1)
