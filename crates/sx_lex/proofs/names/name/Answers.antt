use Rattle.std.proofs.Common.{◌≡◌, ◌≢◌, ◌∙◌, ◌+◌, ℕ, List, ap, sym, subst, eqb, length, get_or, arith}
use Rattle.std.proofs.lemmas.Bool.{eqb-true, eqb-false, not-true, not-false}
use Rattle.std.proofs.lemmas.List.{get_or_past}
use Rattle.sx_chars.specs.Names.{is_ncname}
use Rattle.sx_lex.specs.Fronts.{IsTextFront}
use Rattle.sx_lex.proofs.Colons.{name_none, single_token, any_local_token}
use Rattle.sx_lex.proofs.names.name.Goals as goal
use Rattle.sx_lex.proofs.names.name.Goals.{then-prefix-bytes, else-prefix-bytes}

pub returns-then-prefix-eq0 : goal.returns-then-prefix-eq0
returns-then-prefix-eq0 c =
    let s = c.args.text.now in
    name_none s c.utf8.text c.requires (subst (λ (k : ℕ). IsTextFront is_ncname s k) (let e = c.if-prefix-eq0.true in omega arith) c.ncname_size-prefix.ensures)

pub returns-then-bytes-prefix-ne58 : goal.returns-then-bytes-prefix-ne58
returns-then-bytes-prefix-ne58 c =
    let s = c.args.text.now in
    let n = c.ncname_size-prefix.result in
    let bytes = c.as_bytes-bytes.result.now in
    let same = c.as_bytes-bytes.ensures.value in
    let no_colon : get_or s n 0 ≢ 58 = λ colon. elim c.if-prefix-bytes.branch [
      | then-prefix-bytes w ↦ let e = w.if-prefix-bytes.true in omega (arith, get_or_past s n 0, ap length same)
      | else-prefix-bytes w ↦ eqb-false (get_or bytes n 0) 58 (not-true (eqb (get_or bytes n 0) 58) (sym w.value-is ∙ c.if-bytes-prefix-ne58.true)) (ap (λ (t : List ℕ). get_or t n 0) same ∙ colon)
    ] in
    single_token s n c.utf8.text c.requires c.ncname_size-prefix.ensures (let some = c.if-prefix-eq0.false in omega arith) (λ colon. absurd (no_colon colon)) (λ _ colon. absurd (no_colon colon))

pub returns-then-bytes-prefix-eq42 : goal.returns-then-bytes-prefix-eq42
returns-then-bytes-prefix-eq42 c =
    let s = c.args.text.now in
    let n = c.ncname_size-prefix.result in
    let bytes = c.as_bytes-bytes.result.now in
    let same = c.as_bytes-bytes.ensures.value in
    let colon : get_or s n 0 ≡ 58 = elim c.if-prefix-bytes.branch [
      | then-prefix-bytes w ↦ absurd (eqb-false n (length bytes) (sym w.value-is ∙ c.if-bytes-prefix-ne58.false) w.if-prefix-bytes.true)
      | else-prefix-bytes w ↦
          ap (λ (t : List ℕ). get_or t n 0) (sym same) ∙ eqb-true (get_or bytes n 0) 58 (not-false (eqb (get_or bytes n 0) 58) (sym w.value-is ∙ c.if-bytes-prefix-ne58.false))
    ] in
    any_local_token s n c.utf8.text c.requires c.ncname_size-prefix.ensures (let some = c.if-prefix-eq0.false in omega arith) (omega (arith, c.if-prefix-bytes-2.true, ap length same)) colon
    (ap (λ (t : List ℕ). get_or t (n + 1) 0) (sym same) ∙ c.if-bytes-prefix-eq42.true)
