use Rattle.std.proofs.Common.{◌≡◌, ◌≢◌, ◌∙◌, ◌<◌, ◌+◌, ◌-◌, ℕ, List, ap, sym, length, take, drop, get_or, arith}
use Rattle.std.proofs.lemmas.List.{take_rest}
use Rattle.std.proofs.lemmas.List.Folds.{length-prefix_len}
use Rattle.std.specs.Char.{is_ascii_digit}
use Rattle.std.specs.List.{prefix_len}
use Rattle.sx_lex.proofs.Digits.{integer_token, decimal_token}
use Rattle.sx_lex.proofs.numbers.number.Goals as goal
use Rattle.sx_lex.proofs.numbers.number.Goals.{else-whole-bytes-via-then-whole-bytes+else-bytes-whole-eq46, else-whole-bytes-via-else-whole-bytes}

pub returns-then-bytes-whole-eq46 : goal.returns-then-bytes-whole-eq46
returns-then-bytes-whole-eq46 c =
    let s = c.args.text.now in
    let bytes = c.as_bytes-bytes.result.now in
    let same : bytes ≡ s = c.as_bytes-bytes.ensures.value in
    let w = c.digit_count-whole.result in
    let whole : w ≡ prefix_len is_ascii_digit s = c.digit_count-whole.ensures ∙ length-prefix_len is_ascii_digit bytes ∙ ap (prefix_len is_ascii_digit) same in
    let within : w < length s = omega (arith, c.if-whole-bytes.true, ap length same) in
    let point : get_or s w 0 ≡ 46 = ap (λ (t : List ℕ). get_or t w 0) (sym same) ∙ c.if-bytes-whole-eq46.true in
    let rest = take_rest bytes (w + 1) ∙ ap (drop (w + 1)) same in
    let fraction : c.digit_count-fraction.result ≡ prefix_len is_ascii_digit (drop (w + 1) s) =
    c.digit_count-fraction.ensures ∙ length-prefix_len is_ascii_digit (take (length bytes - (w + 1)) (drop (w + 1) bytes)) ∙ ap (prefix_len is_ascii_digit) rest in
    decimal_token s w c.digit_count-fraction.result c.utf8.text c.requires whole within point fraction

pub returns-else-whole-bytes : goal.returns-else-whole-bytes
returns-else-whole-bytes c =
    let s = c.args.text.now in
    let bytes = c.as_bytes-bytes.result.now in
    let same : bytes ≡ s = c.as_bytes-bytes.ensures.value in
    let w = c.digit_count-whole.result in
    let whole : w ≡ prefix_len is_ascii_digit s = c.digit_count-whole.ensures ∙ length-prefix_len is_ascii_digit bytes ∙ ap (prefix_len is_ascii_digit) same in
    let stop : w < length s → get_or s w 0 ≢ 46 = elim c.else-whole-bytes.branch [
      | else-whole-bytes-via-then-whole-bytes+else-bytes-whole-eq46 v ↦ λ within point. v.if-bytes-whole-eq46.false (ap (λ (t : List ℕ). get_or t w 0) same ∙ point)
      | else-whole-bytes-via-else-whole-bytes v ↦ λ within point. omega (arith, v.if-whole-bytes.false, ap length same)
    ] in
    integer_token s w c.utf8.text c.requires whole stop
