use Rattle.std.proofs.Common.{◌≡◌, ◌+◌, ◌<◌, ◌^◌, true, arith, ◌∙◌, length}
use Rattle.std.proofs.lemmas.Bool.Decides.{nat_tests}
use Rattle.std.specs.Char.{is_ascii_digit}
use Rattle.std.specs.List.{list_all}
use Rattle.sx_atoms.specs.Lexical.{digits_value}
use Rattle.sx_atoms.proofs.Digits.{scaled, written}
use Rattle.sx_atoms.proofs.lexical.units.Goals as goal
use Rattle.sx_atoms.proofs.lexical.units.Goals.{then-is_empty, else-is_empty}

pub returns : goal.returns
returns c =
    let whole = c.args.whole.now in
    let fraction = c.args.fraction.now in
    let w : list_all is_ascii_digit whole ≡ true = cc in
    let f : list_all is_ascii_digit fraction ≡ true = cc in
    let some : 0 < length whole + length fraction = grind (arith, nat_tests) in
    c.with_sign.ensures ∙ written c.args.minus whole fraction c.saturating_mul-units.result w f some (omega arith)
    (scaled (10 ^ length whole) (length fraction) (digits_value whole) (digits_value fraction) c.saturating_mul-units.result c.append_digits.result c.append_digits-number.result (omega arith) c.append_digits.ensures c.append_digits-number.ensures cc)
