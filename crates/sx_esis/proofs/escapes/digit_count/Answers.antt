use Rattle.std.proofs.Common.{◌∙◌, ap, length}
use Rattle.std.specs.Option.{unwrap_or}
use Rattle.sx_esis.proofs.EscapeLemmas.{is_no_digit}
use Rattle.sx_esis.proofs.PlaceLemmas.{position_or_length}
use Rattle.sx_esis.proofs.escapes.digit_count.Goals as goal

pub returns : goal.returns
returns c =
    let bytes = c.args.bytes.now in
    c.unwrap_or.ensures ∙ ap (λ o. unwrap_or o (length bytes)) c.place_of_no_digit.ensures ∙ position_or_length is_no_digit bytes
