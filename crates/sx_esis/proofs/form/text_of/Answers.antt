use Rattle.std.proofs.Common.{◌&&◌, Bool, ap, not, refl, eqb}
use Rattle.std.proofs.lemmas.Bool.{false_from_ne_true}
use Rattle.std.proofs.lemmas.Str.{IsUtf8-from_is_utf8}
use Rattle.std.specs.List.{list_all}
use Rattle.std.specs.Str.{is_utf8}
use Rattle.sx_esis.proofs.PlaceLemmas.{text_is_utf8}
use Rattle.sx_esis.proofs.form.text_of.Goals as goal

pub returns-in-Err-clause-err : goal.returns-in-Err-clause-err
returns-in-Err-clause-err c =
    let line = c.args.line.now in
    (refl, ap (λ (v : Bool). v && list_all (λ b. not (eqb b 0)) line) (false_from_ne_true (is_utf8 line) (λ is. c.in-Err.ensures (IsUtf8-from_is_utf8 line is))))

pub text-requires : goal.text-requires
text-requires c = text_is_utf8 c.args.line.now (c.is_plain.ensures c.if-is_plain.true)
