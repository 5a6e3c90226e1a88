use Rattle.std.proofs.Common.{◌≡◌, ℕ, List, ap, sym, subst, get_or, length, arith}
use Rattle.std.proofs.lemmas.Str.{IsCharBoundary-after_ascii}
use Rattle.std.specs.Str.{IsUtf8}
use Rattle.sx_esis.proofs.PlaceLemmas.{text_is_utf8}
use Rattle.sx_esis.proofs.form.text_behind.Goals as goal

pub range_from-requires : goal.range_from-requires
range_from-requires c =
    let line = c.args.line.now in
    let text = c.in-Ok.text.now in
    let same : text ≡ line = c.in-Ok.ensures.ok.0 in
    let some = c.requires.some in
    let ascii = c.requires.ascii in
    let utf8 : IsUtf8 text = subst IsUtf8 (sym same) (text_is_utf8 line c.in-Ok.ensures.ok.1) in
    λ _. IsCharBoundary-after_ascii text 0 utf8 (omega (arith, ap length same)) (let e = ap (λ (s : List ℕ). get_or s 0 0) same in omega arith)
