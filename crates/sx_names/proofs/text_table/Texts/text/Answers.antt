use Rattle.std.proofs.Common.{◌≡◌, ◌-◌, Some, length, slice_get, get_or, string_bytes, ap, sym, refl, ◌∙◌, subst, arith}
use Rattle.std.proofs.lemmas.List.{length-map}
use Rattle.std.proofs.lemmas.Option.{slice_get_read}
use Rattle.sx_names.proofs.Search.{text_place}
use Rattle.sx_names.proofs.text_table.Texts.text.Goals as goal

pub returns : goal.returns
returns c =
    let s = c.index-others-number.result in
    let read : s ≡ get_or c.self.inside.others.keys (c.args.number - 1) s = subst (λ keys. s ≡ get_or keys (c.args.number - 1) s) c.as_slice-others.ensures.keys c.index-others-number.is in
    let count = length-map c.self.inside.others.keys (λ z. string_bytes z) in
    let there = slice_get_read c.self.inside.others.keys (length c.self.inside.others.keys) (c.args.number - 1) s refl (omega (arith, count, ap length c.self.view_is, c.requires)) read in
    subst (λ texts. slice_get texts c.args.number ≡ Some c.as_str.result.now) c.self.view_is
    (text_place c.self.inside.others.keys c.args.number s (omega arith) there ∙ ap Some (sym c.as_str.ensures.value))
