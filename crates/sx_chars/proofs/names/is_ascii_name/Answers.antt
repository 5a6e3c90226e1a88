use Rattle.std.proofs.Common.{◌∙◌, ◌&&◌, ◌-◌, sym, ap, ltb, length, drop, arith, length-drop}
use Rattle.std.proofs.lemmas.List.{take_all}
use Rattle.std.specs.List.{list_all}
use Rattle.sx_chars.specs.Names.{is_further}
use Rattle.sx_chars.proofs.Ascii.{ascii_name}
use Rattle.sx_chars.proofs.names.is_ascii_name.Goals as goal

pub returns-then-is_ascii_first : goal.returns-then-is_ascii_first
returns-then-is_ascii_first c =
    let bytes = c.args.bytes.now in
    c.are_ascii_further.ensures
    ∙ ap (list_all (λ b. ltb b 128 && is_further b)) (take_all (length bytes - 1) (drop 1 bytes) (omega (arith, length-drop 1 bytes)))
    ∙ ascii_name bytes c.in-len1-up.len_at_least (sym c.is_ascii_first.ensures ∙ c.if-is_ascii_first.true)
