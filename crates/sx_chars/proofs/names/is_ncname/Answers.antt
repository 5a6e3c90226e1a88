use Rattle.std.proofs.Common.{◌∙◌, ◌&&◌, List, ℕ, sym, ap}
use Rattle.std.specs.List.{list_all}
use Rattle.sx_chars.specs.Names.{are_name}
use Rattle.sx_chars.proofs.Ascii.{is_ascii, is_name}
use Rattle.sx_chars.proofs.names.is_ncname.Goals as goal

pub returns-then-is_ascii_name : goal.returns-then-is_ascii_name
returns-then-is_ascii_name c =
    c.if-is_ascii_name.true
    ∙ sym (is_name c.args.text.now (ap (λ (s : List ℕ). list_all is_ascii s && are_name s) (sym c.as_bytes.ensures.value) ∙ sym c.is_ascii_name.ensures ∙ c.if-is_ascii_name.true))
