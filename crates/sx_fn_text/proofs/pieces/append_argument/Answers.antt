use Rattle.std.proofs.Common.{[], sym, ap, ◌∙◌, ◌++◌, string_bytes}
use Rattle.std.proofs.lemmas.List.{append-nil}
use Rattle.std.proofs.lemmas.Str.{chars-nil}
use Rattle.std.specs.Str.{encode_utf8_all}
use Rattle.sx_fn_text.proofs.Prints.{printed_nothing}
use Rattle.sx_fn_text.proofs.pieces.append_argument.Goals as goal

pub returns-in-empty : goal.returns-in-empty
returns-in-empty c =
    let out = string_bytes c.args.out.now in
    ([], printed_nothing c.args.atoms.now c.in-empty.len_below, sym (ap (λ l. out ++ encode_utf8_all l) chars-nil ∙ append-nil out))
