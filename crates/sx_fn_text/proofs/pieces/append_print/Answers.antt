use Rattle.std.proofs.Common.{◌∙◌, string_bytes, sym, ap, inl, inr}
use Rattle.sx_atoms.specs.Printing.{text_of}
use Rattle.sx_fn_text.proofs.Prints.{pushed}
use Rattle.sx_fn_text.proofs.pieces.append_print.Goals as goal

pub returns-in_ok-text-in_default : goal.returns-in_ok-text-in_default
returns-in_ok-text-in_default c =
    pushed c.push_str.result (string_bytes c.push_str.new.self) (string_bytes c.args.out.now) c.as_str.result.now (text_of c.args.atom.now) c.as_str.utf8
    (c.as_str.ensures ∙ c.in_ok-text-in_default.ensures) c.push_str.ensures.bytes

pub returns-in-Str : goal.returns-in-Str
returns-in-Str c =
    pushed c.push_str-in-Str.result (string_bytes c.push_str-in-Str.new.self) (string_bytes c.args.out.now) c.as_str-in-Str.result.now
    (text_of c.args.atom.now) c.as_str-in-Str.utf8
    (c.as_str-in-Str.ensures ∙ sym (elim c.in-Str.is [ inl e ↦ ap text_of e | inr e ↦ ap text_of e ])) c.push_str-in-Str.ensures.bytes
