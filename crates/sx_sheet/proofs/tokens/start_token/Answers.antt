use Rattle.std.proofs.Common.{◌≡◌, ◌∙◌, true, false, bytes_eq, sym}
use Rattle.sx_named.specs.Named.{attributes_at}
use Rattle.sx_sheet.specs.Tokens.{is_empty, is_plain_name, xslt_namespace}
use Rattle.sx_names.specs.Numbering.{uri_at, local_at}
use Rattle.sx_sheet.proofs.Told.{literal_starts}
use Rattle.sx_sheet.proofs.tokens.start_token.Goals as goal

pub returns-then-is_plain_name : goal.returns-then-is_plain_name
returns-then-is_plain_name c =
    let names = c.args.names.now in
    let label = c.args.label.now in
    let other : bytes_eq (uri_at names label.number) xslt_namespace ≡ false = rw (sym c.name_of.ensures.uri) (sym c.eq.ensures ∙ c.if-eq.false) in
    let bare : is_empty label.prefix ≡ true = sym c.is_unprefixed.ensures ∙ c.if-is_unprefixed.true in
    let plain : is_plain_name (local_at names label.number) ≡ true = rw (sym c.name_of.ensures.local) (sym c.is_plain_name.ensures ∙ c.if-is_plain_name.true) in
    record { token = c.if_bare.ensures names ∙ literal_starts names label (attributes_at names c.args.attrs.now) other bare plain }
