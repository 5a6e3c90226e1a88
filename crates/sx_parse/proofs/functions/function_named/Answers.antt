use Rattle.std.proofs.Common.{◌∙◌, None, ap, sym}
use Rattle.sx_parse.specs.Checks.{functions, constructors}
use Rattle.sx_parse.specs.Lexemes.{found}
use Rattle.sx_parse.proofs.Tables.{function_fn, function_xs}
use Rattle.sx_parse.proofs.functions.function_named.Goals as goal

pub returns-then-eq : goal.returns-then-eq
returns-then-eq c =
    c.found.ensures ∙ ap (λ text. found functions text None) c.as_bytes.ensures.value ∙ sym (function_fn c.args.uri.now c.args.local.now (sym c.eq.ensures ∙ c.if-eq.true))

pub returns-then-eq-2 : goal.returns-then-eq-2
returns-then-eq-2 c =
    c.found-then-eq-2.ensures
    ∙ ap (λ text. found constructors text None) c.as_bytes-then-eq-2.ensures.value
    ∙ sym (function_xs c.args.uri.now c.args.local.now (sym c.eq.ensures ∙ c.if-eq.false) (sym c.eq-else-eq.ensures ∙ c.if-eq-2.true))
