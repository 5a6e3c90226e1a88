use Rattle.std.proofs.Common.{◌∙◌}
use Rattle.sx_lex.proofs.Runs.{alone}
use Rattle.sx_lex.proofs.names.is_first.Goals as goal

pub returns : goal.returns
returns c = c.is_ncname.ensures ∙ alone c.encode_utf8.result.now c.args.character c.encode_utf8.utf8 c.encode_utf8.ensures.value
