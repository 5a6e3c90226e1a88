use Rattle.std.proofs.Common.{ap, ◌∙◌}
use Rattle.sx_lines.specs.Print.{escape}
use Rattle.sx_lines.proofs.Escapes.{read_none}
use Rattle.sx_lines.proofs.unescaping.read_text.Goals as goal

pub returns-in-Some-clause-none : goal.returns-in-Some-clause-none
returns-in-Some-clause-none c =
    read_none c.copy_utf8.result c.deref.result.now c.args.bytes.now (ap escape c.deref.ensures.value ∙ (rw c.in-Some.is at c.in_ok-out.ensures.found)) c.copy_utf8.ensures.none
