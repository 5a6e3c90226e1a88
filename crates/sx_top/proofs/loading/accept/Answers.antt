use Rattle.std.proofs.Common.{sym, ◌∙◌}
use Rattle.sx_top.proofs.Loadings.{accepted_of, broken_of, roaming_of}
use Rattle.sx_top.proofs.loading.accept.Goals as goal

pub returns-in-Ok-Err-clause-judged : goal.returns-in-Ok-Err-clause-judged
returns-in-Ok-Err-clause-judged c = λ bytes are.
    broken_of c.args.names.now c.args.events.now bytes c.in-Ok-Err.fault.code c.in-Ok-Err.fault.line are (rw c.in-Ok-Err.field-0-is at c.in-Ok-Err.ensures.fault) ((rw c.in-Ok-Err.field-0-is at c.in-Ok-Err.ensures.line) are.known)

pub returns-in-Some-clause-judged : goal.returns-in-Some-clause-judged
returns-in-Some-clause-judged c = λ bytes are.
    roaming_of c.args.names.now c.args.events.now bytes c.read.new.names c.in-Ok-Ok.sheet c.in-Some.line are ((rw c.in-Ok-Ok.field-0-is at c.in-Ok-Ok.ensures.sheet) are.known) (sym c.culprit.ensures ∙ c.in-Some.is)

pub returns-in-None-clause-judged : goal.returns-in-None-clause-judged
returns-in-None-clause-judged c = λ bytes are.
    accepted_of c.args.names.now c.args.events.now bytes c.read.new.names c.in-Ok-Ok.sheet are ((rw c.in-Ok-Ok.field-0-is at c.in-Ok-Ok.ensures.sheet) are.known) (sym c.culprit.ensures ∙ c.in-None.is)
