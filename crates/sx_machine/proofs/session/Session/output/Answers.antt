use Rattle.std.proofs.Common.{List, drop, ap, ◌∙◌}
use Rattle.sx_lines.specs.declared.events.Built.{Built}
use Rattle.sx_machine.proofs.session.Session.output.Goals as goal

pub returns : goal.returns
returns c = λ sheet known invocations p given s.
    c.output.ensures s.builds.asked s.builds.at_end given s.builds.stands ∙ ap (λ (events : List Built). drop given events) s.builds.built_is
