use Rattle.std.proofs.Common.{ap, ◌∙◌}
use Rattle.sx_build.specs.Build.{declaration_name}
use Rattle.sx_build.proofs.Pairs.{declared_here}
use Rattle.sx_build.proofs.withheld.Withheld.declare.Goals as goal

pub returns-clause-pairs : goal.returns-clause-pairs
returns-clause-pairs c = λ tail are.
    let me = c.args.self.now in
    declared_here me.declared.items c.args.binding me.pairs.items c.insert.new.self.items tail
    c.len.result c.len-2.result c.min-at.result c.in_ok-name.name c.in_ok-value.value
    (c.len.ensures ∙ me.declared.ok.0) (c.len-2.ensures ∙ me.pairs.ok.0) c.min-at.ensures
    (c.in_ok-name.ensures ∙ ap declaration_name c.prefix.ensures) (c.in_ok-value.ensures ∙ c.uri.ensures)
    c.in_ok-insert.ensures.items are
