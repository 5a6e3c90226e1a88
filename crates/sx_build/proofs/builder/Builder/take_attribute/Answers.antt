use Rattle.sx_named.specs.Named.{attribute_at}
use Rattle.sx_build.proofs.Requests.{misplaced_taken}
use Rattle.sx_build.proofs.builder.Builder.take_attribute.Goals as goal

pub returns-in-None-clause-keeps : goal.returns-in-None-clause-keeps
returns-in-None-clause-keeps c = λ os held behind_atom fixed s.
    misplaced_taken os held behind_atom fixed c.args.self.now (attribute_at c.args.names.now c.args.attr) c.misplaced.result c.in-None.is c.misplaced.ensures s
