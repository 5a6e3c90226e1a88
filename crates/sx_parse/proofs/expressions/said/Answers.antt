use Rattle.sx_parse.specs.Says.{Meaning}
use Rattle.sx_parse.proofs.LiteralNodes.{literals_in}
use Rattle.sx_parse.proofs.expressions.said.Goals as goal

pub build-requires-clause-literals : goal.build-requires-clause-literals
build-requires-clause-literals c =
    let u = c.requires.1 in
    let m : Meaning = record { text = c.args.text.now; tokens = c.as_slice-3.result.now; scope = c.args.scope.now; numbers = c.as_slice-4.result.now; line = c.args.line } in
    rw (c.as_slice-5.ensures, u.nodes_are) (literals_in m u.tree (rw c.as_slice-3.ensures u.parts) (rw c.as_slice-3.ensures u.is.derives.tokens_are))
