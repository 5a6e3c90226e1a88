use Rattle.std.proofs.Common.{arith}
use Rattle.sx_parse.proofs.Formed.{understood_pattern_formed}
use Rattle.sx_parse.proofs.Bounds.{few_alternatives}
use Rattle.sx_parse.proofs.patterns.pattern.Goals as goal

pub number_parts-requires : goal.number_parts-requires
number_parts-requires c =
    let u = c.requires.understood in
    let says = c.in_ok-expr.ensures.says u.tree u.nodes_are u.roles_are in
    let few = few_alternatives _ _ _ _ _ u _ c.in_ok-expr.expr c.in_ok-alternatives.alternatives says.1 c.in_ok-alternatives.ensures in
    let room = c.requires.room in
    let short = c.requires.short in
    omega (arith, few, room, short)

pub returns-clause-formed : goal.returns-clause-formed
returns-clause-formed c =
    let u = c.requires.understood in
    let says = c.in_ok-expr.ensures.says u.tree u.nodes_are u.roles_are in
    understood_pattern_formed _ _ _ _ _ u _ _ _ c.in_ok-expr.expr c.in_ok-alternatives.alternatives _ says.1 c.in_ok-alternatives.ensures c.in_ok-alternatives-2.ensures.exprs

pub returns-clause-grows : goal.returns-clause-grows
returns-clause-grows c =
    let u = c.requires.understood in
    let says = c.in_ok-expr.ensures.says u.tree u.nodes_are u.roles_are in
    let few = few_alternatives _ _ _ _ _ u _ c.in_ok-expr.expr c.in_ok-alternatives.alternatives says.1 c.in_ok-alternatives.ensures in
    let next = c.in_ok-alternatives-2.ensures.next in
    omega (arith, few, next)
