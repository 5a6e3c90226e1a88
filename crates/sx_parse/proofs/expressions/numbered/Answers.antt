use Rattle.std.proofs.Common.{arith}
use Rattle.std.proofs.lemmas.Result.{IfOk-weaker}
use Rattle.sx_kinds.specs.Formed.{IsFormed}
use Rattle.sx_parse.specs.Checks.{takes_arguments}
use Rattle.sx_parse.proofs.Formed.{understood_formed}
use Rattle.sx_parse.proofs.Bounds.{few_constructs, on_ok}
use Rattle.sx_parse.proofs.expressions.numbered.Goals as goal

pub number-requires : goal.number-requires
number-requires c =
    let u = c.requires.understood in
    let says = c.in_ok-expr.ensures.says u.tree u.nodes_are u.roles_are in
    let few = few_constructs _ _ _ _ _ _ u _ c.in_ok-expr.expr says.1 in
    let room = c.requires.room in
    let short = c.requires.short in
    omega (arith, few, room, short)

pub returns-clause-formed : goal.returns-clause-formed
returns-clause-formed c =
    let u = c.requires.understood in
    let says = c.in_ok-expr.ensures.says u.tree u.nodes_are u.roles_are in
    IfOk-weaker c.number.result _ (IsFormed takes_arguments) (λ e is. understood_formed _ _ _ _ _ u _ _ _ c.in_ok-expr.expr e says.1 is) c.number.ensures.expr

pub returns-clause-grows : goal.returns-clause-grows
returns-clause-grows c =
    let u = c.requires.understood in
    let says = c.in_ok-expr.ensures.says u.tree u.nodes_are u.roles_are in
    let few = few_constructs _ _ _ _ _ _ u _ c.in_ok-expr.expr says.1 in
    on_ok c.number.result (λ next. omega (arith, few, next)) c.number.ensures.next
