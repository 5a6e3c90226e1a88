use Rattle.std.proofs.Common.{◌≡◌, List, [], ◌∷◌, ◌++◌, ap, sym, ◌∙◌}
use Rattle.sx_kinds.specs.Settled.{IsSettled, typing_place, settled_expression}
use Rattle.sx_kinds.specs.declared.expressions.Expr.{Expr}
use Rattle.sx_kinds.specs.declared.types.Ty.{Ty}
use Rattle.sx_kinds.specs.declared.types.VarType.{VarType}
use Rattle.sx_types.proofs.Again.{stays_settled}
use Rattle.sx_types.proofs.settling.settle.Goals as goal

-- the one that was put into an empty list is the one that is taken out
taken : (rest : List Expr) (new made : Expr) → rest ++ new ∷ [] ≡ made ∷ [] → new ≡ made
taken [] new made e = cc
taken (x ∷ []) new made e = absurd cc
taken (x ∷ y ∷ rest) new made e = absurd cc

stays : (old new : Expr) (context group : Ty) (vars scope : List VarType) → scope ≡ vars → new ≡ settled_expression old (typing_place context group scope) → IsSettled new (typing_place context group vars)
stays old new context group vars scope same is =
    let here = typing_place context group vars in
    let made = is ∙ ap (λ (vs : List VarType). settled_expression old (typing_place context group vs)) same in
    ap (λ (e : Expr). settled_expression e here) made ∙ stays_settled old here ∙ sym made

pub returns-in-Ok-clause-stays : goal.returns-in-Ok-clause-stays
returns-in-Ok-clause-stays c =
    let made = settled_expression c.args.e.now (typing_place c.args.context.now c.args.group.now c.as_slice.result.now) in
    let one = sym c.in-Some.ensures ∙ c.in_ok-answer.ensures.0 ∙ ap (λ (xs : List Expr). xs ++ made ∷ []) c.new-done.ensures in
    stays c.args.e.now c.in-Some.new c.args.context.now c.args.group.now c.args.vars.now c.as_slice.result.now c.as_slice.ensures
    (taken c.pop.new.self c.in-Some.new made one)

pub returns-clause-stays : goal.returns-clause-stays
returns-clause-stays c =
    let made = settled_expression c.args.e.now (typing_place c.args.context.now c.args.group.now c.as_slice.result.now) in
    let one = sym c.in-Some.ensures ∙ c.in_ok-answer.ensures.0 ∙ ap (λ (xs : List Expr). xs ++ made ∷ []) c.new-done.ensures in
    stays c.args.e.now c.in-Some.new c.args.context.now c.args.group.now c.args.vars.now c.as_slice.result.now c.as_slice.ensures
    (taken c.pop.new.self c.in-Some.new made one)
