use Rattle.std.proofs.Common.{◌+◌, List, [], ◌∷◌, ◌++◌, drop, Result, Ok, ap, sym, ◌∙◌}
use Rattle.sx_atoms.specs.declared.error_codes.Code.{Code}
use Rattle.sx_kinds.specs.Patterns.{have_types, settled_each}
use Rattle.sx_kinds.specs.Settled.{typing_place}
use Rattle.sx_kinds.specs.declared.expressions.Expr.{Expr}
use Rattle.sx_types.specs.Settling.{next_alternative}
use Rattle.sx_types.proofs.Alternatives.{each_end, each_more, pattern_stays_at, types_more}
use Rattle.sx_types.proofs.patterns.settle_pattern.Goals as goal

pub loop-e-preserved : goal.loop-e-preserved
loop-e-preserved c =
    let context = c.args.context.now in
    let here = typing_place context c.args.group.now c.as_slice.result.now in
    let old = c.loop-e.done in
    let made = next_alternative here c.loop-e.known c.e-item.result in
    let rest = drop (c.loop-e.e-index + 1) c.as_slice-e-items.result.now in
    let is = c.in_ok-known.ensures in
    let inv = c.loop-e.invariant in (
      ap (λ (xs : List Expr). xs ++ settled_each here c.in_ok-known.known rest) is.0 ∙
          ap (λ (r : Result (Unit {0}) Code). (old ++ made ∷ []) ++ settled_each here r rest) is.1 ∙
          each_more here c.loop-e.known old c.as_slice-e-items.result.now c.loop-e.e-index c.e-item.result c.loop-e-test.true c.e-item.is ∙
          inv.0,
      is.1 ∙
          ap (λ (r : Result (Unit {0}) Code). have_types context r (made ∷ [])) inv.1 ∙
          sym (types_more context (Ok tt) old made) ∙
          ap (have_types context (Ok tt)) (sym is.0),
    )

pub returns-clause-stays : goal.returns-clause-stays
returns-clause-stays c =
    let here = typing_place c.args.context.now c.args.group.now c.as_slice.result.now in
    let inv = c.loop-e.invariant in
    let all = each_end here c.loop-e.known c.loop-e.done c.as_slice-e-items.result.now c.loop-e.e-index c.loop-e-test.false ∙
    inv.0 ∙ ap (settled_each here (Ok tt)) c.as_slice-e-items.ensures in
    pattern_stays_at c.args.pattern.now (record c.args.pattern.now { alternatives = c.loop-e.done }) c.args.context.now c.args.group.now c.args.vars.now
    c.as_slice.result.now c.as_slice.ensures
    (ap (λ (es : List Expr). record c.args.pattern.now { alternatives = es }) all)
