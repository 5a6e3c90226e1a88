use Rattle.std.proofs.Common.{ℕ, suc, List, [], ◌∷◌, ◌++◌, drop, take, ap, subst, ◌∙◌, length-set}
use Rattle.sx_names.proofs.Places.{KeepsPlaces-trans}
use Rattle.sx_events.specs.Place.{Written}
use Rattle.sx_events.proofs.Namings.{Resolved, resolved_next, unbound}
use Rattle.sx_events.proofs.Values.{next_line, among, same_behind, once_more}
use Rattle.sx_events.proofs.starting.attributes.Goals as goal

pub returns-in-None-clause-bound : goal.returns-in-None-clause-bound
returns-in-None-clause-bound c =
    let lines = c.args.lines.now.items in
    let at = c.loop-at.at in
    let line = c.index.result.now in
    unbound c.args.names.now c.loop-at.names c.attribute_label.new.names c.args.scope.now (take at lines) c.loop-at.attrs line c.loop-at.invariant.2
    c.name.result.now (take c.args.count lines) (drop (suc at) (take c.args.count lines)) c.name.ensures
    (among lines c.loop-at.lines.items at c.args.count c.loop-at.invariant.0 c.loop-at-test.true c.requires line c.index.ensures)
    (rw c.in-None.is at c.in_ok-attribute_label.ensures.bound)

pub returns-in-None-clause-kept : goal.returns-in-None-clause-kept
returns-in-None-clause-kept c = KeepsPlaces-trans _ _ _ c.loop-at.invariant.2.kept c.in_ok-attribute_label.ensures.kept

pub returns-in_err-push-in-Some-clause-kept : goal.returns-in_err-push-in-Some-clause-kept
returns-in_err-push-in-Some-clause-kept c = KeepsPlaces-trans _ _ _ c.loop-at.invariant.2.kept c.in_ok-attribute_label.ensures.kept

pub loop-at-preserved : goal.loop-at-preserved
loop-at-preserved c =
    let lines = c.args.lines.now.items in
    let at = c.loop-at.at in
    let line = c.index.result.now in
    let same = c.loop-at.invariant.0 in
    let again = once_more lines c.loop-at.lines.items at c.args.count same c.loop-at-test.true c.requires line c.index.ensures
    c.index_mut.result.now c.loop-at.invariant.1 c.index_mut.ensures.value in (
      same_behind lines c.loop-at.lines.items at c.args.count same c.loop-at-test.true c.requires line c.index.ensures c.take_value-value.new.self,
      length-set c.loop-at.lines.items at c.take_value-value.new.self ∙ c.loop-at.invariant.1,
      subst (λ (ls : List Written). Resolved c.args.names.now c.attribute_label.new.names c.args.scope.now ls c.push.new.self)
          (next_line lines c.loop-at.lines.items at c.args.count same c.loop-at-test.true c.requires line c.index.ensures)
          (resolved_next c.args.names.now c.loop-at.names c.attribute_label.new.names c.args.scope.now (take at lines) c.loop-at.attrs line c.loop-at.invariant.2
          c.name.result.now c.in-Some.label c.push.new.self c.name.ensures c.in_ok-attribute_label.ensures.kept c.in_ok-attribute_label.ensures.distinct
          (rw c.in-Some.is at c.in_ok-attribute_label.ensures.bound) (rw c.in-Some.is at c.in_ok-attribute_label.ensures.name)
          (c.in_ok-push-in-Some.ensures.ok
          ∙ ap (λ (v : List ℕ). c.loop-at.attrs ++ record { label = c.in-Some.label; value = v } ∷ [])
          (c.take_value-value.ensures ∙ ap (λ (w : Written). w.value) again))),
    )
