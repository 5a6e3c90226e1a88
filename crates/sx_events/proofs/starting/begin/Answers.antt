use Rattle.std.proofs.Common.{ℕ, true, false, List, [], ◌∷◌, take, ap, ap₂, sym, ◌∙◌}
use Rattle.std.specs.Global.{Vec}
use Rattle.sx_names.proofs.Places.{KeepsPlaces-trans}
use Rattle.sx_tree.specs.declared.events.Space.{Space}
use Rattle.sx_events.specs.Place.{Written, declared_behind}
use Rattle.sx_events.specs.Standing.{HoldsOpen}
use Rattle.sx_events.specs.Starting.{spaces_fault, has_double_number}
use Rattle.sx_events.proofs.Starts.{start_fault_is, event_is, label_known}
use Rattle.sx_events.proofs.starting.begin.Goals as goal
use Rattle.sx_names.specs.Scope.{ScopeBindings}

pub returns-then-has_double-clause-begins : goal.returns-then-has_double-clause-begins
returns-then-has_double-clause-begins c = λ p holds around wait.
    let lines = take c.take-count.result.0 c.take-count.new.self.lines.items in
    let lines_are = ap₂ (λ (n : ℕ) (ls : Vec Written). take n ls.items) c.take-count.ensures.count c.take-count.ensures.lines ∙ wait.ordinary in
    let declared = c.take-count.result.1 in
    let declared_are = c.take-count.ensures.spaces ∙ wait.spaces in
    let entered = c.in_ok-enter.ensures.scope ∙ ap₂ (λ (s : List Space) (outer : ScopeBindings). declared_behind [] s ∷ outer) (c.as_slice-2.ensures ∙ declared_are) around in
    start_fault_is c.args.limits.now p c.args.name.now lines declared lines_are declared_are c.enter.new.self.scope entered c.element_label.new.names c.attributes.new.names c.attributes.ensures.kept
    c.in-Some-2.label c.in-Some-3.attrs
    (rw c.scope.ensures at (rw c.in-Some-2.is at c.in_ok-label.ensures.name)) (rw c.scope-2.ensures at (rw c.in-Some-3.is at c.in_ok-attrs.ensures.names))
    (ap spaces_fault (sym c.as_slice.ensures) ∙ sym c.spaces_fault.ensures ∙ c.in_default.is)
    (sym (c.is_full.ensures.is p.opened holds) ∙ c.if-is_full.false)
    (rw c.scope.ensures at (rw c.in-Some-2.is at c.in_ok-label.ensures.bound)) (rw c.scope-2.ensures at (rw c.in-Some-3.is at c.in_ok-attrs.ensures.bound))
    (c.attributes.ensures.distinct (rw c.in-Some-2.is at c.in_ok-label.ensures.unique))
    true (sym c.if-has_double.true ∙ c.has_double.ensures ∙ ap has_double_number c.as_slice-3.ensures)

pub returns-then-has_double-clause-kept : goal.returns-then-has_double-clause-kept
returns-then-has_double-clause-kept c = KeepsPlaces-trans _ _ _ c.element_label.ensures.kept c.attributes.ensures.kept

pub returns-in_err-push-clause-kept : goal.returns-in_err-push-clause-kept
returns-in_err-push-clause-kept c = KeepsPlaces-trans _ _ _ c.element_label.ensures.kept c.attributes.ensures.kept

pub returns-clause-begins : goal.returns-clause-begins
returns-clause-begins c = λ p holds around wait.
    let lines = take c.take-count.result.0 c.take-count.new.self.lines.items in
    let lines_are = ap₂ (λ (n : ℕ) (ls : Vec Written). take n ls.items) c.take-count.ensures.count c.take-count.ensures.lines ∙ wait.ordinary in
    let declared = c.take-count.result.1 in
    let declared_are = c.take-count.ensures.spaces ∙ wait.spaces in
    let entered = c.in_ok-enter.ensures.scope ∙ ap₂ (λ (s : List Space) (outer : ScopeBindings). declared_behind [] s ∷ outer) (c.as_slice-2.ensures ∙ declared_are) around in
    let it = rw c.scope.ensures at (rw c.in-Some-2.is at c.in_ok-label.ensures.name) in
    let all = rw c.scope-2.ensures at (rw c.in-Some-3.is at c.in_ok-attrs.ensures.names) in
    let spaces = ap spaces_fault (sym c.as_slice.ensures) ∙ sym c.spaces_fault.ensures ∙ c.in_default.is in
    let room = sym (c.is_full.ensures.is p.opened holds) ∙ c.if-is_full.false in
    let bound = rw c.scope.ensures at (rw c.in-Some-2.is at c.in_ok-label.ensures.bound) in
    let all_are = rw c.scope-2.ensures at (rw c.in-Some-3.is at c.in_ok-attrs.ensures.bound) in
    let distinct = c.attributes.ensures.distinct (rw c.in-Some-2.is at c.in_ok-label.ensures.unique) in
    let still : HoldsOpen c.enter.new.self p.opened = rw (c.enter.ensures.text, c.enter.ensures.starts) holds in
    let kept = c.attributes.ensures.kept in (
      start_fault_is c.args.limits.now p c.args.name.now lines declared lines_are declared_are c.enter.new.self.scope entered c.element_label.new.names c.attributes.new.names kept
          c.in-Some-2.label c.in-Some-3.attrs it all spaces room bound all_are distinct false (sym c.if-has_double.false ∙ c.has_double.ensures ∙ ap has_double_number c.as_slice-3.ensures),
      event_is c.args.limits.now p c.args.name.now lines declared lines_are declared_are c.enter.new.self.scope entered c.element_label.new.names c.attributes.new.names kept
          c.in-Some-2.label c.in-Some-3.attrs it all spaces room bound all_are distinct,
      (
        label_known c.args.limits.now p c.args.name.now lines declared lines_are declared_are c.enter.new.self.scope entered c.element_label.new.names c.attributes.new.names kept
            c.in-Some-2.label c.in-Some-3.attrs it all spaces room bound all_are distinct,
        all.known,
      ),
      c.in_ok-push.ensures.names p.opened still,
      c.push.ensures.scope ∙ entered,
    )

pub returns-clause-kept : goal.returns-clause-kept
returns-clause-kept c = KeepsPlaces-trans _ _ _ c.element_label.ensures.kept c.attributes.ensures.kept
