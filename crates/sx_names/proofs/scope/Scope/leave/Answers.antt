use Rattle.std.proofs.Common.{◌≡◌, ◌∷◌, ◌<◌, ◌≤◌, length, reverse, drop, sym, ap, ◌∙◌, subst, arith, vec_len}
use Rattle.std.proofs.lemmas.List.{length-reverse}
use Rattle.sx_names.specs.Bindings.{elements_of, AreElements}
use Rattle.sx_names.proofs.ScopeLemmas.{elements_count, last_begin, left_step, left_is}
use Rattle.sx_names.proofs.scope.Scope.leave.Goals as goal

-- what is left are the elements around
left : (c : goal.After-loop-self) → AreElements (reverse c.loop-self.self-inside.begins.items) c.loop-self.self-inside.bindings
    × (elements_of (reverse c.loop-self.self-inside.begins.items) c.loop-self.self-inside.bindings ≡ drop 1 c.args.self.now)
left c =
    let i = c.self.inside in
    let now = c.loop-self.self-inside in
    let some : 0 < length i.begins.items = omega (arith, ap length c.self.view_is, elements_count (reverse i.begins.items) i.bindings, length-reverse i.begins.items) in
    let turned : reverse i.begins.items ≡ c.unwrap_or-begin.result ∷ reverse now.begins.items =
    last_begin i.begins.items c.pop.new.self.items (vec_len i.begins) (vec_len c.pop.new.self) c.pop.result c.pop.ensures.items c.pop.ensures.cases c.pop.ensures.rest some
    ∙ ap (λ b. b ∷ reverse c.pop.new.self.items) (sym c.unwrap_or-begin.ensures) ∙ ap (λ l. c.unwrap_or-begin.result ∷ reverse l) (sym c.loop-self.invariant.1) in
    let none : length now.bindings ≤ c.unwrap_or-begin.result = omega arith in
    let rest = left_is c.unwrap_or-begin.result (reverse now.begins.items) i.bindings now.bindings (subst (λ l. AreElements l i.bindings) turned c.self.invariant) none c.loop-self.invariant.0 in
    (rest.1, rest.2 ∙ ap (drop 1) (ap (λ l. elements_of l i.bindings) (sym turned) ∙ c.self.view_is))

pub invariant_of-self : goal.invariant_of-self
invariant_of-self c = (left c).0

pub loop-self-preserved : goal.loop-self-preserved
loop-self-preserved c =
    let more = c.loop-self.self-inside.bindings in
    let some : c.unwrap_or-begin.result < length more = omega arith in
    (rw c.pop-in-loop-self.ensures (left_step more c.unwrap_or-begin.result some ∙ c.loop-self.invariant.0), c.loop-self.invariant.1)

pub returns : goal.returns
returns c = (left c).1
