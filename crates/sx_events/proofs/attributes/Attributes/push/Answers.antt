use Rattle.std.proofs.Common.{ℕ, List, [], ◌∷◌, ◌++◌, refl, ap, ap₂, ◌∙◌}
use Rattle.std.proofs.lemmas.Result.{on_ok_weaker}
use Rattle.sx_events.specs.Place.{written}
use Rattle.sx_events.specs.Standing.{attribute_lines_of}
use Rattle.sx_events.proofs.Waits.{wait_space, wait_other}
use Rattle.sx_events.proofs.attributes.Attributes.push.Goals as goal

pub returns-in_ok-push-in-Some-clause-waits : goal.returns-in_ok-push-in-Some-clause-waits
returns-in_ok-push-in-Some-clause-waits c = λ ws wait.
    wait_space c.args.self.now _ ws (written c.args.name.now c.args.value.now) wait c.in-Some.prefix.now c.in-Some.ensures refl
    (c.in_ok-push-in-Some.ensures.ok
    ∙ ap₂ (λ (p u : List ℕ). c.args.self.now.spaces ++ record { prefix = p; uri = u } ∷ []) c.in_ok-prefix-in-Some.ensures c.in_ok-value.ensures)

pub returns-in-None-clause-waits : goal.returns-in-None-clause-waits
returns-in-None-clause-waits c =
    on_ok_weaker c.put.result
    (λ more ws wait.
    wait_other c.args.self.now c.put.new.self ws (written c.args.name.now c.args.value.now) wait c.in-None.ensures
    (more ∙ ap (λ (v : List ℕ). attribute_lines_of c.args.self.now ++ written c.args.name.now v ∷ []) c.in_ok-value.ensures)
    c.put.ensures.spaces)
    c.put.ensures.lines
