use Rattle.std.proofs.Common.{reverse, sym, ap, ◌∙◌}
use Rattle.std.specs.Option.{option_or}
use Rattle.sx_names.specs.Scope.{bound_at_first}
use Rattle.sx_names.proofs.ScopeLemmas.{bound_is}
use Rattle.sx_names.proofs.scope.Scope.lookup.Goals as goal

pub returns-in-Some : goal.returns-in-Some
returns-in-Some c =
    rw (← c.self.view_is) (ap (λ o. option_or o (bound_at_first c.args.prefix.now)) c.in-Some.ensures ∙ sym (bound_is (reverse c.self.inside.begins.items) c.self.inside.bindings c.args.prefix.now c.self.invariant))

pub returns-in-None : goal.returns-in-None
returns-in-None c =
    rw (← c.self.view_is) (c.bound_without_declaration.ensures ∙ ap (λ o. option_or o (bound_at_first c.args.prefix.now)) c.in-None.ensures ∙ sym (bound_is (reverse c.self.inside.begins.items) c.self.inside.bindings c.args.prefix.now c.self.invariant))
