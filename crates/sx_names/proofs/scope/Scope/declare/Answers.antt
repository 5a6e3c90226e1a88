use Rattle.std.proofs.Common.{◌<◌, length, reverse, sym, subst}
use Rattle.sx_names.specs.Bindings.{elements_of}
use Rattle.sx_names.proofs.ScopeLemmas.{declared_or_not, declared_where_ok}
use Rattle.sx_names.proofs.scope.Scope.declare.Goals as goal

some : (c : goal.After-push) → 0 < length (elements_of (reverse c.self.inside.begins.items) c.self.inside.bindings)
some c = subst (λ es. 0 < length es) (sym c.self.view_is) c.requires

pub invariant_of-self : goal.invariant_of-self
invariant_of-self c =
    let i = c.self.inside in
    declared_or_not c.push.result (reverse i.begins.items) i.bindings c.push.new.self c.args.prefix.now c.args.uri.now c.self.invariant (some c) c.push.ensures.ok c.push.ensures.err

pub returns-clause-ok : goal.returns-clause-ok
returns-clause-ok c =
    let i = c.self.inside in
    rw (← c.self.view_is) (declared_where_ok c.push.result (reverse i.begins.items) i.bindings c.push.new.self c.args.prefix.now c.args.uri.now c.self.invariant (some c) c.push.ensures.ok)
