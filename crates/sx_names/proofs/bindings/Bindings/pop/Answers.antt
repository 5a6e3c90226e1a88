use Rattle.std.proofs.Common.{arith}
use Rattle.sx_names.proofs.BindingLemmas.{bindings-pop}
use Rattle.sx_names.proofs.bindings.Bindings.pop.Goals as goal

pub index_mut-requires : goal.index_mut-requires
index_mut-requires c =
    let i = c.self.inside in
    let popped = bindings-pop i.prefixes i.in_force.items i.bindings.items c.pop.new.self.items c.in-Some.binding c.in-Some.ensures.items c.self.invariant in
    omega (arith, popped.0, i.in_force.ok.0)

pub invariant_of-self : goal.invariant_of-self
invariant_of-self c =
    let i = c.self.inside in
    (bindings-pop i.prefixes i.in_force.items i.bindings.items c.pop.new.self.items c.in-Some.binding c.in-Some.ensures.items c.self.invariant).1
