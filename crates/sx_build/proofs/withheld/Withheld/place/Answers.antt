use Rattle.std.proofs.Common.{List, ◌++◌, ap, ap₂, ◌∙◌}
use Rattle.std.proofs.lemmas.Result.{on_ok_weaker}
use Rattle.sx_chars.specs.Names.{prefixed}
use Rattle.sx_named.specs.Named.{Name}
use Rattle.sx_build.specs.FixUp.{Binding, is_bound}
use Rattle.sx_build.specs.declared.withheld.Withheld.{Withheld}
use Rattle.sx_build.specs.Build.{printed_name}
use Rattle.sx_build.specs.InForce.{in_force}
use Rattle.sx_build.proofs.Taken.{name_there}
use Rattle.sx_build.proofs.Placing.{bound_pairs, unbound_declares, unbound_pairs}
use Rattle.sx_build.proofs.withheld.Withheld.place.Goals as goal

pub returns-then-is_bound-clause-pairs : goal.returns-then-is_bound-clause-pairs
returns-then-is_bound-clause-pairs c =
    on_ok_weaker c.put.result
    (λ pushed name tail at are.
    let me = c.args.self.now in
    let bound = in_force c.args.outer.now in
    let found = c.index.result.now in
    bound_pairs bound me.prefix me.names.items me.declared.items c.args.at name found c.args.value
    (name_there me.names.items c.args.at found name c.index.ensures at)
    (c.if-is_bound.ensures ∙ ap (λ (ds : List Binding). is_bound (ds ++ bound) found) c.deref.ensures.value)
    me.pairs.items c.put.new.self.pairs.items tail c.in_ok-name.name
    (c.in_ok-name.ensures ∙ ap printed_name (name_there me.names.items c.args.at c.index-then-is_bound.result.now name c.index-then-is_bound.ensures at)) pushed are)
    c.put.ensures.pairs

pub returns-clause-declared : goal.returns-clause-declared
returns-clause-declared c =
    on_ok_weaker c.put-2.result
    (λ pushed name at.
    let me = c.args.self.now in
    let bound = in_force c.args.outer.now in
    let found = c.index.result.now in
    ap (λ (w : Withheld). w.declared.items) c.put-2.ensures.kept
    ∙ c.in_ok-declare.ensures.declared
    ∙ unbound_declares bound me.prefix me.names.items me.declared.items c.args.at name found c.args.value
    c.in_ok-binding.binding (c.in_ok-binding.ensures name at)
    (name_there me.names.items c.args.at found name c.index.ensures at)
    (c.if-is_bound.ensures ∙ ap (λ (ds : List Binding). is_bound (ds ++ bound) found) c.deref.ensures.value))
    c.put-2.ensures.pairs

pub returns-clause-pairs : goal.returns-clause-pairs
returns-clause-pairs c =
    on_ok_weaker c.put-2.result
    (λ pushed name tail at are.
    let me = c.args.self.now in
    let bound = in_force c.args.outer.now in
    let found = c.index.result.now in
    unbound_pairs bound me.prefix me.names.items me.declared.items c.args.at name found c.args.value
    c.in_ok-binding.binding (c.in_ok-binding.ensures name at)
    (name_there me.names.items c.args.at found name c.index.ensures at)
    (c.if-is_bound.ensures ∙ ap (λ (ds : List Binding). is_bound (ds ++ bound) found) c.deref.ensures.value)
    c.declare.new.self.pairs.items c.put-2.new.self.pairs.items tail c.in_ok-name-2.name
    (c.in_ok-name-2.ensures ∙ ap₂ prefixed c.prefix.ensures
    (c.local.ensures ∙ ap (λ (n : Name). n.local) (name_there me.names.items c.args.at c.index-2.result.now name c.index-2.ensures at)))
    pushed (c.in_ok-declare.ensures.pairs tail are))
    c.put-2.ensures.pairs
