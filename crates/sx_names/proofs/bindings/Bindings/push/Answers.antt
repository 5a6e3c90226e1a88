use Rattle.std.proofs.Common.{◌≡◌, ◌∷◌, length, Some, ap, ◌∙◌, arith}
use Rattle.std.proofs.Math.ListN.{set}
use Rattle.std.proofs.lemmas.Option.{slice_get_within}
use Rattle.std.proofs.lemmas.Result.{err_from_is_err_and}
use Rattle.sx_names.specs.Bindings.{pairs_of, AreBindings}
use Rattle.sx_names.specs.declared.bindings.Binding.{Binding}
use Rattle.sx_names.proofs.BindingLemmas.{bindings-grown, bindings-push}
use Rattle.sx_names.proofs.bindings.Bindings.push.Goals as goal

pub invariant_of-self-in_err-cover : goal.invariant_of-self-in_err-cover
invariant_of-self-in_err-cover c =
    let i = c.self.inside in
    (bindings-grown i.prefixes i.in_force.items i.bindings.items c.hold.new.self c.hold.ensures.kept c.hold.ensures.distinct c.cover.new.in_force.items c.cover.ensures.same c.self.invariant).0

pub returns-in_err-cover-clause-err : goal.returns-in_err-cover-clause-err
returns-in_err-cover-clause-err c =
    let i = c.self.inside in
    let p = err_from_is_err_and c.from_residual-in_err-cover.result c.from_residual-in_err-cover.ensures.1 in
    rw p.1 ((bindings-grown i.prefixes i.in_force.items i.bindings.items c.hold.new.self c.hold.ensures.kept c.hold.ensures.distinct c.cover.new.in_force.items c.cover.ensures.same c.self.invariant).1 ∙ c.self.view_is)

pub invariant_of-self-in_err-push : goal.invariant_of-self-in_err-push
invariant_of-self-in_err-push c =
    let i = c.self.inside in
    rw c.in_err-push.ensures.items (bindings-grown i.prefixes i.in_force.items i.bindings.items c.hold.new.self c.hold.ensures.kept c.hold.ensures.distinct c.cover.new.in_force.items c.cover.ensures.same c.self.invariant).0

pub returns-in_err-push-clause-err : goal.returns-in_err-push-clause-err
returns-in_err-push-clause-err c =
    let i = c.self.inside in
    let p = err_from_is_err_and c.from_residual-in_err-push.result c.from_residual-in_err-push.ensures.1 in
    rw p.1 (ap (pairs_of c.hold.new.self) c.in_err-push.ensures.items
    ∙ (bindings-grown i.prefixes i.in_force.items i.bindings.items c.hold.new.self c.hold.ensures.kept c.hold.ensures.distinct c.cover.new.in_force.items c.cover.ensures.same c.self.invariant).1 ∙ c.self.view_is)

-- the binding goes last
pushed : (c : goal.After-self-1) → AreBindings c.hold.new.self (set c.cover.new.in_force.items c.in_ok-prefix.prefix (Some c.len-place.result)) c.push.new.self.items
    × (pairs_of c.hold.new.self c.push.new.self.items ≡ (c.args.prefix.now, c.args.uri.now) ∷ c.args.self.now)
pushed c =
    let i = c.self.inside in
    let b : Binding = record { prefix = c.in_ok-prefix.prefix; uri = c.in_ok-uri.uri; hidden = c.index-hidden.result.now } in
    let grown = bindings-grown i.prefixes i.in_force.items i.bindings.items c.hold.new.self c.hold.ensures.kept c.hold.ensures.distinct c.cover.new.in_force.items c.cover.ensures.same c.self.invariant in
    let more = bindings-push c.hold.new.self c.cover.new.in_force.items i.bindings.items b c.args.prefix.now grown.0 c.in_ok-prefix.ensures.placed
    (slice_get_within c.hold.new.self c.in_ok-prefix.prefix c.args.prefix.now c.in_ok-prefix.ensures.placed) c.in_ok-cover.ensures.room c.index-hidden.ensures in
    let count : c.len-place.result ≡ length i.bindings.items = omega (arith, c.len-place.ensures, i.bindings.ok.0) in (
      rw (count, c.in_ok-push.ensures.items) more.0,
      ap (pairs_of c.hold.new.self) c.in_ok-push.ensures.items ∙ more.1 ∙ ap (λ u. (c.args.prefix.now, u) ∷ pairs_of c.hold.new.self i.bindings.items) c.in_ok-uri.ensures.ok
          ∙ ap (λ ps. (c.args.prefix.now, c.args.uri.now) ∷ ps) (grown.1 ∙ c.self.view_is),
    )

pub invariant_of-self-2 : goal.invariant_of-self-2
invariant_of-self-2 c = (pushed c).0

pub returns-clause-ok : goal.returns-clause-ok
returns-clause-ok c = (pushed c).1
