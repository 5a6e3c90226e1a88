use Rattle.std.proofs.Common.{◌≡◌, None, Some, ap, sym, ◌∙◌, reverse, get_or, string_bytes, arith}
use Rattle.std.proofs.lemmas.Option.{slice_get_within, get_or_from_slice_get}
use Rattle.sx_names.specs.Bindings.{place_in_force}
use Rattle.sx_names.proofs.BindingLemmas.{bound_in-absent, bound_in-none, bound_in-some}
use Rattle.sx_names.proofs.bindings.Bindings.find.Goals as goal

pub returns-in_err-number : goal.returns-in_err-number
returns-in_err-number c =
    let i = c.self.inside in
    rw (c.from_residual.ensures, ← c.self.view_is) (sym (bound_in-absent i.prefixes c.self.invariant.distinct c.args.prefix.now (reverse i.bindings.items) c.self.invariant.linked c.in_err-number.ensures.absent))

pub returns-in_err-place : goal.returns-in_err-place
returns-in_err-place c =
    let i = c.self.inside in
    let none : place_in_force (reverse i.bindings.items) c.in_ok-number.number ≡ None =
    sym (c.self.invariant.known c.in_ok-number.number) ∙ ap (λ l. get_or l c.in_ok-number.number None) (sym c.deref.ensures.value) ∙ sym c.in_err-place.ensures in
    rw (c.from_residual-in_err-place.ensures, ← c.self.view_is)
    (sym (bound_in-none i.prefixes c.self.invariant.distinct c.args.prefix.now c.in_ok-number.number c.in_ok-number.ensures.found (reverse i.bindings.items) c.self.invariant.linked none))

pub index-requires : goal.index-requires
index-requires c =
    let i = c.self.inside in
    let some : place_in_force (reverse i.bindings.items) c.in_ok-number.number ≡ Some c.in_ok-place.place =
    sym (c.self.invariant.known c.in_ok-number.number) ∙ ap (λ l. get_or l c.in_ok-number.number None) (sym c.deref.ensures.value) ∙ sym c.in_ok-place.ensures in
    let found = bound_in-some i.prefixes c.self.invariant.distinct c.args.prefix.now c.in_ok-number.number c.in_ok-number.ensures.found i.bindings.items c.in_ok-place.place c.self.invariant.linked some in
    omega (arith, slice_get_within i.bindings.items c.in_ok-place.place found.0 found.1, i.bindings.ok.0)

pub returns : goal.returns
returns c =
    let i = c.self.inside in
    let some : place_in_force (reverse i.bindings.items) c.in_ok-number.number ≡ Some c.in_ok-place.place =
    sym (c.self.invariant.known c.in_ok-number.number) ∙ ap (λ l. get_or l c.in_ok-number.number None) (sym c.deref.ensures.value) ∙ sym c.in_ok-place.ensures in
    let found = bound_in-some i.prefixes c.self.invariant.distinct c.args.prefix.now c.in_ok-number.number c.in_ok-number.ensures.found i.bindings.items c.in_ok-place.place c.self.invariant.linked some in
    let read = c.index.ensures ∙ get_or_from_slice_get i.bindings.items c.in_ok-place.place found.0 c.index.result.now found.1 in
    rw (← c.self.view_is) (ap Some (c.as_str.ensures.value ∙ ap (λ b. string_bytes b.uri) read) ∙ sym found.2)
