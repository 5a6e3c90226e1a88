use Rattle.std.proofs.Common.{◌≡◌, ◌∷◌, [], ◌++◌, inr, length, ap, sym, ◌∙◌, subst}
use Rattle.std.proofs.lemmas.List.{length-map}
use Rattle.std.proofs.lemmas.Result.{err_from_is_err_and}
use Rattle.sx_names.specs.Numbering.{IsAbsent}
use Rattle.sx_names.specs.Inside.{entry_of, entries_of, AreNames}
use Rattle.sx_names.proofs.Places.{KeepsPlaces-refl}
use Rattle.sx_names.proofs.NameLemmas.{names_of-grown, AreNames-grown, added_name}
use Rattle.sx_names.proofs.name_table.Names.add.Goals as goal

pub invariant_of-self : goal.invariant_of-self
invariant_of-self c =
    let i = c.self.inside in
    AreNames-grown i.uris c.hold.new.self i.locals i.locals c.hold.ensures.kept (KeepsPlaces-refl i.locals) i.parts.keys c.hold.ensures.distinct c.self.invariant.locals_distinct c.self.invariant

pub returns-in_err-uri : goal.returns-in_err-uri
returns-in_err-uri c =
    let p = err_from_is_err_and c.from_residual.result c.from_residual.ensures.1 in
    let i = c.self.inside in
    rw p.1 (names_of-grown i.uris c.hold.new.self i.locals i.locals c.hold.ensures.kept (KeepsPlaces-refl i.locals) i.parts.keys c.self.invariant.within ∙ c.self.view_is)

pub invariant_of-self-in_err-local : goal.invariant_of-self-in_err-local
invariant_of-self-in_err-local c =
    let i = c.self.inside in
    AreNames-grown i.uris c.hold.new.self i.locals c.hold-2.new.self c.hold.ensures.kept c.hold-2.ensures.kept i.parts.keys c.hold.ensures.distinct c.hold-2.ensures.distinct c.self.invariant

pub returns-in_err-local : goal.returns-in_err-local
returns-in_err-local c =
    let p = err_from_is_err_and c.from_residual-in_err-local.result c.from_residual-in_err-local.ensures.1 in
    let i = c.self.inside in
    rw p.1 (names_of-grown i.uris c.hold.new.self i.locals c.hold-2.new.self c.hold.ensures.kept c.hold-2.ensures.kept i.parts.keys c.self.invariant.within ∙ c.self.view_is)

pub invariant_of-self-in_err-insert : goal.invariant_of-self-in_err-insert
invariant_of-self-in_err-insert c =
    let i = c.self.inside in
    subst (AreNames c.hold.new.self c.hold-2.new.self) (sym c.in_err-insert.ensures.err)
    (AreNames-grown i.uris c.hold.new.self i.locals c.hold-2.new.self c.hold.ensures.kept c.hold-2.ensures.kept i.parts.keys c.hold.ensures.distinct c.hold-2.ensures.distinct c.self.invariant)

pub returns-in_err-insert : goal.returns-in_err-insert
returns-in_err-insert c =
    let p = err_from_is_err_and c.from_residual-in_err-insert.result c.from_residual-in_err-insert.ensures.1 in
    let i = c.self.inside in
    rw p.1 (ap (entries_of c.hold.new.self c.hold-2.new.self) c.in_err-insert.ensures.err
    ∙ names_of-grown i.uris c.hold.new.self i.locals c.hold-2.new.self c.hold.ensures.kept c.hold-2.ensures.kept i.parts.keys c.self.invariant.within ∙ c.self.view_is)

-- the name goes last
added : (c : goal.In_ok-insert) → AreNames c.hold.new.self c.hold-2.new.self c.insert.new.self.keys
    × (entries_of c.hold.new.self c.hold-2.new.self c.insert.new.self.keys ≡ entries_of c.self.inside.uris c.self.inside.locals c.self.inside.parts.keys ++ (c.args.uri.now, c.args.local.now) ∷ [])
added c =
    let i = c.self.inside in
    added_name i.uris c.hold.new.self i.locals c.hold-2.new.self c.hold.ensures.kept c.hold-2.ensures.kept i.parts.keys c.insert.new.self.keys
    (record { uri = c.in_ok-uri.uri; local = c.in_ok-local.local }) c.args.uri.now c.args.local.now c.self.invariant c.hold.ensures.distinct c.hold-2.ensures.distinct
    c.in_ok-uri.ensures.placed c.in_ok-local.ensures.placed (subst (λ ns. IsAbsent ns (c.args.uri.now, c.args.local.now)) (sym c.self.view_is) c.requires) c.in_ok-insert.ensures.keys

pub invariant_of-self-2 : goal.invariant_of-self-2
invariant_of-self-2 c = (added c).0

pub returns : goal.returns
returns c =
    let i = c.self.inside in
    inr (
      c.requires,
      c.len-number.ensures.len ∙ sym (length-map i.parts.keys (entry_of i.uris i.locals)) ∙ ap length c.self.view_is,
      (added c).1 ∙ ap (λ ns. ns ++ (c.args.uri.now, c.args.local.now) ∷ []) c.self.view_is,
    )
