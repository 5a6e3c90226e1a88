use Rattle.std.proofs.Common.{◌≡◌, ◌↔◌, Some, slice_get, sym, subst}
use Rattle.sx_names.specs.Numbering.{IsAbsent}
use Rattle.sx_names.specs.Inside.{entries_of}
use Rattle.sx_names.proofs.Places.{exact_where_absent, exact_where_placed}
use Rattle.sx_names.proofs.NameLemmas.{absent_by_uri, absent_by_local, absent_by_parts, absent_parts, found_parts, name_place}
use Rattle.sx_names.proofs.name_table.Names.find.Goals as goal

-- at each exit with no number the name is absent
without_uri : (c : goal.After-from_residual) → IsAbsent c.args.self.now (c.args.uri.now, c.args.local.now)
without_uri c =
    let i = c.self.inside in
    subst (λ ns. IsAbsent ns (c.args.uri.now, c.args.local.now)) c.self.view_is
    (absent_by_uri i.uris i.locals i.parts.keys c.self.invariant c.args.uri.now c.args.local.now c.in_err-uri.ensures.absent)

without_local : (c : goal.After-from_residual-in_err-local) → IsAbsent c.args.self.now (c.args.uri.now, c.args.local.now)
without_local c =
    let i = c.self.inside in
    subst (λ ns. IsAbsent ns (c.args.uri.now, c.args.local.now)) c.self.view_is
    (absent_by_local i.uris i.locals i.parts.keys c.self.invariant c.args.uri.now c.args.local.now c.in_err-local.ensures.absent)

without_parts : (c : goal.After-from_residual-in_err-number) → IsAbsent c.args.self.now (c.args.uri.now, c.args.local.now)
without_parts c =
    let i = c.self.inside in
    subst (λ ns. IsAbsent ns (c.args.uri.now, c.args.local.now)) c.self.view_is
    (absent_by_parts i.uris i.locals i.parts.keys c.self.invariant c.args.uri.now c.args.local.now (record { uri = c.in_ok-uri.uri; local = c.in_ok-local.local })
    c.in_ok-uri.ensures.found c.in_ok-local.ensures.found (absent_parts i.parts.keys (record { uri = c.in_ok-uri.uri; local = c.in_ok-local.local }) (sym c.in_err-number.ensures.found)))

pub returns-in_err-uri-clause-found : goal.returns-in_err-uri-clause-found
returns-in_err-uri-clause-found c = rw c.from_residual.ensures (λ n. exact_where_absent c.args.self.now (c.args.uri.now, c.args.local.now) n (without_uri c))

pub returns-in_err-uri-clause-absent : goal.returns-in_err-uri-clause-absent
returns-in_err-uri-clause-absent c = rw c.from_residual.ensures (without_uri c)

pub returns-in_err-local-clause-found : goal.returns-in_err-local-clause-found
returns-in_err-local-clause-found c = rw c.from_residual-in_err-local.ensures (λ n. exact_where_absent c.args.self.now (c.args.uri.now, c.args.local.now) n (without_local c))

pub returns-in_err-local-clause-absent : goal.returns-in_err-local-clause-absent
returns-in_err-local-clause-absent c = rw c.from_residual-in_err-local.ensures (without_local c)

pub returns-in_err-number-clause-found : goal.returns-in_err-number-clause-found
returns-in_err-number-clause-found c = rw c.from_residual-in_err-number.ensures (λ n. exact_where_absent c.args.self.now (c.args.uri.now, c.args.local.now) n (without_parts c))

pub returns-in_err-number-clause-absent : goal.returns-in_err-number-clause-absent
returns-in_err-number-clause-absent c = rw c.from_residual-in_err-number.ensures (without_parts c)

pub returns-clause-found : goal.returns-clause-found
returns-clause-found c = λ n.
    let i = c.self.inside in
    let p = found_parts i.parts.keys (record { uri = c.in_ok-uri.uri; local = c.in_ok-local.local }) c.in_ok-number.number (sym c.in_ok-number.ensures.index) in
    let placed = name_place i.uris i.locals i.parts.keys c.in_ok-number.number (record { uri = c.in_ok-uri.uri; local = c.in_ok-local.local }) c.args.uri.now c.args.local.now p c.in_ok-uri.ensures.found c.in_ok-local.ensures.found in
    subst (λ ns. (Some c.in_ok-number.number ≡ Some n) ↔ (slice_get ns n ≡ Some (c.args.uri.now, c.args.local.now))) c.self.view_is
    (exact_where_placed (entries_of i.uris i.locals i.parts.keys) (c.args.uri.now, c.args.local.now) c.in_ok-number.number n c.self.invariant.names_distinct placed)
