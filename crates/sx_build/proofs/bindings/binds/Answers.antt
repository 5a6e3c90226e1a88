use Rattle.std.proofs.Common.{ℕ, bytes_eq, List, ◌++◌, reverse, ap, sym, ◌∙◌, append_assoc}
use Rattle.sx_build.specs.FixUp.{Binding, first_bound, binds}
use Rattle.sx_build.proofs.InForces.{binds-some, binds-none}
use Rattle.sx_build.proofs.bindings.binds.Goals as goal

pub returns-in-Some : goal.returns-in-Some
returns-in-Some c =
    let own = c.args.own.now in
    let outer = reverse c.args.outer.now in
    let prefix = c.args.prefix.now in
    let uri = c.args.uri.now in
    c.eq.ensures
    ∙ ap (λ (s : List ℕ). bytes_eq s uri) c.uri.ensures
    ∙ sym (binds-some (own ++ outer) first_bound prefix uri c.in-Some.binding.now (sym c.in-Some.ensures))
    ∙ ap (λ (bs : List Binding). binds bs prefix uri) (append_assoc own outer first_bound)

pub returns-in-None : goal.returns-in-None
returns-in-None c =
    let own = c.args.own.now in
    let outer = reverse c.args.outer.now in
    let prefix = c.args.prefix.now in
    let uri = c.args.uri.now in
    c.binds_at_first.ensures
    ∙ sym (binds-none (own ++ outer) first_bound prefix uri (sym c.in-None.ensures))
    ∙ ap (λ (bs : List Binding). binds bs prefix uri) (append_assoc own outer first_bound)
