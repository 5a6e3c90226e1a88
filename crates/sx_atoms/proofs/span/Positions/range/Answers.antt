use Rattle.std.proofs.Common.{◌≡◌, ◌+ℤ◌, ◌+◌, ◌<◌, ◌^◌, rules, arith, FitsSigned, pos, int_le, nat_le}
use Rattle.std.specs.Int.{w128, saturate_signed}
use Rattle.std.proofs.lemmas.Int.{to_z-of_z}
use Rattle.sx_atoms.specs.Positions.{between}
use Rattle.sx_atoms.proofs.Spans.{counted_range}
use Rattle.sx_atoms.proofs.span.Positions.range.Goals as goal

pub returns-in-Counted-clause-exact : goal.returns-in-Counted-clause-exact
returns-in-Counted-clause-exact c = λ p h.
    let first = c.in-Counted.first in
    let count = c.in-Counted.count in
    let e : c.args.self.now ≡ between first (first +ℤ count) = search (rules, c.in-Counted.is) in
    let small : p < 2 ^ 64 = omega (arith, c.below-end.type_inv, c.below-end.ensures.within) in
    let first_fits : FitsSigned w128 first = search rules in
    let count_fits : FitsSigned w128 count = search rules in
    let sum : c.saturating_add.result ≡ saturate_signed w128 (first +ℤ count) = simp to_z-of_z at c.saturating_add.ensures in
    let low : int_le first (pos (p + 1)) ≡ nat_le c.below-in-Counted.result p = simp to_z-of_z at (c.below-in-Counted.ensures.exact p h) in
    let end_fits : FitsSigned w128 c.saturating_add.result = search rules in
    let kept : int_le c.saturating_add.result (pos (p + 1)) ≡ nat_le c.below-end.result p = simp to_z-of_z at (c.below-end.ensures.exact p h) in
    let high : int_le (saturate_signed w128 (first +ℤ count)) (pos (p + 1)) ≡ nat_le c.below-end.result p = rw sum at kept in
    rw (e, c.min.ensures) (counted_range first (first +ℤ count) c.below-in-Counted.result c.below-end.result p small low high)
