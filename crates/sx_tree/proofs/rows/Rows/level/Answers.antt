use Rattle.std.proofs.Common.{◌≡◌, arith, ap}
use Rattle.sx_tree.specs.Places.{Places}
use Rattle.sx_tree.specs.Rows.{places_of_rows}
use Rattle.sx_tree.proofs.Growing.{innermost-row, innermost-few, innermost-level}
use Rattle.sx_tree.proofs.rows.Rows.level.Goals as goal

pub overflow_add-result : goal.overflow_add-result
overflow_add-result c =
    let rows = c.self.inside.rows.items in
    omega (
      arith,
      innermost-few rows c.in-Some.k c.index.result.now
          (innermost-row rows c.self.inside.innermost c.in-Some.k c.index.result.now c.in-Some.is c.self.invariant c.index.ensures),
    )

pub returns-in-Some : goal.returns-in-Some
returns-in-Some c =
    let rows = c.self.inside.rows.items in
    let innermost = c.self.inside.innermost in
    let view : (places_of_rows rows innermost).level ≡ c.args.self.now.level = ap (λ (t : Places). t.level) c.self.view_is in
    omega (
      arith,
      view,
      innermost-level rows innermost c.in-Some.k c.index.result.now c.in-Some.is
          (innermost-row rows innermost c.in-Some.k c.index.result.now c.in-Some.is c.self.invariant c.index.ensures),
    )
