use Rattle.std.proofs.Common.{◌≡◌, ℕ, List, slice_get, Option, Some, None, IfSome, Bor, ap, sym, ◌∙◌, subst, arith}
use Rattle.std.proofs.lemmas.Grind.{common_steps}
use Rattle.std.proofs.lemmas.Option.{gets}
use Rattle.std.specs.Option.{option_copied}
use Rattle.sx_tree.specs.Places.{Places}
use Rattle.sx_tree.specs.Rows.{AreRows, IsRow, places_of_rows}
use Rattle.sx_tree.specs.declared.rows.Row.{Row}
use Rattle.sx_tree.proofs.rows.Rows.row.Goals as goal

-- what is found at a place says what a row there says
row_is : (rows : List Row) (innermost : Option ℕ) (t : Places) (k : ℕ) (o : Option (Bor Row))
    → places_of_rows rows innermost ≡ t → AreRows rows innermost → option_copied o ≡ slice_get rows k → IfSome o (λ row. IsRow t k row.now)
row_is rows innermost t k None view are found = tt
row_is rows innermost t k (Some row) view are found = subst (λ (t : Places). IsRow t k row.now) view (are.each k row.now (sym found))

pub returns-clause-row : goal.returns-clause-row
returns-clause-row c =
    let found : option_copied c.get.result ≡ slice_get c.deref.result.now c.args.k = grind (arith, common_steps, gets) in
    row_is c.self.inside.rows.items c.self.inside.innermost c.args.self.now c.args.k c.get.result c.self.view_is c.self.invariant
    (found ∙ ap (λ (rows : List Row). slice_get rows c.args.k) c.deref.ensures.value)
