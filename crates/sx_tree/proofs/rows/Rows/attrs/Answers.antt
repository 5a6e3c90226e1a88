use Rattle.std.proofs.Common.{sym}
use Rattle.sx_tree.specs.Rows.{entry_of}
use Rattle.sx_tree.proofs.rows.Rows.attrs.Goals as goal

pub returns-in-Some-clause-few : goal.returns-in-Some-clause-few
returns-in-Some-clause-few c =
    let few = c.in-Some.ensures.tree.few_attributes c.args.k (entry_of c.in-Some.row.now) (sym c.in-Some.ensures.node) in
    rw c.attrs.ensures few
