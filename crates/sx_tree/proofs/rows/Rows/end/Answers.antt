use Rattle.std.proofs.Common.{ap, ◌∙◌, arith}
use Rattle.sx_tree.specs.Places.{Places, without_innermost}
use Rattle.sx_tree.proofs.Ending.{HasEnded, ends}
use Rattle.sx_tree.proofs.rows.Rows.end.Goals as goal

-- the rows and their tree
ended : (c : goal.After-self-4-1)
    → HasEnded c.self.inside.rows.items c.self.inside.innermost c.in-Some.k c.index_mut-row.result.now c.len-place.result
ended c =
    ends c.self.inside.rows.items c.self.inside.innermost c.in-Some.k c.index_mut-row.result.now c.len-place.result
    c.in-Some.is c.self.invariant c.index_mut-row.ensures.value (omega (arith, c.len-place.ensures, c.self.inside.rows.ok.0))

pub invariant_of-self : goal.invariant_of-self
invariant_of-self c = (ended c).known

pub returns : goal.returns
returns c = (ended c).places ∙ ap (λ (t : Places). without_innermost t) c.self.view_is
