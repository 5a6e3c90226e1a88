use Rattle.sx_fn_seq.proofs.Distinctness.{distinct_apart, distinct_settled}
use Rattle.sx_fn_seq.proofs.laws.distinct_values.Goals as goal

pub returns-clause-apart : goal.returns-clause-apart
returns-clause-apart c = distinct_apart

pub returns-clause-settled : goal.returns-clause-settled
returns-clause-settled c = distinct_settled
