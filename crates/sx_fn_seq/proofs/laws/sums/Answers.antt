use Rattle.sx_fn_seq.proofs.Totals.{sum_from-append}
use Rattle.sx_fn_seq.proofs.laws.sums.Goals as goal

pub returns : goal.returns
returns c = sum_from-append
