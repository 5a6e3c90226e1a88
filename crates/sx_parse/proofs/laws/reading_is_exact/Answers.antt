use Rattle.sx_parse.proofs.OneAnswer.{some_answer, one_derivation, one_fault, not_both}
use Rattle.sx_parse.proofs.laws.reading_is_exact.Goals as goal

pub returns-clause-reads : goal.returns-clause-reads
returns-clause-reads c = λ p ts. some_answer p ts

pub returns-clause-derivation : goal.returns-clause-derivation
returns-clause-derivation c = λ p ts t u a b. one_derivation p ts t u a b

pub returns-clause-fault : goal.returns-clause-fault
returns-clause-fault c = λ p ts j k f g. one_fault p ts j k f g

pub returns-clause-either : goal.returns-clause-either
returns-clause-either c = λ p ts t k d f. not_both p ts t k d f
