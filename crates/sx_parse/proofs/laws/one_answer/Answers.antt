use Rattle.sx_parse.proofs.EachText.{some_text_answer}
use Rattle.sx_parse.proofs.OneText.{one_read, read_or_refused, one_refusal}
use Rattle.sx_parse.proofs.laws.one_answer.Goals as goal

pub returns-clause-some : goal.returns-clause-some
returns-clause-some c = λ p scope text. some_text_answer p scope text

pub returns-clause-reading : goal.returns-clause-reading
returns-clause-reading c = λ p scope text ts us t u a b. one_read p scope text ts us t u a b

pub returns-clause-either : goal.returns-clause-either
returns-clause-either c = λ p scope text ts t fault a b. read_or_refused p scope text ts t fault a b

pub returns-clause-refusal : goal.returns-clause-refusal
returns-clause-refusal c = λ p scope text f g h a b. one_refusal p scope text f g h a b
