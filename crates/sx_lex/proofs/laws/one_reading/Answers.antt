use Rattle.sx_lex.proofs.EachText.{some_tokens}
use Rattle.sx_lex.proofs.Unique.{same_tokens, whole_or_broken, same_offset}
use Rattle.sx_lex.proofs.laws.one_reading.Goals as goal

pub returns-clause-some : goal.returns-clause-some
returns-clause-some c = λ text. some_tokens text

pub returns-clause-tokens : goal.returns-clause-tokens
returns-clause-tokens c = λ text ts us a b. same_tokens ts us 0 text a b

pub returns-clause-either : goal.returns-clause-either
returns-clause-either c = λ text ts offset a b. whole_or_broken ts b.0 0 text offset a b.1

pub returns-clause-offset : goal.returns-clause-offset
returns-clause-offset c = λ text m n a b. same_offset a.0 b.0 0 text m n a.1 b.1
