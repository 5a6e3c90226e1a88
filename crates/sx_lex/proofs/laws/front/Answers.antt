use Rattle.sx_lex.proofs.Breaks.{front_tokens, front_breaks, front_cut}
use Rattle.sx_lex.proofs.laws.front.Goals as goal

pub returns-clause-tokens : goal.returns-clause-tokens
returns-clause-tokens c = λ text ts offset utf8 broken. front_tokens text ts offset utf8 broken

pub returns-clause-breaks : goal.returns-clause-breaks
returns-clause-breaks c = λ text ts offset utf8 broken all. front_breaks text ts offset utf8 broken all

pub returns-clause-cut : goal.returns-clause-cut
returns-clause-cut c = λ text offset utf8 broken. front_cut text offset utf8 broken
