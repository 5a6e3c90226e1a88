use Rattle.std.proofs.Common.{arith}
use Rattle.std.proofs.lemmas.Str.{IsCharBoundary-start}
use Rattle.sx_lex.proofs.Unique.{are_spans, are_cuts}
use Rattle.sx_lex.proofs.laws.spans.Goals as goal

pub returns-clause-spans : goal.returns-clause-spans
returns-clause-spans c = λ text ts all. are_spans ts 0 text (omega arith) all

pub returns-clause-cuts : goal.returns-clause-cuts
returns-clause-cuts c = λ text ts utf8 all. are_cuts ts 0 text utf8 (IsCharBoundary-start text utf8) all
