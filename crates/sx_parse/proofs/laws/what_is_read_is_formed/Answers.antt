use Rattle.std.proofs.Common.{true, false, ◌∙◌}
use Rattle.sx_parse.specs.Numbers.{numbers_among}
use Rattle.sx_parse.specs.Roles.{roles}
use Rattle.sx_parse.proofs.Formed.{numbers_keep, read_formed, read_alternatives_formed}
use Rattle.sx_parse.proofs.laws.what_is_read_is_formed.Goals as goal

pub returns-clause-expression : goal.returns-clause-expression
returns-clause-expression c = λ p scope text ts t names line h. read_formed p scope text ts (numbers_among names scope text (roles 0 t) ts) line t h

pub returns-clause-alternatives : goal.returns-clause-alternatives
returns-clause-alternatives c = λ p scope text ts t names line h.
    read_alternatives_formed p scope text ts (numbers_among names scope text (roles 0 t) ts) line t h

pub returns-clause-numbered : goal.returns-clause-numbered
returns-clause-numbered c = λ n e takes h. numbers_keep takes e false n ∙ h

pub returns-clause-steps : goal.returns-clause-steps
returns-clause-steps c = λ n e takes h. numbers_keep takes e true n ∙ h
