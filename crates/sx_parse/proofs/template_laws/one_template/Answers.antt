use Rattle.sx_parse.proofs.OneTemplate.{one_cut, ends_or_breaks, one_fault}
use Rattle.sx_parse.proofs.template_laws.one_template.Goals as goal

pub returns-clause-pieces : goal.returns-clause-pieces
returns-clause-pieces c = λ text rest more ps qs a b. one_cut text rest more ps qs a b

pub returns-clause-either : goal.returns-clause-either
returns-clause-either c = λ offset rest fault a b. ends_or_breaks offset rest fault a b

pub returns-clause-fault : goal.returns-clause-fault
returns-clause-fault c = λ offset rest a b x y. one_fault offset rest a b x y
