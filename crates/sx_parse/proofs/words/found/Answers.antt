use Rattle.std.proofs.Common.{rules, arith}
use Rattle.std.proofs.lemmas.Grind.{common_steps}
use Rattle.sx_parse.specs.Lexemes.{found}
use Rattle.sx_parse.proofs.words.found.Goals as goal

pub returns-then-eq : goal.returns-then-eq
unfolding found
returns-then-eq g c = first_of (search rules, grind (arith, common_steps))

pub loop-table-preserved : goal.loop-table-preserved
unfolding found
loop-table-preserved g c = first_of (search rules, grind (arith, common_steps))

pub returns : goal.returns
unfolding found
returns g c = first_of (search rules, grind (arith, common_steps))
