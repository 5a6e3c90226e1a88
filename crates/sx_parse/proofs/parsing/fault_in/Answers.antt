use Rattle.std.proofs.Common.{ap, arith, length}
use Rattle.sx_parse.proofs.Refusals.{few_lexemes}
use Rattle.sx_parse.proofs.parsing.fault_in.Goals as goal

pub grammar_fault-requires-clause-fit : goal.grammar_fault-requires-clause-fit
grammar_fault-requires-clause-fit c =
    let few = few_lexemes c.args.text.now c.args.lexed.now.tokens c.args.lexed.now.lexemes c.args.lexed.now.stop c.requires.lexed in
    let fit = c.requires.fit in
    let same = ap length c.as_slice-2.ensures in
    omega (arith, few, fit, same)
