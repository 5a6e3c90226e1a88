use Rattle.sx_parse.proofs.Naming.{named_so, numbered_so}
use Rattle.sx_parse.proofs.numbers.number_name.Goals as goal

pub returns-clause-names : goal.returns-clause-names
returns-clause-names c =
    named_so c.args.scope.now c.args.text.now c.uri_or_none.result.now _ c.args.names.now c.intern.new.self c.uri_or_none.ensures c.split_name.ensures.local c.intern.result c.intern.ensures.numbered

pub returns-clause-number : goal.returns-clause-number
returns-clause-number c =
    numbered_so c.args.scope.now c.args.text.now c.uri_or_none.result.now _ c.args.names.now c.intern.new.self c.uri_or_none.ensures c.split_name.ensures.local c.intern.result c.intern.ensures.distinct c.intern.ensures.placed
