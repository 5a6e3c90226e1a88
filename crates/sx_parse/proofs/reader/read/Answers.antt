use Rattle.std.proofs.lemmas.Result.{IfOk-weaker}
use Rattle.sx_parse.proofs.Readings.{read_as}
use Rattle.sx_parse.proofs.reader.read.Goals as goal

pub returns : goal.returns
returns c = IfOk-weaker c.run.result _ _ (read_as c.args.pattern c.args.lexemes.now c.requires) c.run.ensures
