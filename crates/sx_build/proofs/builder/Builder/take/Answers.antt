use Rattle.std.proofs.Common.{sym}
use Rattle.std.proofs.lemmas.Result.{on_ok_weaker}
use Rattle.sx_build.specs.Asked.{asked_at}
use Rattle.sx_build.proofs.Requests.{taken}
use Rattle.sx_build.proofs.builder.Builder.take.Goals as goal

pub returns-clause-keeps : goal.returns-clause-keeps
returns-clause-keeps c =
    on_ok_weaker c.take_next.result
    (taken c.args.self.now c.take_next.new.self (asked_at c.args.names.now c.args.raw) (sym c.if-is_some.ensures))
    c.take_next.ensures.keeps
