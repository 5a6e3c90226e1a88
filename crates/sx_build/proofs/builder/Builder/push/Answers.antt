use Rattle.std.proofs.Common.{◌∙◌}
use Rattle.sx_build.specs.Asked.{asked_at}
use Rattle.sx_build.proofs.Requests.{stands_more, answers}
use Rattle.sx_build.proofs.builder.Builder.push.Goals as goal

pub returns-in-Ok-clause-stands : goal.returns-in-Ok-clause-stands
returns-in-Ok-clause-stands c = λ asked given s.
    stands_more c.args.self.now c.take.new.self (asked_at c.args.names.now c.args.raw) c.in-Ok.ensures.keeps asked given s

pub returns-in-Ok-clause-answer : goal.returns-in-Ok-clause-answer
returns-in-Ok-clause-answer c = λ asked given s.
    c.answer.ensures ∙ answers c.args.self.now c.take.new.self (asked_at c.args.names.now c.args.raw) c.in-Ok.ensures.keeps asked given s
