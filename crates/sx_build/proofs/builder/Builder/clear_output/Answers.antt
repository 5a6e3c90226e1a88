use Rattle.sx_build.proofs.Requests.{stands_given}
use Rattle.sx_build.proofs.builder.Builder.clear_output.Goals as goal

pub returns-clause-stands : goal.returns-clause-stands
returns-clause-stands c = λ asked at_end given s.
    stands_given c.args.self.now c.clear.new.self asked at_end given c.clear.ensures.items c.clear.ensures.len c.clear.ensures.capacity s
