use Rattle.std.proofs.Common.{◌∙◌}
use Rattle.sx_build.proofs.Requests.{gives_rest}
use Rattle.sx_build.proofs.builder.Builder.output.Goals as goal

pub returns : goal.returns
returns c = λ asked at_end given s. c.as_slice.ensures.value ∙ gives_rest c.args.self.now asked given at_end s
