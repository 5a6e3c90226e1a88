use Rattle.std.proofs.Common.{◌∙◌, refl}
use Rattle.sx_sheet.specs.Machine.{state_of_reader}
use Rattle.sx_sheet.specs.Shown.{shown}
use Rattle.sx_sheet.proofs.Stepping.{fixed_at}
use Rattle.sx_sheet.proofs.reader.Reader.step.Goals as goal

pub returns-in_default : goal.returns-in_default
returns-in_default c = record {
  kept = λ i h. refl;
  step = λ look tokens g. c.fixed.ensures.step c.args.names.now tokens ∙ fixed_at look c.args.line c.args.self.stage (state_of_reader tokens c.args.self) (shown c.args.names.now c.args.token) c.in_default.not-Templates c.in_default.not-Body c.in_default.not-Text;
  near = c.fixed.ensures.near;
}
