use Rattle.sx_events.proofs.Readings.{line_is}
use Rattle.sx_events.proofs.event_reader.EventReader.line.Goals as goal

pub returns : goal.returns
returns c = λ limits names b ended given stands. line_is c.args.self.now limits names b ended given stands
