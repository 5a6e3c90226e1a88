use Rattle.std.proofs.Common.{refl}
use Rattle.sx_events.proofs.Feedings.{along_first}
use Rattle.sx_events.proofs.event_reader.EventReader.new.Goals as goal

pub returns-clause-stands : goal.returns-clause-stands
returns-clause-stands c = λ names. record {
  counted = record { same = refl; total = refl; told = refl };
  along = along_first c.new.result c.new-2.result c.new-3.result c.args.limits.now names (record { bytes = c.requires.bytes }) c.new.ensures c.new-2.ensures c.new-3.ensures;
}
