use Rattle.sx_events.proofs.Readings.{gives_event}
use Rattle.sx_events.proofs.event_reader.EventReader.give.Goals as goal

pub returns-in-Some-clause-gives : goal.returns-in-Some-clause-gives
returns-in-Some-clause-gives c = λ limits names b ended given rests.
    gives_event c.args.self.now limits names b ended given c.take_first.new.self c.in-Some.waiting (λ events line pends. c.in-Some.ensures.next names events given line pends) rests
