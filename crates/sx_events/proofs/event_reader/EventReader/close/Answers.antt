use Rattle.std.proofs.Common.{refl}
use Rattle.sx_tree.specs.declared.events.Event.TheVariants as event
use Rattle.sx_events.specs.declared.event_reader.Ending.TheVariants as ending
use Rattle.sx_events.proofs.Endings.{pends_closed, count_put, rests_ended}
use Rattle.sx_events.proofs.event_reader.EventReader.close.Goals as goal

pub returns-clause-rests : goal.returns-clause-rests
returns-clause-rests c = λ limits names b ended given well.
    rests_ended _ limits names b ended given ending.Whole refl (record {
      told = well.told;
      whole = well.whole;
      pends = pends_closed c.args.self.now.standing c.put.new.self c.args.self.now.pending c.put.new.pending limits names b ended given c.args.self.now.line c.args.line well c.put.ensures.flushed c.put.ensures.event;
    })

pub returns-clause-no_more : goal.returns-clause-no_more
returns-clause-no_more c =
    count_put c.args.self.now.standing c.put.new.self c.args.self.now.pending c.put.new.pending (record { event = event.Close; line = c.args.line }) c.put.ensures.flushed c.put.ensures.event
