use Rattle.std.proofs.Common.{refl}
use Rattle.sx_events.specs.declared.event_reader.Ending.TheVariants as ending
use Rattle.sx_events.proofs.Endings.{pends_broken, count_flushed, rests_ended}
use Rattle.sx_events.proofs.event_reader.EventReader.break_off.Goals as goal

pub returns-clause-rests : goal.returns-clause-rests
returns-clause-rests c = λ limits names b ended given broke.
    rests_ended _ limits names b ended given (ending.Broken c.args.fault) refl (record {
      broken = broke.cause;
      pends = pends_broken c.args.self.now.standing c.flush.new.self c.args.self.now.pending c.flush.new.pending limits names b ended given c.args.self.now.line c.args.fault broke c.flush.ensures.flushed c.flush.ensures.event;
    })

pub returns-clause-no_more : goal.returns-clause-no_more
returns-clause-no_more c = count_flushed c.args.self.now.standing c.flush.new.self c.args.self.now.pending c.flush.new.pending c.flush.ensures.flushed c.flush.ensures.event
