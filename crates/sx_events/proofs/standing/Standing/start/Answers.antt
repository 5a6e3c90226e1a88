use Rattle.std.proofs.Common.{refl}
use Rattle.sx_esis.specs.Lines.{starts}
use Rattle.sx_tree.specs.Tree as tree
use Rattle.sx_events.specs.Course.{place_behind, element_begun}
use Rattle.sx_events.proofs.Takings.{knows_flushed, put_waits, put_count}
use Rattle.sx_events.proofs.standing.Standing.start.Goals as goal

pub returns-in-Ok-clause-takes : goal.returns-in-Ok-clause-takes
returns-in-Ok-clause-takes c = λ p knows may line idle.
    let name = c.args.name.now in
    let begins = (rw c.in-Ok.is at c.in_ok-which.ensures.begins) p knows.opened knows.scope knows.wait in
    let flushed = c.put.ensures.flushed in
    let waits = put_waits c.begin.new.names c.args.self.now _ c.put.new.self c.put.new.pending p knows refl flushed c.in-Ok.event c.args.number (tree.starts (element_begun p name)) c.put.ensures.event line begins.1 begins.2 in (
      begins.0,
      record {
        knows = knows_flushed _ c.put.new.self c.put.new.pending.text (place_behind p (starts name)) flushed (record {
          opened = begins.3;
          scope = begins.4;
          has_root = refl;
          conformed = knows.conformed;
          wait = c.begin.ensures.waits;
          is_loose = c.begin.ensures.is_loose;
          strict = λ s. refl;
        }) refl refl;
        events = waits.0;
        known = waits.1;
      },
    )

pub returns-in-Ok-clause-one : goal.returns-in-Ok-clause-one
returns-in-Ok-clause-one c = put_count _ c.put.new.self c.args.pending.now c.put.new.pending (record { event = c.in-Ok.event; line = c.args.number }) c.put.ensures.flushed c.put.ensures.event
