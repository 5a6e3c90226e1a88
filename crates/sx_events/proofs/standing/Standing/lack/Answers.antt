use Rattle.std.proofs.Common.{◌∙◌, refl, sym}
use Rattle.std.proofs.lemmas.Bool.{false≢true}
use Rattle.sx_esis.specs.Lines.{lacks}
use Rattle.sx_events.specs.Course.{place_behind}
use Rattle.sx_events.proofs.Takings.{knows_flushed, flush_waits}
use Rattle.sx_events.proofs.standing.Standing.lack.Goals as goal

pub returns-clause-takes : goal.returns-clause-takes
returns-clause-takes c = λ limits name number names p knows may line idle.
    let flushed = c.flush.ensures.flushed in
    let waits = flush_waits names c.args.self.now _ c.flush.new.self c.flush.new.pending p knows refl flushed (c.flush.ensures.event ∙ idle.event) in (
      refl,
      record {
        knows = knows_flushed _ c.flush.new.self c.flush.new.pending.text (place_behind p (lacks name)) flushed (record {
          opened = knows.opened;
          scope = knows.scope;
          has_root = knows.has_root;
          conformed = knows.conformed;
          wait = record { ordinary = knows.wait.ordinary; spaces = knows.wait.spaces };
          is_loose = refl;
          strict = λ strict. absurd (false≢true (sym strict));
        }) refl refl;
        events = waits.0;
        known = waits.1;
      },
    )
