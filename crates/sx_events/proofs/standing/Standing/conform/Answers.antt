use Rattle.std.proofs.Common.{◌∙◌, not, refl, ap, sym}
use Rattle.sx_esis.specs.Lines.{conforms}
use Rattle.sx_events.specs.Course.{place_behind}
use Rattle.sx_limits.specs.declared.faults.Which.TheVariants as which
use Rattle.sx_events.proofs.Takings.{knows_flushed, flush_waits, no_fault}
use Rattle.sx_events.proofs.standing.Standing.conform.Goals as goal

pub returns-clause-takes : goal.returns-clause-takes
returns-clause-takes c = λ limits number names p knows may line idle.
    let flushed = c.flush.ensures.flushed in
    let waits = flush_waits names c.args.self.now _ c.flush.new.self c.flush.new.pending p knows refl flushed (c.flush.ensures.event ∙ idle.event) in (
      no_fault _ which.EndMismatch (ap not (sym (c.is_empty.ensures p.opened knows.opened) ∙ c.if-not-is_empty.false)),
      record {
        knows = knows_flushed _ c.flush.new.self c.flush.new.pending.text (place_behind p conforms) flushed (record {
          opened = knows.opened;
          scope = knows.scope;
          has_root = knows.has_root;
          conformed = refl;
          wait = record { ordinary = knows.wait.ordinary; spaces = knows.wait.spaces };
          is_loose = knows.is_loose;
          strict = knows.strict;
        }) refl refl;
        events = waits.0;
        known = waits.1;
      },
    )
