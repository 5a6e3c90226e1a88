use Rattle.std.proofs.Common.{◌≡◌, ◌∙◌, Bool, not, true, false, cond, Option, Some, None, refl, sym}
use Rattle.std.proofs.lemmas.Bool.{false≢true}
use Rattle.sx_esis.specs.Lines.{has}
use Rattle.sx_events.specs.Course.{place_behind}
use Rattle.sx_limits.specs.declared.faults.Which.{Which}
use Rattle.sx_limits.specs.declared.faults.Which.TheVariants as which
use Rattle.sx_events.proofs.Takings.{knows_flushed, flush_waits}
use Rattle.sx_events.proofs.standing.Standing.attribute.Goals as goal

with_room : (v : Bool) → not v ≡ false → ◌≡◌ {A = Option Which} (cond v None (Some which.Attrs)) None
with_room true h = refl
with_room false h = absurd (false≢true (sym h))

pub returns-clause-takes : goal.returns-clause-takes
returns-clause-takes c = λ number names p knows may line idle.
    let flushed = c.flush.ensures.flushed in
    let waits = flush_waits names c.args.self.now _ c.flush.new.self c.flush.new.pending p knows refl flushed (c.flush.ensures.event ∙ idle.event) in (
      with_room _ (sym (c.is_full.ensures p.attributes knows.wait) ∙ c.if-is_full.false),
      record {
        knows = knows_flushed _ c.flush.new.self c.flush.new.pending.text (place_behind p (has c.args.name.now c.args.value.now)) flushed (record {
          opened = knows.opened;
          scope = knows.scope;
          has_root = knows.has_root;
          conformed = knows.conformed;
          wait = c.in_ok-push.ensures.waits p.attributes knows.wait;
          is_loose = c.in_ok-push.ensures.is_loose;
          strict = λ strict. absurd (false≢true (sym strict));
        }) refl refl;
        events = waits.0;
        known = waits.1;
      },
    )
