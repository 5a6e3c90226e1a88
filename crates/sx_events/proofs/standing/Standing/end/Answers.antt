use Rattle.std.proofs.Common.{◌∙◌, not, refl, ap, sym}
use Rattle.sx_esis.specs.Lines.{ends}
use Rattle.sx_tree.specs.Tree as tree
use Rattle.sx_tree.specs.declared.events.Event.TheVariants as event
use Rattle.sx_events.specs.Course.{place_behind, rest_of}
use Rattle.sx_events.specs.Place.{ordinary, spaces_of}
use Rattle.sx_limits.specs.declared.faults.Which.TheVariants as which
use Rattle.sx_events.proofs.Takings.{knows_flushed, put_waits, put_count, not_loose, no_fault}
use Rattle.sx_events.proofs.standing.Standing.end.Goals as goal

pub returns-clause-takes : goal.returns-clause-takes
returns-clause-takes c = λ limits names p knows may line idle.
    let name = c.args.name.now in
    let flushed = c.put.ensures.flushed in
    let waits = put_waits names c.args.self.now _ c.put.new.self c.put.new.pending p knows refl flushed event.End c.args.number tree.ends c.put.ensures.event line refl tt in
    let strict = not_loose p (ends name) may refl in
    let none = knows.strict strict in (
      no_fault _ which.EndMismatch (ap not (sym (c.end.ensures.is p.opened knows.opened) ∙ c.if-not-end.false)),
      record {
        knows = knows_flushed _ c.put.new.self c.put.new.pending.text (place_behind p (ends name)) flushed (record {
          opened = c.end.ensures.names c.if-not-end.false p.opened knows.opened;
          scope = c.end.ensures.scope c.if-not-end.false ∙ ap rest_of knows.scope;
          has_root = knows.has_root;
          conformed = knows.conformed;
          wait = record { ordinary = knows.wait.ordinary ∙ ap ordinary none; spaces = knows.wait.spaces ∙ ap spaces_of none };
          is_loose = knows.is_loose ∙ strict;
          strict = λ s. refl;
        }) refl refl;
        events = waits.0;
        known = waits.1;
      },
    )

pub returns-clause-one : goal.returns-clause-one
returns-clause-one c = put_count _ c.put.new.self c.args.pending.now c.put.new.pending (record { event = event.End; line = c.args.number }) c.put.ensures.flushed c.put.ensures.event
