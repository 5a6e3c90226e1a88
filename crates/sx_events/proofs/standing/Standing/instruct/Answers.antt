use Rattle.std.proofs.Common.{◌≡◌, ◌∙◌, List, ℕ, refl, ap, ap₂}
use Rattle.sx_esis.specs.Lines.{instructs}
use Rattle.sx_named.specs.Named.{ElementStart}
use Rattle.sx_tree.specs.Tree as tree
use Rattle.sx_tree.specs.Tree.{TreeEvent}
use Rattle.sx_tree.specs.declared.events.Event.TheVariants as event
use Rattle.sx_events.specs.Course.{place_behind, instruction}
use Rattle.sx_events.specs.Place.{ordinary, spaces_of}
use Rattle.sx_events.proofs.Takings.{knows_flushed, put_waits, put_count, not_loose}
use Rattle.sx_events.proofs.standing.Standing.instruct.Goals as goal

pub returns-clause-takes : goal.returns-clause-takes
returns-clause-takes c = λ limits names p knows may line idle.
    let text = c.args.text.now in
    let flushed = c.put.ensures.flushed in
    let what : ◌≡◌ {A = TreeEvent ElementStart} (tree.instructs c.in_ok-target.target c.in_ok-content.content) (instruction text) =
    ap₂ (λ (t s : List ℕ). tree.instructs t s) (c.in_ok-target.ensures ∙ c.split_instruction.ensures.target) (c.in_ok-content.ensures ∙ c.split_instruction.ensures.content) in
    let waits = put_waits names c.args.self.now _ c.put.new.self c.put.new.pending p knows refl flushed (event.Pi c.in_ok-target.target c.in_ok-content.content) c.args.number (instruction text) c.put.ensures.event line what tt in
    let strict = not_loose p (instructs text) may refl in
    let none = knows.strict strict in (
      refl,
      record {
        knows = knows_flushed _ c.put.new.self c.put.new.pending.text (place_behind p (instructs text)) flushed (record {
          opened = knows.opened;
          scope = knows.scope;
          has_root = knows.has_root;
          conformed = knows.conformed;
          wait = record { ordinary = knows.wait.ordinary ∙ ap ordinary none; spaces = knows.wait.spaces ∙ ap spaces_of none };
          is_loose = knows.is_loose ∙ strict;
          strict = λ s. refl;
        }) refl refl;
        events = waits.0;
        known = waits.1;
      },
    )

pub returns-clause-one : goal.returns-clause-one
returns-clause-one c = put_count _ c.put.new.self c.args.pending.now c.put.new.pending (record { event = event.Pi c.in_ok-target.target c.in_ok-content.content; line = c.args.number }) c.put.ensures.flushed c.put.ensures.event
