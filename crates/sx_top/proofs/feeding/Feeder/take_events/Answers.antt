use Rattle.std.proofs.Common.{sym, ◌∙◌}
use Rattle.sx_names.proofs.Places.{KeepsPlaces-trans}
use Rattle.sx_top.proofs.Feedings.{after_none, after_fault, after_event, after_end, kept_over, some_is, none_is}
use Rattle.sx_top.proofs.feeding.Feeder.take_events.Goals as goal

pub returns-in-None-clause-stands : goal.returns-in-None-clause-stands
returns-in-None-clause-stands g c = λ m b w ended steady most old.
    let f = c.events.invariant.1 m b w ended steady most old in
    let gives = (rw c.in-None.is at c.in_ok-next.ensures.gives) m.limits b ended _ f.reads in
    after_none g.T.EventTaker.stands m b w ended steady most c.events.self f c.next.new.names c.next.ensures.kept c.next.ensures.distinct c.next.new.self gives

pub returns-in-None-clause-kept : goal.returns-in-None-clause-kept
returns-in-None-clause-kept g c = KeepsPlaces-trans c.args.self.now.names c.events.self.names c.next.new.names c.events.invariant.0 c.next.ensures.kept

pub returns-in-Some-Err-clause-stands : goal.returns-in-Some-Err-clause-stands
returns-in-Some-Err-clause-stands g c = λ m b w ended steady most old.
    let f = c.events.invariant.1 m b w ended steady most old in
    let gives = (rw (c.in-Some-Err.is, c.in-Some-Err.field-0-is) at c.in_ok-next.ensures.gives) m.limits b ended _ f.reads in
    after_fault g.T.EventTaker.stands m b w ended steady most c.events.self f c.next.new.names c.next.ensures.kept c.next.ensures.distinct c.next.new.self
    c.input.result c.in-Some-Err.fault (c.input.ensures m f.given.known f.given.front w f.given.stands) gives

pub returns-in-Some-Err-clause-kept : goal.returns-in-Some-Err-clause-kept
returns-in-Some-Err-clause-kept g c = KeepsPlaces-trans c.args.self.now.names c.events.self.names c.next.new.names c.events.invariant.0 c.next.ensures.kept

pub returns-in_err-take-in-Some-Ok-clause-kept : goal.returns-in_err-take-in-Some-Ok-clause-kept
returns-in_err-take-in-Some-Ok-clause-kept g c =
    kept_over c.args.self.now.names c.events.self.names c.next.new.names c.take.new.names c.events.invariant.0 c.next.ensures.kept c.take.ensures.names

pub returns-then-is_some-clause-stands : goal.returns-then-is_some-clause-stands
returns-then-is_some-clause-stands g c = λ m b w ended steady most old.
    let f = c.events.invariant.1 m b w ended steady most old in
    let gives = (rw (c.in-Some-Ok.is, c.in-Some-Ok.field-0-is) at c.in_ok-next.ensures.gives) m.limits b ended _ f.reads in
    after_end g.T.EventTaker.stands m b w ended steady most c.events.self f c.next.new.names c.next.ensures.kept c.next.ensures.distinct c.next.new.self
    c.in-Some-Ok.event c.line.result gives (c.line.ensures m.limits c.next.new.names b ended _ gives.2) c.take.new.self c.in_ok-take-in-Some-Ok.ensures.took c.ended-self.result
    c.take.new.names c.take.ensures.names (λ known events stands. c.ended-self.ensures m known events w stands) (some_is _ (sym c.is_some.ensures ∙ c.if-is_some.true))

pub returns-then-is_some-clause-kept : goal.returns-then-is_some-clause-kept
returns-then-is_some-clause-kept g c =
    kept_over c.args.self.now.names c.events.self.names c.next.new.names c.take.new.names c.events.invariant.0 c.next.ensures.kept c.take.ensures.names

pub events-preserved : goal.events-preserved
events-preserved g c = (
  kept_over _ c.events.self.names c.next.new.names c.take.new.names c.events.invariant.0 c.next.ensures.kept c.take.ensures.names,
  λ m b w ended steady most old.
      let f = c.events.invariant.1 m b w ended steady most old in
      let gives = (rw (c.in-Some-Ok.is, c.in-Some-Ok.field-0-is) at c.in_ok-next.ensures.gives) m.limits b ended _ f.reads in
      after_event g.T.EventTaker.stands m b w ended steady most c.events.self f c.next.new.names c.next.ensures.kept c.next.ensures.distinct c.next.new.self
      c.in-Some-Ok.event c.line.result gives (c.line.ensures m.limits c.next.new.names b ended _ gives.2) c.take.new.self c.in_ok-take-in-Some-Ok.ensures.took c.ended-self.result
      c.take.new.names c.take.ensures.names (λ known events stands. c.ended-self.ensures m known events w stands) (none_is _ (sym c.is_some.ensures ∙ c.if-is_some.false)),
)
