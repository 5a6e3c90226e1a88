use Rattle.std.proofs.Common.{◌≡◌, ◌∙◌, None, sym}
use Rattle.sx_esis.specs.Gives.{view_line}
use Rattle.sx_esis.specs.Lines.{ends, has, lacks, says, instructs, conforms}
use Rattle.sx_events.specs.Place.{Place}
use Rattle.sx_events.specs.Standing.{Knows, place_fault}
use Rattle.sx_events.proofs.Takings.{takes_it, takes_if}
use Rattle.sx_events.proofs.standing.Standing.take.Goals as goal

pub returns-in-End-clause-takes : goal.returns-in-End-clause-takes
returns-in-End-clause-takes c =
    let may : (p : Place) → Knows c.args.self.now p → place_fault p (view_line c.args.line) ≡ None = λ p knows. sym (c.place_fault.ensures p knows) ∙ c.in_default.is in
    rw c.in-End.is (takes_it c.args.limits.now (ends c.in-End.name.now) c.args.number c.args.names.now c.args.self.now c.end.new.self c.args.pending.now c.end.new.pending
    (rw c.in-End.is at may) c.end.result (c.end.ensures.takes c.args.limits.now c.args.names.now))

pub returns-in-Attr-clause-takes : goal.returns-in-Attr-clause-takes
returns-in-Attr-clause-takes c =
    let may : (p : Place) → Knows c.args.self.now p → place_fault p (view_line c.args.line) ≡ None = λ p knows. sym (c.place_fault.ensures p knows) ∙ c.in_default.is in
    rw c.in-Attr.is (takes_if c.args.limits.now (has c.in-Attr.name.now c.in-Attr.value.now) c.args.number c.args.names.now c.args.self.now c.attribute.new.self c.args.pending.now c.attribute.new.pending
    (rw c.in-Attr.is at may) c.attribute.result (c.attribute.ensures.takes c.args.number c.args.names.now))

pub returns-in-Implied-clause-takes : goal.returns-in-Implied-clause-takes
returns-in-Implied-clause-takes c =
    let may : (p : Place) → Knows c.args.self.now p → place_fault p (view_line c.args.line) ≡ None = λ p knows. sym (c.place_fault.ensures p knows) ∙ c.in_default.is in
    rw c.in-Implied.is (takes_it c.args.limits.now (lacks c.in-Implied.field-0.now) c.args.number c.args.names.now c.args.self.now c.lack.new.self c.args.pending.now c.lack.new.pending
    (rw c.in-Implied.is at may) c.lack.result (c.lack.ensures.takes c.args.limits.now c.in-Implied.field-0.now c.args.number c.args.names.now))

pub returns-in-Text-clause-takes : goal.returns-in-Text-clause-takes
returns-in-Text-clause-takes c =
    let may : (p : Place) → Knows c.args.self.now p → place_fault p (view_line c.args.line) ≡ None = λ p knows. sym (c.place_fault.ensures p knows) ∙ c.in_default.is in
    rw c.in-Text.is (takes_if c.args.limits.now (says c.in-Text.text.now) c.args.number c.args.names.now c.args.self.now c.say.new.self c.args.pending.now c.args.pending.now
    (rw c.in-Text.is at may) c.say.result (c.say.ensures.takes c.args.names.now c.args.pending.now))

pub returns-in-Pi-clause-takes : goal.returns-in-Pi-clause-takes
returns-in-Pi-clause-takes c =
    let may : (p : Place) → Knows c.args.self.now p → place_fault p (view_line c.args.line) ≡ None = λ p knows. sym (c.place_fault.ensures p knows) ∙ c.in_default.is in
    rw c.in-Pi.is (takes_if c.args.limits.now (instructs c.in-Pi.text.now) c.args.number c.args.names.now c.args.self.now c.instruct.new.self c.args.pending.now c.instruct.new.pending
    (rw c.in-Pi.is at may) c.instruct.result (c.instruct.ensures.takes c.args.limits.now c.args.names.now))

pub returns-in-Conforming-clause-takes : goal.returns-in-Conforming-clause-takes
returns-in-Conforming-clause-takes c =
    let may : (p : Place) → Knows c.args.self.now p → place_fault p (view_line c.args.line) ≡ None = λ p knows. sym (c.place_fault.ensures p knows) ∙ c.in_default.is in
    rw c.in-Conforming.is (takes_it c.args.limits.now conforms c.args.number c.args.names.now c.args.self.now c.conform.new.self c.args.pending.now c.conform.new.pending
    (rw c.in-Conforming.is at may) c.conform.result (c.conform.ensures.takes c.args.limits.now c.args.number c.args.names.now))
