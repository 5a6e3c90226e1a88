use Rattle.std.proofs.Common.{refl, sym, ◌∙◌}
use Rattle.sx_events.proofs.Givings.{gives_text, gives_last}
use Rattle.sx_events.proofs.pending.Pending.take_first.Goals as goal

pub returns-in-Some-clause-next : goal.returns-in-Some-clause-next
returns-in-Some-clause-next c = λ names events given line pends.
    gives_text c.args.self.now _ names events given line pends c.in-Some.text (sym c.take.ensures.value ∙ c.in-Some.is) c.take.ensures.after refl

pub returns-clause-next : goal.returns-clause-next
returns-clause-next c =
    gives_last c.args.self.now _ c.take-2.result (sym c.take.ensures.value ∙ c.in_default.is) (sym c.take-2.ensures.value) c.take.ensures.after c.take-2.ensures.after
