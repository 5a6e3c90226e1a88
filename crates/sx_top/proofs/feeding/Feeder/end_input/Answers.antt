use Rattle.std.proofs.Common.{true, sym, ◌∙◌}
use Rattle.std.proofs.lemmas.Result.{on_ok_weaker}
use Rattle.sx_top.proofs.Feedings.{end_dropped, waiting, fed_more, lines_end, some_is, none_is}
use Rattle.sx_top.proofs.feeding.Feeder.end_input.Goals as goal

pub returns-then-is_some-clause-stands : goal.returns-then-is_some-clause-stands
returns-then-is_some-clause-stands g c = λ m b w s.
    end_dropped g.T.EventTaker.stands m c.args.self.now b w s (some_is _ (sym c.is_some.ensures ∙ c.if-is_some.true))

pub returns-clause-stands : goal.returns-clause-stands
returns-clause-stands g c =
    on_ok_weaker c.take_events.result
    (λ next m b w s.
    let none = none_is _ (sym c.is_some.ensures ∙ c.if-is_some.false) in
    let stands = g.T.EventTaker.stands in
    next m b w true s.steady s.bounded
    (fed_more stands m c.args.self.now b w s none _ b true (lines_end m.limits b)
    (c.in_ok-finish.ensures.told m.limits c.args.self.now.names b _ (waiting stands m c.args.self.now b w s none).going.reads)))
    c.take_events.ensures.stands
