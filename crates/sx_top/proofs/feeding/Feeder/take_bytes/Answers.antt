use Rattle.std.proofs.Common.{◌++◌, false, sym, ◌∙◌}
use Rattle.std.proofs.lemmas.Result.{on_ok_weaker}
use Rattle.sx_top.proofs.Feedings.{more_dropped, waiting, fed_more, lines_grow, some_is, none_is}
use Rattle.sx_top.proofs.feeding.Feeder.take_bytes.Goals as goal

pub returns-then-is_some-clause-stands : goal.returns-then-is_some-clause-stands
returns-then-is_some-clause-stands g c = λ m b w s.
    more_dropped g.T.EventTaker.stands m c.args.self.now b w s c.args.piece.now (some_is _ (sym c.is_some.ensures ∙ c.if-is_some.true))

pub returns-clause-stands : goal.returns-clause-stands
returns-clause-stands g c =
    on_ok_weaker c.take_events.result
    (λ next m b w s.
    let none = none_is _ (sym c.is_some.ensures ∙ c.if-is_some.false) in
    let stands = g.T.EventTaker.stands in
    next m (b ++ c.args.piece.now) w false s.steady s.bounded
    (fed_more stands m c.args.self.now b w s none _ (b ++ c.args.piece.now) false (lines_grow m.limits b c.args.piece.now)
    (c.in_ok-feed.ensures.fed m.limits c.args.self.now.names b _ (waiting stands m c.args.self.now b w s none).going.reads)))
    c.take_events.ensures.stands
