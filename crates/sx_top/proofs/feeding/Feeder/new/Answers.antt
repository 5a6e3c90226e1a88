use Rattle.std.proofs.Common.{[], false, sym, subst}
use Rattle.sx_events.specs.Reader as reader
use Rattle.sx_limits.specs.declared.limits.Limits.{Limits}
use Rattle.sx_top.proofs.Feedings.{fresh}
use Rattle.sx_top.proofs.feeding.Feeder.new.Goals as goal

pub returns-clause-stands : goal.returns-clause-stands
returns-clause-stands g c = λ m steady within distinct stands.
    fresh g.T.EventTaker.stands m _ steady (rw within c.requires.bytes) distinct stands
    (subst (λ (l : Limits). reader.EventsStand c.new.result l c.args.names [] false 0) (sym within) (c.new.ensures.stands c.args.names)) (c.ended-outcome.ensures m c.args.names [] [] stands)
