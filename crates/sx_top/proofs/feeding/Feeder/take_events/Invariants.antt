use Rattle.std.proofs.Common.{List, ℕ, Bool, ◌≤◌, ◌^◌}
use Rattle.sx_events.specs.Reader.{left}
use Rattle.sx_names.specs.Numbering.{KeepsPlaces}
use Rattle.sx_top.specs.Feeding.{Meaning, IsSteady, Going}
use Rattle.sx_top.proofs.feeding.Feeder.take_events.Given as goal

abbrev pub invariant-events : goal.invariant-events
invariant-events g l =
    KeepsPlaces l.fn.self.names l.self.names
    × ((m : Meaning) (b w : List ℕ) (ended : Bool) → IsSteady m → m.limits.bytes ≤ 2 ^ 40
    → Going g.T.EventTaker.stands m l.fn.self b ended w → Going g.T.EventTaker.stands m l.self b ended w)

abbrev pub decreases-events : goal.decreases-events
decreases-events g l = left l.self.reader
