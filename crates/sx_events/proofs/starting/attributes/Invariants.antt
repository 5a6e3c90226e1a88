use Rattle.std.proofs.Common.{◌≡◌, ℕ, ◌≤◌, length, get_or, take}
use Rattle.sx_events.specs.Place.{Written}
use Rattle.sx_events.proofs.Namings.{Resolved}
use Rattle.sx_events.proofs.starting.attributes.Given as goal

abbrev pub invariant-loop-at : goal.invariant-loop-at
invariant-loop-at l =
    ((k : ℕ) (d : Written) → l.at ≤ k → get_or l.lines.items k d ≡ get_or l.initial.lines.items k d)
    × (length l.lines.items ≡ length l.initial.lines.items)
    × Resolved l.fn.names l.names l.scope (take l.at l.initial.lines.items) l.attrs
