use Rattle.std.proofs.Common.{◌≡◌, ◌++◌, drop, Ok}
use Rattle.sx_kinds.specs.Patterns.{have_types, settled_each}
use Rattle.sx_types.specs.Places.{place_of}
use Rattle.sx_types.proofs.patterns.settle_pattern.Given as goal

abbrev pub invariant-loop-e : goal.invariant-loop-e
invariant-loop-e l =
    (l.done ++ settled_each (place_of l.place) l.known (drop l.e-index l.e-items) ≡ settled_each (place_of l.place) (Ok tt) l.e-items) ×
    (l.known ≡ have_types l.place.context (Ok tt) l.done)
