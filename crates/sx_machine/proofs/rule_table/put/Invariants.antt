use Rattle.std.proofs.Common.{◌≡◌, ◌<◌, ◌≤◌, ◌+◌, ◌-◌, ℕ, length}
use Rattle.sx_machine.specs.Session.{place_in}
use Rattle.sx_machine.proofs.rule_table.put.Given as goal

abbrev pub invariant-loop-places : goal.invariant-loop-places
invariant-loop-places l = ((n : ℕ) → place_in l.places n ≡ place_in l.initial.places n)
    × ((most : ℕ) → l.number < most → length l.initial.places ≤ most → length l.places ≤ most)

abbrev pub decreases-loop-places : goal.decreases-loop-places
decreases-loop-places l = l.number + 1 - length l.places
