use Rattle.std.proofs.Common.{◌≡◌, ◌<◌, ◌≤◌, ℕ, length, take}
use Rattle.sx_machine.specs.Choice.{last_that}
use Rattle.sx_machine.specs.Session.{rule_at, place_in, is_rule_for}
use Rattle.sx_machine.proofs.rule_table.places_from.Given as goal

abbrev pub invariant-loop-place : goal.invariant-loop-place
invariant-loop-place l = ((n : ℕ) → n < length l.names → rule_at l.rules (place_in l.places n) ≡ last_that (is_rule_for n) (take l.place l.rules))
    × (length l.places ≤ length l.names)
