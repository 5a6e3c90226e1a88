use Rattle.std.proofs.Common.{◌≡◌, ◌-◌, drop, length}
use Rattle.sx_names.proofs.scope.Scope.leave.Given as goal

abbrev pub invariant-loop-self : goal.invariant-loop-self
invariant-loop-self l =
    (drop (length l.self-inside.bindings - l.begin) l.self-inside.bindings ≡ drop (length l.initial.self-inside.bindings - l.begin) l.initial.self-inside.bindings)
    × (l.self-inside.begins.items ≡ l.initial.self-inside.begins.items)

abbrev pub decreases-loop-self : goal.decreases-loop-self
decreases-loop-self l = length l.self-inside.bindings
