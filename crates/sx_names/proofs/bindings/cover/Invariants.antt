use Rattle.std.proofs.Common.{◌≡◌, ℕ, ◌+◌, ◌-◌, None, get_or, vec_len}
use Rattle.sx_names.proofs.bindings.cover.Given as goal

abbrev pub invariant-loop-in_force : goal.invariant-loop-in_force
invariant-loop-in_force l = (n : ℕ) → get_or l.in_force.items n None ≡ get_or l.fn.in_force.items n None

abbrev pub decreases-loop-in_force : goal.decreases-loop-in_force
decreases-loop-in_force l = l.number + 1 - vec_len l.in_force
