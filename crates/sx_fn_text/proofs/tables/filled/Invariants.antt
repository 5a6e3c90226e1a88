use Rattle.std.proofs.Common.{◌≡◌, ℕ, ◌==◌, drop, unwrap_or}
use Rattle.std.specs.BTreeMap.{get}
use Rattle.std.specs.List.{position}
use Rattle.std.specs.Ordering.{nat_cmp}
use Rattle.sx_fn_text.specs.Characters.{partner}
use Rattle.sx_fn_text.proofs.tables.filled.Given as goal

abbrev pub invariant-loop-place : goal.invariant-loop-place
invariant-loop-place l =
    (c : ℕ) → unwrap_or (get nat_cmp l.table c) (partner c (drop l.place l.to) (position (λ d. d == c) (drop l.place l.from)))
    ≡ partner c l.to (position (λ d. d == c) l.from)
