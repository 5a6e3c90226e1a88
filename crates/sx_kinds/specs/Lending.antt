-- What a list of branches ends as, once a `&mut` into it has ended.
use Rattle.std.specs.Prelude.{ℕ, List, slice_set}
use Rattle.std.specs.Borrow.{Fml, RattleType, MutBor, Lends}
use Rattle.sx_kinds.specs.contracts.branches.Branches.{the_row}

-- the list ends with the last value behind the reference at this place, and with the others as they were
abbrev pub LendsPart : (T : RattleType) → MutBor (List T.Denot) → ℕ → MutBor T.Denot → Fml
LendsPart T branches place part =
    Lends (the_row T) T branches part (λ last. slice_set branches.now place last)
