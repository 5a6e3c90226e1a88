-- Bindings that are in force.
use Rattle.std.specs.Prelude.{ℕ, bytes_eq, List, [], ◌∷◌, ◌++◌, reverse, Option, Some, None, if◌then◌else◌}
use Rattle.sx_build.specs.FixUp.{Binding, first_bound}

-- the first binding of a prefix
abbrev pub first_binding : List Binding → List ℕ → Option Binding
first_binding [] prefix = None
first_binding (b ∷ bs) prefix = if bytes_eq b.prefix prefix then Some b else first_binding bs prefix

-- what is in force where elements have declared this, the innermost last
abbrev pub in_force : List Binding → List Binding
in_force outer = reverse outer ++ first_bound
