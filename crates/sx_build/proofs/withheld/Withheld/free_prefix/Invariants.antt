use Rattle.std.proofs.Common.{◌≡◌, ◌-◌, ◌∷◌, ◌++◌}
use Rattle.sx_build.specs.FixUp.{prefixes, first_free, free_prefix}
use Rattle.sx_build.specs.InForce.{in_force}
use Rattle.sx_build.specs.Kept.{name_prefixes}
use Rattle.sx_build.proofs.withheld.Withheld.free_prefix.Given as goal

abbrev pub invariant-loop-number : goal.invariant-loop-number
invariant-loop-number l =
    let taken = prefixes (l.self.declared.items ++ in_force l.outer) ++ l.self.prefix ∷ name_prefixes l.self.names.items in
    first_free (l.count - l.number) taken l.number ≡ free_prefix taken
