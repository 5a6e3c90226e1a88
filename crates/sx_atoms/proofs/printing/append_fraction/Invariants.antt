use Rattle.std.proofs.Common.{◌≡◌, ◌^◌, ◌<◌, ◌≤◌, ◌++◌, string_bytes}
use Rattle.sx_atoms.specs.Printing.{fraction_text, places, without_zeros}
use Rattle.sx_atoms.proofs.printing.append_fraction.Given as goal

abbrev pub invariant-loop-rest : goal.invariant-loop-rest
invariant-loop-rest l =
    (l.places ≤ 9) × (l.rest < 10 ^ l.places)
    × (string_bytes l.out ++ without_zeros (places l.places l.rest) ≡ string_bytes l.fn.out ++ fraction_text l.fn.units)

abbrev pub decreases-loop-rest : goal.decreases-loop-rest
decreases-loop-rest l = l.places
