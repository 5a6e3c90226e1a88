use Rattle.std.proofs.Common.{◌≡◌, ◌+◌, ◌*◌, ◌^◌, ◌≤◌, min, length, drop}
use Rattle.sx_atoms.specs.Lexical.{digits_value}
use Rattle.sx_atoms.proofs.Digits.{most}
use Rattle.sx_atoms.proofs.lexical.append_digits.Given as goal

abbrev pub invariant-loop-digit : goal.invariant-loop-digit
invariant-loop-digit l =
    (l.all ≤ most)
    × (min (l.all * 10 ^ length (drop l.digit-index l.digits) + digits_value (drop l.digit-index l.digits)) most
    ≡ min (l.fn.number * 10 ^ length l.digits + digits_value l.digits) most)
