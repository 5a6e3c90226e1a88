-- Positions as places in a list.
use Rattle.std.proofs.Common.{◌≡◌, ℕ, ◌+◌, ◌<◌, ◌^◌, min, Bool, ◌&&◌, nat_le, nat_lt, ℤ, pos, negsuc, int_le, int_lt, ap, ◌∙◌, arith}
use Rattle.std.proofs.lemmas.Bool.Decides.{nat_tests}
use Rattle.std.specs.Int.{saturate_signed, w128}

-- a position that is not behind an end is before it
pub before_end : (b : ℤ) (e p : ℕ) → p < 2 ^ 64 → int_le (saturate_signed w128 b) (pos (p + 1)) ≡ nat_le e p → int_lt (pos (p + 1)) b ≡ nat_lt p e
before_end (pos n) e p small h = grind (arith, nat_tests)
before_end (negsuc n) e p small h = grind (arith, nat_tests)

-- of those before the end, those from the lesser of two places on are those from the first one on
pub from_lesser : (s e p : ℕ) → (nat_le s p && nat_lt p e) ≡ (nat_le (min s e) p && nat_lt p e)
from_lesser s e p = grind (arith, nat_tests)

pub counted_range : (a b : ℤ) (s e p : ℕ) → p < 2 ^ 64 → int_le a (pos (p + 1)) ≡ nat_le s p → int_le (saturate_signed w128 b) (pos (p + 1)) ≡ nat_le e p
    → (int_le a (pos (p + 1)) && int_lt (pos (p + 1)) b) ≡ (nat_le (min s e) p && nat_lt p e)
counted_range a b s e p small h k =
    ap (λ (t : Bool). t && int_lt (pos (p + 1)) b) h ∙ ap (λ (t : Bool). nat_le s p && t) (before_end b e p small k) ∙ from_lesser s e p
