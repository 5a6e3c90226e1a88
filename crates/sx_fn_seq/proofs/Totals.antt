-- Sums of sequences behind one another.
use Rattle.std.proofs.Common.{◌≡◌, List, [], ◌∷◌, ◌++◌, Result, Ok, Err, refl}
use Rattle.sx_atoms.specs.Numbers.{◌>>=◌}
use Rattle.sx_atoms.specs.declared.atoms.Atom.{Atom}
use Rattle.sx_atoms.specs.declared.error_codes.Code.{Code}
use Rattle.sx_fn_seq.specs.Sums.{with_item, sum_from, sum_after}

pub sum_from-append : (start : Atom) (xs ys : List Atom) → sum_from start (xs ++ ys) ≡ sum_after (sum_from start xs) ys
sum_from-append start [] ys = refl
sum_from-append start (x ∷ xs) ys = by (with_item start x) (λ s. sum_from-append s xs ys)
  where
    by : (r : Result Atom Code) → ((s : Atom) → sum_from s (xs ++ ys) ≡ sum_after (sum_from s xs) ys)
        → (r >>= (λ s. sum_from s (xs ++ ys))) ≡ sum_after (r >>= (λ s. sum_from s xs)) ys
    by (Ok s) k = k s
    by (Err e) k = refl
