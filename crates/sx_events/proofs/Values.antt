-- Attribute lines whose values are taken out, the first one first.
use Rattle.std.proofs.Common.{◌≡◌, ◌≢◌, ℕ, suc, ◌+◌, ◌<◌, ◌≤◌, List, [], ◌∷◌, ◌++◌, length, take, drop, set, get_or, ap, ap₂, sym, ◌∙◌, arith}
use Rattle.std.proofs.Math.Seq.{split_at, take-suc}
use Rattle.std.proofs.lemmas.List.{take-take, length-take-le, get_or-take, get_or-set_other, get_or_default}
use Rattle.sx_events.specs.Place.{Written}

module _ (before now : List Written) (at count : ℕ) (same : (k : ℕ) (d : Written) → at ≤ k → get_or now k d ≡ get_or before k d)
    (less : at < count) (fits : count ≤ length before) (w : Written) (is : w ≡ get_or now at w) where
  there : w ≡ get_or before at w
  there = is ∙ same at w (omega arith)

  -- it is the next line
  pub next_line : take at before ++ w ∷ [] ≡ take (at + 1) before
  next_line =
      let one : suc at ≡ at + 1 = omega arith in
      ap (λ (x : Written). take at before ++ x ∷ []) there
      ∙ sym (take-suc before at w (omega (arith, less, fits)))
      ∙ ap (λ (n : ℕ). take n before) one

  -- it stands among so many
  pub among : take count before ≡ take at before ++ w ∷ drop (suc at) (take count before)
  among =
      let within : at < length (take count before) = omega (arith, length-take-le count before fits, less) in
      split_at (take count before) at w within
      ∙ ap₂ (λ (front : List Written) (x : Written). front ++ x ∷ drop (suc at) (take count before))
      (take-take at count before (omega (arith, less))) (get_or-take count before at w less ∙ sym there)

  -- what stands behind it is as before
  pub same_behind : (x : Written) (k : ℕ) (d : Written) → at + 1 ≤ k → get_or (set now at x) k d ≡ get_or before k d
  same_behind x k d behind =
      let other : k ≢ at = omega arith in
      get_or-set_other now at k x d other ∙ same k d (omega (arith, behind))

  -- it is read again
  pub once_more : (v : Written) → length now ≡ length before → v ≡ get_or now at v → v ≡ w
  once_more v as_many read = read ∙ get_or_default now at v w (omega (arith, less, fits, as_many)) ∙ sym is
