-- Bytes that hold no byte of a kind, and what can be split at one.
use Rattle.std.proofs.Common.{◌≡◌, ℕ, suc, zero, ◌<◌, ◌≤◌, List, [], ◌∷◌, ◌++◌, length, take, drop, get_or, refl, ap, ◌∙◌, arith}
use Rattle.sx_lines.specs.Lines.{Lacks}

module _ (mark : ℕ) where
  pub Lacks-append : (xs ys : List ℕ) → Lacks mark xs → Lacks mark ys → Lacks mark (xs ++ ys)
  Lacks-append [] ys l m = m
  Lacks-append (x ∷ xs) ys l m = (l.0, Lacks-append xs ys l.1 m)

  -- bytes that hold none are not split at one
  pub not_split : (whole a b : List ℕ) → Lacks mark whole → ¬ (whole ≡ a ++ mark ∷ b)
  not_split [] [] b l e = cc
  not_split [] (x ∷ a) b l e = cc
  not_split (w ∷ whole) [] b l e = l.0 (cc)
  not_split (w ∷ whole) (x ∷ a) b l e = not_split whole a b l.1 (cc)

  -- there is one way to split bytes at the first
  pub unique_split : (a b c d : List ℕ) → Lacks mark a → Lacks mark b → a ++ mark ∷ c ≡ b ++ mark ∷ d → (a ≡ b) × (c ≡ d)
  unique_split [] [] c d l m e = (refl, cc)
  unique_split [] (y ∷ b) c d l m e = absurd (m.0 (cc))
  unique_split (x ∷ a) [] c d l m e = absurd (l.0 (cc))
  unique_split (x ∷ a) (y ∷ b) c d l m e =
      let rest = unique_split a b c d l.1 m.1 (cc) in
      let head : x ≡ y = (cc) in
      (ap (λ h. h ∷ a) head ∙ ap (λ t. y ∷ t) rest.0, rest.1)

  pub none_at : (s : List ℕ) → ((k : ℕ) → k < length s → ¬ (get_or s k 0 ≡ mark)) → Lacks mark s
  none_at [] none = tt
  none_at (b ∷ s) none = (none 0 (omega arith), none_at s (λ k h. none (suc k) (omega arith)))

  -- the bytes in front of a place before which none stands
  pub none_before : (s : List ℕ) (i : ℕ) → ((k : ℕ) → k < i → ¬ (get_or s k 0 ≡ mark)) → i ≤ length s → Lacks mark (take i s)
  none_before s zero none h = tt
  none_before [] (suc i) none h = tt
  none_before (b ∷ s) (suc i) none h = (none 0 (omega arith), none_before s i (λ k l. none (suc k) (omega arith)) (omega arith))

  -- and the split at the place itself
  pub split_there : (s : List ℕ) (i : ℕ) → i < length s → get_or s i 0 ≡ mark → s ≡ take i s ++ mark ∷ drop (suc i) s
  split_there [] i h at = absurd (omega arith)
  split_there (b ∷ s) zero h at = ap (λ x. x ∷ s) at
  split_there (b ∷ s) (suc i) h at = ap (λ t. b ∷ t) (split_there s i (omega arith) at)
