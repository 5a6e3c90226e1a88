-- Fronts of a text, and where it may be cut.
use Rattle.std.proofs.Common.{◌≡◌, ℕ, zero, suc, ◌+◌, ◌-◌, ◌<◌, ◌≤◌, Bool, true, false, cond, List, [], ◌∷◌, length, refl, take, drop, get_or, ap, subst, ◌∙◌, inl, inr, arith, length-drop, get_or-drop, get_or-take}
use Rattle.std.proofs.lemmas.Bool.{and_from, cases_lt}
use Rattle.std.proofs.lemmas.Str.{IsCharBoundary-after_ascii, IsCharBoundary-start}
use Rattle.std.specs.List.{list_all, prefix_len}
use Rattle.std.specs.Str.{IsCharBoundary, IsUtf8}

-- a text may be cut behind ASCII
pub boundary_behind : (s : List ℕ) (n : ℕ) → IsUtf8 s → n ≤ length s → (0 < n → get_or s (n - 1) 0 < 128) → IsCharBoundary s n
boundary_behind s n text within ascii = elim (cases_lt 0 n) [
  | inl some ↦
      subst (λ (m : ℕ). IsCharBoundary s m) (omega arith) (IsCharBoundary-after_ascii s (n - 1) text (omega arith) (ascii some))
  | inr none ↦ subst (λ (m : ℕ). IsCharBoundary s m) (omega arith) (IsCharBoundary-start s text)
]

-- where a text may be cut, what is left of it may be
pub boundary_of_rest : (s : List ℕ) (i m : ℕ) → i ≤ m → IsCharBoundary s m → IsCharBoundary (drop i s) (m - i)
boundary_of_rest s i m order cut =
    let at : get_or (drop i s) (m - i) 0 ≡ get_or s m 0 = get_or-drop i s (m - i) 0 ∙ ap (λ (k : ℕ). get_or s k 0) (omega arith) in
    (omega (arith, cut.0, length-drop i s), λ within lead. omega (arith, cut.1 (omega (arith, length-drop i s)) (omega arith)))

-- the first byte of a front is that of the text
pub front_byte : (s : List ℕ) (m : ℕ) → 0 < m → get_or (take m s) 0 0 ≡ get_or s 0 0
front_byte s m some = get_or-take m s 0 0 some

-- the bytes in front that pass
pub all_pass : (passes : ℕ → Bool) (s : List ℕ) (n : ℕ) → n ≤ prefix_len passes s → list_all passes (take n s) ≡ true
all_pass passes s zero most = refl
all_pass passes [] (suc n) most = refl
all_pass passes (b ∷ bs) (suc n) most = by (passes b) refl most (all_pass passes bs n)
  where
    by : (v : Bool) → passes b ≡ v → suc n ≤ cond v (1 + prefix_len passes bs) 0 → (n ≤ prefix_len passes bs → list_all passes (take n bs) ≡ true) → list_all passes (b ∷ take n bs) ≡ true
    by true e most rest = and_from (passes b) (list_all passes (take n bs)) e (rest (omega arith))
    by false e most rest = absurd (omega arith)
