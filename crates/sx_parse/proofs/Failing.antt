-- Faults one token after the other.
use Rattle.std.proofs.Common.{◌≡◌, ℕ, suc, ◌+◌, ◌<◌, Bool, List, [], ◌∷◌, length, drop, get_or, min, None, refl, ap, sym, ◌∙◌, inl, inr, arith}
use Rattle.std.proofs.Math.Seq.{drop-cons}
use Rattle.std.proofs.lemmas.Bool.{cases_lt}
use Rattle.std.proofs.lemmas.List.{drop_all}
use Rattle.sx_lex.specs.declared.kinds.Token.{Token}
use Rattle.sx_names.specs.Scope.{ScopeBindings}
use Rattle.sx_parse.specs.Checks.{role_fault, fault_at, first_fault}
use Rattle.sx_parse.specs.declared.roles.Role.{Role}

-- a list from one place on
pub cut_at : {X : Type 0} (xs : List X) (k : ℕ) (x : X) → k < length xs → ((d : X) → x ≡ get_or xs k d) → drop k xs ≡ x ∷ drop (k + 1) xs
cut_at xs k x within is =
    drop-cons xs k x within ∙ ap (λ y. y ∷ drop (suc k) xs) (sym (is x)) ∙ ap (λ (n : ℕ). x ∷ drop n xs) (let e : suc k ≡ k + 1 = omega arith in e)

module _ (pattern : Bool) (scope : ScopeBindings) (text : List ℕ) (all : List Token) where
  -- the faults from one place on are that of the token there, or else those behind it
  pub fault_step : (rs : List Role) (ts : List Token) (k : ℕ) (r : Role) (t : Token) → k < length rs → k < length ts → ((d : Role) → r ≡ get_or rs k d) → ((d : Token) → t ≡ get_or ts k d)
      → first_fault pattern scope text all (drop k rs) (drop k ts)
      ≡ fault_at t.start (role_fault pattern scope text all r t) (first_fault pattern scope text all (drop (k + 1) rs) (drop (k + 1) ts))
  fault_step rs ts k r t few less role token =
      ap (λ (xs : List Role). first_fault pattern scope text all xs (drop k ts)) (cut_at rs k r few role)
      ∙ ap (first_fault pattern scope text all (r ∷ drop (k + 1) rs)) (cut_at ts k t less token)

  no_tokens : (rs : List Role) → first_fault pattern scope text all rs [] ≡ None
  no_tokens [] = refl
  no_tokens (r ∷ rs) = refl

  -- there are none behind the last
  pub fault_end : (rs : List Role) (ts : List Token) (k : ℕ) → k ≡ min (length rs) (length ts) → first_fault pattern scope text all (drop k rs) (drop k ts) ≡ None
  fault_end rs ts k end = elim (cases_lt k (length rs)) [
    | inl few ↦ ap (first_fault pattern scope text all (drop k rs)) (drop_all k ts (omega arith)) ∙ no_tokens (drop k rs)
    | inr past ↦ ap (λ (xs : List Role). first_fault pattern scope text all xs (drop k ts)) (drop_all k rs past)
  ]
