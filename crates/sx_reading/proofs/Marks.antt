-- Marks, one more at the end.
use Rattle.std.proofs.Common.{◌≡◌, ◌⊎◌, inl, inr, ℕ, zero, suc, ◌+◌, ◌<◌, ◌≤◌, Bool, true, false, List, [], ◌∷◌, ◌++◌, length, take, refl, ap, sym, ◌∙◌, arith, append_assoc}
use Rattle.sx_reading.specs.Transforming.{WrittenFor, OutcomeFor, MarkStands, MarksStand, RiseFrom, RiseTo, most_read, StepFrom, StepTo, HasMark}
use Rattle.sx_reading.specs.Turn.{is_end}

module _ (written : WrittenFor) (outcome : OutcomeFor) where
  pub stand_longer : (c : List ℕ) (before : ℕ) (w more : List ℕ) (marks : List (ℕ × ℕ)) → MarksStand written outcome c before w marks → MarksStand written outcome c before (w ++ more) marks
  stand_longer c before w more [] s = tt
  stand_longer c before w more (m ∷ ms) s = (
    record {
      count = s.0.count;
      front = (s.0.front.0 ++ more, sym (append_assoc _ s.0.front.0 more) ∙ ap (λ (x : List ℕ). x ++ more) s.0.front.1);
      going = s.0.going;
    },
    stand_longer c before w more ms s.1,
  )

  pub stand_snoc : (c : List ℕ) (before : ℕ) (w : List ℕ) (marks : List (ℕ × ℕ)) (m : ℕ × ℕ) → MarksStand written outcome c before w marks → MarkStands written outcome c before w m → MarksStand written outcome c before w (marks ++ m ∷ [])
  stand_snoc c before w [] m s new = (new, tt)
  stand_snoc c before w (k ∷ ks) m s new = (s.0, stand_snoc c before w ks m s.1 new)

rise_from_snoc : (low : ℕ) (marks : List (ℕ × ℕ)) (m : ℕ × ℕ) (limit : ℕ) → RiseFrom low marks m.0 → m.0 < limit → RiseFrom low (marks ++ m ∷ []) limit
rise_from_snoc low [] m limit r lt = (r, lt)
rise_from_snoc low (k ∷ ks) m limit r lt = (r.0, rise_from_snoc k.0 ks m limit r.1 lt)

pub rise_snoc : (marks : List (ℕ × ℕ)) (m : ℕ × ℕ) (limit : ℕ) → RiseTo marks m.0 → m.0 < limit → RiseTo (marks ++ m ∷ []) limit
rise_snoc [] m limit r lt = lt
rise_snoc (k ∷ ks) m limit r lt = rise_from_snoc k.0 ks m limit r lt

rise_from_weaker : (low : ℕ) (marks : List (ℕ × ℕ)) (a b : ℕ) → a ≤ b → RiseFrom low marks a → RiseFrom low marks b
rise_from_weaker low [] a b le r = omega arith
rise_from_weaker low (k ∷ ks) a b le r = (r.0, rise_from_weaker k.0 ks a b le r.1)

pub rise_weaker : (marks : List (ℕ × ℕ)) (a b : ℕ) → a ≤ b → RiseTo marks a → RiseTo marks b
rise_weaker [] a b le r = tt
rise_weaker (k ∷ ks) a b le r = rise_from_weaker k.0 ks a b le r

step_from_snoc : (low : ℕ) (marks : List (ℕ × ℕ)) (m : ℕ × ℕ) (last : ℕ) → StepFrom low marks m.0 → last ≤ m.0 + most_read → StepFrom low (marks ++ m ∷ []) last
step_from_snoc low [] m last s le = (s, le)
step_from_snoc low (k ∷ ks) m last s le = (s.0, step_from_snoc k.0 ks m last s.1 le)

-- one read more
pub step_snoc : (marks : List (ℕ × ℕ)) (m : ℕ × ℕ) (last : ℕ) → StepTo marks m.0 → last ≤ m.0 + most_read → StepTo (marks ++ m ∷ []) last
step_snoc [] m last s le = (s, le)
step_snoc (k ∷ ks) m last s le = (s.0, step_from_snoc k.0 ks m last s.1 le)

low_below : (low : ℕ) (marks : List (ℕ × ℕ)) (limit : ℕ) → RiseFrom low marks limit → low < limit
low_below low [] limit r = r
low_below low (k ∷ ks) limit r =
    let rest = low_below k.0 ks limit r.1 in
    let first = r.0 in
    omega arith

none_from : (low : ℕ) (marks : List (ℕ × ℕ)) (limit t : ℕ) → RiseFrom low marks limit → limit ≤ t → HasMark t marks → ⊥
none_from low [] limit t r le has = has
none_from low (k ∷ ks) limit t r le (inl e) =
    let below = low_below k.0 ks limit r.1 in
    absurd (omega arith)
none_from low (k ∷ ks) limit t r le (inr has) = none_from k.0 ks limit t r.1 le has

-- no mark stands at the limit or above
pub none_above : (marks : List (ℕ × ℕ)) (limit t : ℕ) → RiseTo marks limit → limit ≤ t → HasMark t marks → ⊥
none_above [] limit t r le has = has
none_above (k ∷ ks) limit t r le (inl e) =
    let below = low_below k.0 ks limit r in
    absurd (omega arith)
none_above (k ∷ ks) limit t r le (inr has) = none_from k.0 ks limit t r le has

pub has_snoc : (marks : List (ℕ × ℕ)) (m : ℕ × ℕ) → HasMark m.0 (marks ++ m ∷ [])
has_snoc [] m = inl refl
has_snoc (k ∷ ks) m = inr (has_snoc ks m)

pub split_snoc : (marks : List (ℕ × ℕ)) (m : ℕ × ℕ) (t : ℕ) → HasMark t (marks ++ m ∷ []) → HasMark t marks ⊎ (m.0 ≡ t)
split_snoc [] m t (inl e) = inr e
split_snoc [] m t (inr has) = absurd has
split_snoc (k ∷ ks) m t (inl e) = inl (inl e)
split_snoc (k ∷ ks) m t (inr has) = in_rest (split_snoc ks m t has)
  where
    in_rest : HasMark t ks ⊎ (m.0 ≡ t) → HasMark t (k ∷ ks) ⊎ (m.0 ≡ t)
    in_rest (inl h) = inl (inr h)
    in_rest (inr e) = inr e

-- what it says of the count that no bytes came
abbrev pub EndIs : Bool → ℕ → Type 0
EndIs true n = n ≡ 0
EndIs false n = 1 ≤ n

pub end_is : (n : ℕ) (buf : List ℕ) → n ≤ length buf → EndIs (is_end (take n buf)) n
end_is zero buf le = refl
end_is (suc n) [] le = absurd (omega arith)
end_is (suc n) (x ∷ buf) le = omega arith
