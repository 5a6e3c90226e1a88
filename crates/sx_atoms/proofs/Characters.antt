-- The order of characters is that of their bytes.
use Rattle.std.proofs.Common.{◌≡◌, ℕ, ◌+◌, ◌/◌, ◌<◌, ◌≤◌, Bool, true, false, cond, nat_lt, List, [], ◌∷◌, ◌++◌, refl, ap, sym, ◌∙◌, arith, inl, inr}
use Rattle.std.proofs.Math.Utf8.{encode, encodes, next}
use Rattle.std.proofs.lemmas.Bool.{cases_order, ltb-true, ltb-false}
use Rattle.std.proofs.lemmas.Bool.Decides.{nat_tests}
use Rattle.std.proofs.lemmas.Cmp.{nat_list_cmp_total}
use Rattle.std.specs.Cmp.Lexicographic.{slice_cmp}
use Rattle.std.specs.Bool.{MatchBool}
use Rattle.std.specs.declared.cmp.Ordering.{Ordering}
use Rattle.std.specs.declared.cmp.Ordering.TheVariants.{Less, Equal, Greater}
use Rattle.std.specs.Ordering.{nat_cmp, ordering_reverse}

abbrev order : List ℕ → List ℕ → Ordering
order xs ys = slice_cmp nat_cmp xs ys

-- the first numbers decide, or else the others do
head_less : (x y : ℕ) (xs ys : List ℕ) → x < y → order (x ∷ xs) (y ∷ ys) ≡ Less
head_less x y xs ys h = let e : nat_cmp x y ≡ Less = grind (arith, nat_tests) in rw e refl

head_same : (x y : ℕ) (xs ys : List ℕ) → x ≡ y → order (x ∷ xs) (y ∷ ys) ≡ order xs ys
head_same x y xs ys h = let e : nat_cmp x y ≡ Equal = grind (arith, nat_tests) in rw e refl

then_less : (x y : ℕ) (xs ys : List ℕ) → x ≤ y → (x ≡ y → order xs ys ≡ Less) → order (x ∷ xs) (y ∷ ys) ≡ Less
then_less x y xs ys low f = elim (cases_order x y) [
  | inl e ↦ head_same x y xs ys e ∙ f e
  | inr h ↦ elim h [ inl l ↦ head_less x y xs ys l | inr g ↦ absurd (omega arith) ]
]

-- the bytes of a character, by three tests of its number
abbrev bytes_by : Bool → Bool → Bool → ℕ → List ℕ
bytes_by one two three c = cond one (c ∷ []) (cond two ((192 + c / 64) ∷ next c ∷ [])
    (cond three ((224 + c / 4096) ∷ next (c / 64) ∷ next c ∷ []) ((240 + c / 262144) ∷ next (c / 4096) ∷ next (c / 64) ∷ next c ∷ [])))

-- what stands behind the first byte of two, three and four, and then
abbrev behind_two : ℕ → List ℕ → List ℕ
behind_two c X = next c ∷ X

abbrev behind_three : ℕ → List ℕ → List ℕ
behind_three c X = next (c / 64) ∷ behind_two c X

abbrev behind_four : ℕ → List ℕ → List ℕ
behind_four c X = next (c / 4096) ∷ behind_three c X

less_by : (a b e a' b' e' : Bool) (c d : ℕ) (X Y : List ℕ) → c < d
    → MatchBool a (c < 128) (128 ≤ c) → MatchBool b (c < 2048) (2048 ≤ c) → MatchBool e (c < 65536) (65536 ≤ c)
    → MatchBool a' (d < 128) (128 ≤ d) → MatchBool b' (d < 2048) (2048 ≤ d) → MatchBool e' (d < 65536) (65536 ≤ d)
    → order (bytes_by a b e c ++ X) (bytes_by a' b' e' d ++ Y) ≡ Less
less_by true b e true b' e' c d X Y h p q r s t u = head_less c d X Y h
less_by true b e false true e' c d X Y h p q r s t u = head_less c (192 + d / 64) X (behind_two d Y) (omega arith)
less_by true b e false false true c d X Y h p q r s t u = head_less c (224 + d / 4096) X (behind_three d Y) (omega arith)
less_by true b e false false false c d X Y h p q r s t u = head_less c (240 + d / 262144) X (behind_four d Y) (omega arith)
less_by false b e true b' e' c d X Y h p q r s t u = absurd (omega arith)
less_by false true e false true e' c d X Y h p q r s t u =
    then_less (192 + c / 64) (192 + d / 64) (behind_two c X) (behind_two d Y) (omega arith) (λ f. head_less (next c) (next d) X Y (omega arith))
less_by false true e false false true c d X Y h p q r s t u = head_less (192 + c / 64) (224 + d / 4096) (behind_two c X) (behind_three d Y) (omega arith)
less_by false true e false false false c d X Y h p q r s t u = head_less (192 + c / 64) (240 + d / 262144) (behind_two c X) (behind_four d Y) (omega arith)
less_by false false e false true e' c d X Y h p q r s t u = absurd (omega arith)
less_by false false true false false true c d X Y h p q r s t u =
    then_less (224 + c / 4096) (224 + d / 4096) (behind_three c X) (behind_three d Y) (omega arith)
    (λ f. then_less (next (c / 64)) (next (d / 64)) (behind_two c X) (behind_two d Y) (omega arith) (λ g. head_less (next c) (next d) X Y (omega arith)))
less_by false false true false false false c d X Y h p q r s t u = head_less (224 + c / 4096) (240 + d / 262144) (behind_three c X) (behind_four d Y) (omega arith)
less_by false false false false false true c d X Y h p q r s t u = absurd (omega arith)
less_by false false false false false false c d X Y h p q r s t u =
    then_less (240 + c / 262144) (240 + d / 262144) (behind_four c X) (behind_four d Y) (omega arith)
    (λ f. then_less (next (c / 4096)) (next (d / 4096)) (behind_three c X) (behind_three d Y) (omega arith)
    (λ g. then_less (next (c / 64)) (next (d / 64)) (behind_two c X) (behind_two d Y) (omega arith) (λ k. head_less (next c) (next d) X Y (omega arith))))

tested : (x y : ℕ) → MatchBool (nat_lt x y) (x < y) (y ≤ x)
tested x y = by (nat_lt x y) (ltb-true x y) (ltb-false x y)
  where
    by : (b : Bool) → (b ≡ true → x < y) → (b ≡ false → y ≤ x) → MatchBool b (x < y) (y ≤ x)
    by true f g = f refl
    by false f g = g refl

-- of two characters the lesser one has the lesser bytes
less_first : (c d : ℕ) (X Y : List ℕ) → c < d → order (encode c ++ X) (encode d ++ Y) ≡ Less
unfolding encode
less_first c d X Y h =
    less_by (nat_lt c 128) (nat_lt c 2048) (nat_lt c 65536) (nat_lt d 128) (nat_lt d 2048) (nat_lt d 65536) c d X Y h
    (tested c 128) (tested c 2048) (tested c 65536) (tested d 128) (tested d 2048) (tested d 65536)

-- a character has bytes
nothing_first : (d : ℕ) (Y : List ℕ) → order [] (encode d ++ Y) ≡ Less
unfolding encode
nothing_first d Y = by (nat_lt d 128) (nat_lt d 2048) (nat_lt d 65536)
  where
    by : (a b e : Bool) → order [] (bytes_by a b e d ++ Y) ≡ Less
    by true b e = refl
    by false true e = refl
    by false false true = refl
    by false false false = refl

-- bytes that stand first in both decide nothing
same_first : (p X Y : List ℕ) → order (p ++ X) (p ++ Y) ≡ order X Y
same_first [] X Y = refl
same_first (x ∷ p) X Y = head_same x x (p ++ X) (p ++ Y) refl ∙ same_first p X Y

turned : (xs ys : List ℕ) → order xs ys ≡ Less → order ys xs ≡ Greater
turned xs ys h = nat_list_cmp_total.antisymm ys xs ∙ ap ordering_reverse h

pub by_characters : (s t : List ℕ) → order (encodes s) (encodes t) ≡ order s t
by_characters [] [] = refl
by_characters [] (d ∷ t) = nothing_first d (encodes t)
by_characters (c ∷ s) [] = turned [] (encode c ++ encodes s) (nothing_first c (encodes s))
by_characters (c ∷ s) (d ∷ t) = elim (cases_order c d) [
  | inl e ↦
      let f : order (encode c ++ encodes s) (encode d ++ encodes t) ≡ order s t =
      ap (λ (x : ℕ). order (encode c ++ encodes s) (encode x ++ encodes t)) (sym e) ∙ same_first (encode c) (encodes s) (encodes t) ∙ by_characters s t in
      f ∙ sym (head_same c d s t e)
  | inr h ↦ elim h [
    | inl l ↦ less_first c d (encodes s) (encodes t) l ∙ sym (head_less c d s t l)
    | inr g ↦ turned (encode d ++ encodes t) (encode c ++ encodes s) (less_first d c (encodes t) (encodes s) g) ∙ sym (turned (d ∷ t) (c ∷ s) (head_less d c t s g))
  ]
]
