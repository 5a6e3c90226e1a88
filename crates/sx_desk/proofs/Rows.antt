-- What a list has at each place, after an element was added or replaced.
use Rattle.std.proofs.Common.{◌≡◌, ◌≢◌, ℕ, ◌<◌, List, [], ◌∷◌, ◌++◌, length, get_or, set, ap, ◌∙◌, get_or-set_same, get_or-set_other}
use Rattle.std.proofs.lemmas.List.{get_or_push, get_or_append_left}

pub added_last : {A : Type 0} (xs ys : List A) (y d : A) (n : ℕ) → ys ≡ xs ++ y ∷ [] → length xs ≡ n → get_or ys n d ≡ y
added_last {A = A} xs ys y d n e same = ap (λ (zs : List A). get_or zs n d) e ∙ get_or_push xs y d n same

pub added_others : {A : Type 0} (xs ys : List A) (y d : A) → ys ≡ xs ++ y ∷ [] → (i : ℕ) → i < length xs → get_or ys i d ≡ get_or xs i d
added_others {A = A} xs ys y d e i within = ap (λ (zs : List A). get_or zs i d) e ∙ get_or_append_left xs (y ∷ []) d i within

pub replaced_same : {A : Type 0} (xs ys : List A) (y d : A) (i : ℕ) → ys ≡ set xs i y → i < length xs → get_or ys i d ≡ y
replaced_same {A = A} xs ys y d i e within = ap (λ (zs : List A). get_or zs i d) e ∙ get_or-set_same xs i y d within

pub replaced_others : {A : Type 0} (xs ys : List A) (y d : A) (i : ℕ) → ys ≡ set xs i y → (j : ℕ) → j ≢ i → get_or ys j d ≡ get_or xs j d
replaced_others {A = A} xs ys y d i e j other = ap (λ (zs : List A). get_or zs j d) e ∙ get_or-set_other xs i j y d other
