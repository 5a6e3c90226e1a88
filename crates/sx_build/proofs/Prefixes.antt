-- Prefixes that are given: the first numbered one that is not taken.
use Rattle.std.proofs.Common.{◌≡◌, ℕ, zero, suc, ◌+◌, ◌^◌, ◌<◌, ◌≤◌, ◌⊎◌, inl, inr, Bool, true, false, cond, List, [], ◌∷◌, ◌++◌, length, refl, ap, sym, ◌∙◌, arith, length-append}
use Rattle.std.specs.Prelude.{bytes_eq, ◌||◌, codes, decimal}
use Rattle.std.specs.Str.Parse.{digits_value}
use Rattle.std.proofs.lemmas.List.{append_cancel_left}
use Rattle.std.proofs.lemmas.Bool.{true≢false, false_from_ne_true, cases_lt, or_left, or_from}
use Rattle.std.proofs.lemmas.Fmt.{decimal_is_IsNumeral_wide}
use Rattle.std.proofs.lemmas.Slice.Eq.{bytes_eq-Decides}
use Rattle.sx_build.specs.FixUp.{is_text_among, numbered_prefix, first_free, free_prefix}

-- ---- texts among others

pub one_of-append : (ts us : List (List ℕ)) (s : List ℕ) → is_text_among (ts ++ us) s ≡ (is_text_among ts s || is_text_among us s)
one_of-append [] us s = refl
one_of-append (t ∷ ts) us s = by (bytes_eq t s) (one_of-append ts us s)
  where
    by : (b : Bool) → is_text_among (ts ++ us) s ≡ (is_text_among ts s || is_text_among us s) → (b || is_text_among (ts ++ us) s) ≡ ((b || is_text_among ts s) || is_text_among us s)
    by true rest = refl
    by false rest = rest

-- texts without the first that is this one
without : List (List ℕ) → List ℕ → List (List ℕ)
without [] s = []
without (t ∷ ts) s = cond (bytes_eq t s) ts (t ∷ without ts s)

length-without : (ts : List (List ℕ)) (s : List ℕ) → is_text_among ts s ≡ true → suc (length (without ts s)) ≡ length ts
unfolding without
length-without [] s is = absurd (cc)
length-without (t ∷ ts) s is = by (bytes_eq t s) (length-without ts s) is
  where
    by : (b : Bool) → (is_text_among ts s ≡ true → suc (length (without ts s)) ≡ length ts) → (b || is_text_among ts s) ≡ true
        → suc (length (cond b ts (t ∷ without ts s))) ≡ suc (length ts)
    by true rest is = refl
    by false rest is = ap suc (rest is)

still_one : (ts : List (List ℕ)) (s u : List ℕ) → bytes_eq s u ≡ false → is_text_among ts u ≡ true → is_text_among (without ts s) u ≡ true
unfolding without
still_one [] s u other is = is
still_one (t ∷ ts) s u other is = by (bytes_eq t s) refl (behind (bytes_eq t u) (still_one ts s u other) is)
  where
    behind : (b : Bool) → (is_text_among ts u ≡ true → is_text_among (without ts s) u ≡ true) → (b || is_text_among ts u) ≡ true → (b || is_text_among (without ts s) u) ≡ true
    behind true rest is = refl
    behind false rest is = rest is

    first : t ≡ s → is_text_among ts u ≡ true
    first same = ap (λ (b : Bool). b || is_text_among ts u) (sym (ap (λ (x : List ℕ). bytes_eq x u) same ∙ other)) ∙ is

    by : (b : Bool) → bytes_eq t s ≡ b → (bytes_eq t u || is_text_among (without ts s) u) ≡ true → is_text_among (cond b ts (t ∷ without ts s)) u ≡ true
    by true e rest = first ((bytes_eq-Decides t s).0 e)
    by false e rest = rest

-- texts among which so many different ones are found are no fewer
many : (f : ℕ → List ℕ) (n : ℕ) (ts : List (List ℕ)) → ((i j : ℕ) → i < j → j < n → bytes_eq (f j) (f i) ≡ false)
    → ((i : ℕ) → i < n → is_text_among ts (f i) ≡ true) → n ≤ length ts
many f zero ts apart all = omega arith
many f (suc n) ts apart all =
    let here : n < suc n = omega arith in
    let rest : n ≤ length (without ts (f n)) =
    many f n (without ts (f n))
    (λ i j less within. apart i j less (omega arith))
    (λ i within. still_one ts (f n) (f i) (apart i n within here) (all i (omega arith))) in
    omega (arith, length-without ts (f n) (all n here))

-- ---- numbered prefixes

value_of : (n : ℕ) → n < 10 ^ 64 → digits_value 10 (decimal n) ≡ n
value_of n small = (decimal_is_IsNumeral_wide n small).1

numbers_same : (m n : ℕ) → m < 10 ^ 64 → n < 10 ^ 64 → numbered_prefix m ≡ numbered_prefix n → m ≡ n
numbers_same m n small_m small_n same =
    sym (value_of m small_m)
    ∙ ap (digits_value 10) (append_cancel_left (codes "ns") (decimal m) (decimal n) same)
    ∙ value_of n small_n

numbers_differ : (m n : ℕ) → m < n → n < 10 ^ 64 → bytes_eq (numbered_prefix n) (numbered_prefix m) ≡ false
numbers_differ m n less small =
    false_from_ne_true (bytes_eq (numbered_prefix n) (numbered_prefix m))
    (λ is.
    let same : n ≡ m = numbers_same n m small (omega arith) ((bytes_eq-Decides (numbered_prefix n) (numbered_prefix m)).0 is) in
    omega arith)

-- the numbered prefixes below this one are taken
abbrev pub AreTaken : List (List ℕ) → ℕ → Type 0
AreTaken taken k = (i : ℕ) → i < k → is_text_among taken (numbered_prefix i) ≡ true

one_more : (taken : List (List ℕ)) (k : ℕ) → AreTaken taken k → is_text_among taken (numbered_prefix k) ≡ true → AreTaken taken (suc k)
one_more taken k below here i within = by (cases_lt i k)
  where
    by : (i < k) ⊎ (k ≤ i) → is_text_among taken (numbered_prefix i) ≡ true
    by (inl less) = below i less
    by (inr above) =
        let same : i ≡ k = omega arith in
        ap (λ (n : ℕ). is_text_among taken (numbered_prefix n)) same ∙ here

-- where as many are taken as there are texts, one more is not
last_free : (taken : List (List ℕ)) (k : ℕ) → length taken < 10 ^ 64 → length taken ≡ k → AreTaken taken k → is_text_among taken (numbered_prefix k) ≡ false
last_free taken k small all below =
    false_from_ne_true (is_text_among taken (numbered_prefix k))
    (λ is.
    let more : suc k ≤ length taken =
    many numbered_prefix (suc k) taken
    (λ i j less bound. numbers_differ i j less (omega arith))
    (one_more taken k below is) in
    omega arith)

-- a numbered prefix that is the first of them that is not taken
pub record IsFirstFree (taken : List (List ℕ)) (prefix : List ℕ) : Type 0 where
  pub number : ℕ
  pub is : prefix ≡ numbered_prefix number
  pub below : AreTaken taken number
  pub free : is_text_among taken (numbered_prefix number) ≡ false
  pub small : number ≤ length taken

found_free : (n : ℕ) (taken : List (List ℕ)) (k : ℕ) → length taken < 10 ^ 64 → k + n ≡ length taken → AreTaken taken k → IsFirstFree taken (first_free n taken k)
found_free zero taken k small left below =
    let all : length taken ≡ k = omega arith in
    record { number = k; is = refl; below = below; free = last_free taken k small all below; small = omega arith }
found_free (suc n) taken k small left below =
    by (is_text_among taken (numbered_prefix k)) refl (λ e. found_free n taken (suc k) small (omega arith) (one_more taken k below e))
  where
    by : (b : Bool) → is_text_among taken (numbered_prefix k) ≡ b
        → (is_text_among taken (numbered_prefix k) ≡ true → IsFirstFree taken (first_free n taken (suc k)))
        → IsFirstFree taken (cond b (first_free n taken (suc k)) (numbered_prefix k))
    by true e next = next e
    by false e next = record { number = k; is = refl; below = below; free = e; small = omega arith }

none_below : (taken : List (List ℕ)) → AreTaken taken 0
none_below taken i within = absurd (omega arith)

pub free_prefix-is : (taken : List (List ℕ)) → length taken < 10 ^ 64 → IsFirstFree taken (free_prefix taken)
free_prefix-is taken small = found_free (length taken) taken 0 small (omega arith) (none_below taken)

-- the prefix that is given is none of those that are taken
pub free_prefix-fresh : (taken : List (List ℕ)) → length taken < 10 ^ 64 → is_text_among taken (free_prefix taken) ≡ false
free_prefix-fresh taken small =
    let f = free_prefix-is taken small in
    ap (is_text_among taken) f.is ∙ f.free

-- ---- the same prefix among others

comes_to : (n : ℕ) (taken : List (List ℕ)) (k d : ℕ) → d ≤ n → AreTaken taken (k + d) → is_text_among taken (numbered_prefix (k + d)) ≡ false
    → first_free n taken k ≡ numbered_prefix (k + d)
comes_to zero taken k d short below free =
    let same : k ≡ k + d = omega arith in ap numbered_prefix same
comes_to (suc n) taken k zero short below free =
    let same : k + 0 ≡ k = omega arith in
    let here : is_text_among taken (numbered_prefix k) ≡ false = ap (λ (m : ℕ). is_text_among taken (numbered_prefix m)) (sym same) ∙ free in
    ap (λ (b : Bool). cond b (first_free n taken (suc k)) (numbered_prefix k)) here ∙ ap numbered_prefix (sym same)
comes_to (suc n) taken k (suc d) short below free =
    let same : k + suc d ≡ suc k + d = omega arith in
    let here : is_text_among taken (numbered_prefix k) ≡ true = below k (omega arith) in
    ap (λ (b : Bool). cond b (first_free n taken (suc k)) (numbered_prefix k)) here
    ∙ comes_to n taken (suc k) d (omega arith)
    (λ i within. below i (omega arith))
    (ap (λ (m : ℕ). is_text_among taken (numbered_prefix m)) (sym same) ∙ free)
    ∙ ap numbered_prefix (sym same)

-- the first that is not taken is given
first_is : (taken : List (List ℕ)) (prefix : List ℕ) → IsFirstFree taken prefix → free_prefix taken ≡ prefix
first_is taken prefix f =
    let zero_more : 0 + f.number ≡ f.number = omega arith in
    comes_to (length taken) taken 0 f.number f.small
    (λ i within. f.below i (omega arith))
    (ap (λ (m : ℕ). is_text_among taken (numbered_prefix m)) zero_more ∙ f.free)
    ∙ ap numbered_prefix zero_more
    ∙ sym f.is

-- a prefix more that is there or is not the one that is given changes nothing
pub free_prefix-same : (taken : List (List ℕ)) (p : List ℕ) → length taken < 10 ^ 64 → (is_text_among taken p ≡ true) ⊎ (bytes_eq p (free_prefix taken) ≡ false)
    → free_prefix (taken ++ p ∷ []) ≡ free_prefix taken
free_prefix-same taken p small other =
    let f = free_prefix-is taken small in
    first_is (taken ++ p ∷ []) (free_prefix taken) (record {
      number = f.number;
      is = f.is;
      below = λ i within. one_of-append taken (p ∷ []) (numbered_prefix i) ∙ or_left _ _ (f.below i within);
      free = one_of-append taken (p ∷ []) (numbered_prefix f.number) ∙ or_from _ _ f.free (or_from _ _ (by other f) refl);
      small = omega (arith, f.small, length-append taken (p ∷ []));
    })
  where
    by : (is_text_among taken p ≡ true) ⊎ (bytes_eq p (free_prefix taken) ≡ false) → (f : IsFirstFree taken (free_prefix taken)) → bytes_eq p (numbered_prefix f.number) ≡ false
    by (inl there) f =
        false_from_ne_true (bytes_eq p (numbered_prefix f.number))
        (λ is.
        let same : p ≡ numbered_prefix f.number = (bytes_eq-Decides p (numbered_prefix f.number)).0 is in
        true≢false (sym there ∙ ap (is_text_among taken) same ∙ f.free))
    by (inr differs) f = ap (bytes_eq p) (sym f.is) ∙ differs
