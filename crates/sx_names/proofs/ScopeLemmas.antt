-- The declarations of elements, one element around the other.
use Rattle.std.proofs.Common.{◌≡◌, ℕ, suc, ◌+◌, ◌-◌, ◌<◌, ◌≤◌, true, false, List, [], ◌∷◌, ◌++◌, length, take, drop, reverse, Option, None, Some, Result, Ok, Err, OnOk, OnErr, MatchOption, unwrap_or, refl, sym, ap, ◌∙◌, subst, bytes_eq, if◌then◌else◌, arith}
use Rattle.std.proofs.lemmas.List.{take-append-drop, reverse-append}
use Rattle.std.specs.Option.{option_or, option_to_list}
use Rattle.sx_names.specs.Scope.{bound_in, bound_at_first, bound, declared_in}
use Rattle.sx_names.specs.Bindings.{elements_of, AreElements}

option_or-assoc : (a b c : Option (List ℕ)) → option_or (option_or a b) c ≡ option_or a (option_or b c)
option_or-assoc None b c = refl
option_or-assoc (Some x) b c = refl

-- the first declaration of a prefix in one list behind another
bound_in-append : (xs ys : List (List ℕ × List ℕ)) (prefix : List ℕ) → bound_in (xs ++ ys) prefix ≡ option_or (bound_in xs prefix) (bound_in ys prefix)
bound_in-append [] ys prefix = refl
bound_in-append (x ∷ xs) ys prefix =
    let rest = bound_in-append xs ys prefix in
    elim (bytes_eq x.0 prefix) as (λ t. (if t then Some x.1 else bound_in (xs ++ ys) prefix) ≡ option_or (if t then Some x.1 else bound_in xs prefix) (bound_in ys prefix)) [ true ↦ refl | false ↦ rest ]

-- what is bound is the URI of the first declaration of all elements, or what is bound without one
pub bound_is : (begins : List ℕ) (pairs : List (List ℕ × List ℕ)) (prefix : List ℕ) → AreElements begins pairs
    → bound (elements_of begins pairs) prefix ≡ option_or (bound_in pairs prefix) (bound_at_first prefix)
bound_is [] pairs prefix are = rw are refl
bound_is (begin ∷ begins) pairs prefix are =
    let front = take (length pairs - begin) pairs in
    let back = drop (length pairs - begin) pairs in
    ap (option_or (bound_in front prefix)) (bound_is begins back prefix are.1)
    ∙ sym (option_or-assoc (bound_in front prefix) (bound_in back prefix) (bound_at_first prefix))
    ∙ ap (λ o. option_or o (bound_at_first prefix)) (sym (bound_in-append front back prefix) ∙ ap (λ l. bound_in l prefix) (take-append-drop (length pairs - begin) pairs))

-- each element has its list
pub elements_count : (begins : List ℕ) (pairs : List (List ℕ × List ℕ)) → length (elements_of begins pairs) ≡ length begins
elements_count [] pairs = refl
elements_count (begin ∷ begins) pairs = ap suc (elements_count begins (drop (length pairs - begin) pairs))

-- a declaration more is that of the innermost element
pub declared_is : (begins : List ℕ) (pairs : List (List ℕ × List ℕ)) (prefix uri : List ℕ) → AreElements begins pairs → 0 < length (elements_of begins pairs)
    → (elements_of begins ((prefix, uri) ∷ pairs) ≡ declared_in prefix uri (elements_of begins pairs)) × AreElements begins ((prefix, uri) ∷ pairs)
declared_is [] pairs prefix uri are some = absurd (omega arith)
declared_is (begin ∷ begins) pairs prefix uri are some =
    let all = (prefix, uri) ∷ pairs in
    let within : begin ≤ length pairs = are.0 in
    let e : suc (length pairs) - begin ≡ suc (length pairs - begin) = omega arith in (
      ap (λ k. take k all ∷ elements_of begins (drop k all)) e,
      (omega arith, subst (λ k. AreElements begins (drop k all)) (sym e) are.1),
    )

-- also where there is no memory for it
pub declared_or_not : {T E : Type 0} (r : Result T E) (begins : List ℕ) (pairs new : List (List ℕ × List ℕ)) (prefix uri : List ℕ) → AreElements begins pairs
    → 0 < length (elements_of begins pairs) → OnOk r (new ≡ (prefix, uri) ∷ pairs) → OnErr r (new ≡ pairs) → AreElements begins new
declared_or_not (Ok x) begins pairs new prefix uri are some ok err = subst (AreElements begins) (sym ok) (declared_is begins pairs prefix uri are some).1
declared_or_not (Err e) begins pairs new prefix uri are some ok err = subst (AreElements begins) (sym err) are

pub declared_where_ok : {T E : Type 0} (r : Result T E) (begins : List ℕ) (pairs new : List (List ℕ × List ℕ)) (prefix uri : List ℕ) → AreElements begins pairs
    → 0 < length (elements_of begins pairs) → OnOk r (new ≡ (prefix, uri) ∷ pairs) → OnOk r (elements_of begins new ≡ declared_in prefix uri (elements_of begins pairs))
declared_where_ok (Ok x) begins pairs new prefix uri are some ok = ap (elements_of begins) ok ∙ (declared_is begins pairs prefix uri are some).0
declared_where_ok (Err e) begins pairs new prefix uri are some ok = tt

-- a declaration less, while some are the innermost element's
pub left_step : (pairs : List (List ℕ × List ℕ)) (begin : ℕ) → begin < length pairs → drop (length (drop 1 pairs) - begin) (drop 1 pairs) ≡ drop (length pairs - begin) pairs
left_step [] begin h = absurd (omega arith)
left_step (pair ∷ pairs) begin h =
    let e : suc (length pairs) - begin ≡ suc (length pairs - begin) = omega arith in
    ap (λ k. drop k (pair ∷ pairs)) (sym e)

-- and none is any more
pub left_is : (begin : ℕ) (begins : List ℕ) (pairs rest : List (List ℕ × List ℕ)) → AreElements (begin ∷ begins) pairs → length rest ≤ begin
    → drop (length rest - begin) rest ≡ drop (length pairs - begin) pairs → (rest ≡ drop (length pairs - begin) pairs) × AreElements begins rest × (elements_of begins rest ≡ drop 1 (elements_of (begin ∷ begins) pairs))
left_is begin begins pairs rest are h same =
    let none : length rest - begin ≡ 0 = omega arith in
    let is : rest ≡ drop (length pairs - begin) pairs = ap (λ k. drop k rest) (sym none) ∙ same in
    (is, rw is are.1, ap (elements_of begins) is)

-- the last place of a list that is not empty
pub last_begin : (old new : List ℕ) (n m : ℕ) (o : Option ℕ) → old ≡ new ++ option_to_list o → MatchOption o ((n ≡ 0) × (m ≡ 0)) (λ _. m + 1 ≡ n) → new ≡ take (n - 1) old → 0 < length old
    → reverse old ≡ unwrap_or o 0 ∷ reverse new
last_begin old new n m None is cases rest some =
    let first : n - 1 ≡ 0 = omega (arith, cases.0) in
    let nothing : old ≡ [] = is ∙ ap (λ l. l ++ []) (rest ∙ ap (λ k. take k old) first) in
    absurd (omega (arith, ap length nothing))
last_begin old new n m (Some begin) is cases rest some = ap reverse is ∙ reverse-append new (begin ∷ [])
