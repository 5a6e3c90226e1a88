-- Which items are kept, and that it is enough to look at those that are.
use Rattle.std.proofs.Common.{◌≡◌, ℕ, suc, ◌+◌, ◌<◌, length, get_or, drop, drop-cons, add-one, Bool, true, false, cond, ◌||◌, List, [], ◌∷◌, ◌++◌, refl, ap, sym, ◌∙◌, subst, arith, length-append, append-nil, append_assoc}
use Rattle.std.specs.List.{All, AllPairs}
use Rattle.std.proofs.Math.Seq.{get_or-append_seam}
use Rattle.std.proofs.lemmas.List.{get_or_append_left}
use Rattle.std.proofs.lemmas.List.Elements.{All-nil, All-cons}
use Rattle.std.proofs.lemmas.List.Folds.{list_any-append, list_any_none}
use Rattle.std.proofs.lemmas.List.Quantifiers.{all_pairs_push}
use Rattle.sx_atoms.specs.declared.atoms.Atom.{Atom}
use Rattle.sx_fn_seq.specs.Distinct.{are_equal, is_among, new_behind, distinct_of}
use Rattle.sx_fn_seq.proofs.Orders.{equal_along}

-- what is kept, and one item more where it equals none of it
abbrev pub with_new : List Atom → Atom → List Atom
with_new kept a = cond (is_among kept a) kept (kept ++ a ∷ [])

-- what is kept in the end
abbrev pub kept_from : List Atom → List Atom → List Atom
kept_from kept [] = kept
kept_from kept (a ∷ rest) = kept_from (with_new kept a) rest

or_true : (t : Bool) → (t || true) ≡ true
or_true true = refl
or_true false = refl

or_false : (t : Bool) → (t || false) ≡ t
or_false true = refl
or_false false = refl

-- an atom that equals one of some stands for it
among_along : (xs : List Atom) (a b : Atom) → is_among xs a ≡ true → are_equal a b ≡ true → is_among xs b ≡ true
among_along [] a b h e = cc
among_along (x ∷ xs) a b h e = by (are_equal x a) refl h (λ g. among_along xs a b g e)
  where
    by : (t : Bool) → are_equal x a ≡ t → (t || is_among xs a) ≡ true → (is_among xs a ≡ true → is_among xs b ≡ true) → (are_equal x b || is_among xs b) ≡ true
    by true f g k = ap (λ (t : Bool). t || is_among xs b) (equal_along x a b f e)
    by false f g k = ap (λ (t : Bool). are_equal x b || t) (k g) ∙ or_true (are_equal x b)

-- one more at the end
among-push : (xs : List Atom) (a b : Atom) → is_among (xs ++ a ∷ []) b ≡ (is_among xs b || are_equal a b)
among-push xs a b = list_any-append (λ x. are_equal x b) xs (a ∷ []) ∙ ap (λ (t : Bool). is_among xs b || t) (or_false (are_equal a b))

-- some atoms stand for others: the same are among them
abbrev pub Covers : List Atom → List Atom → Type 0
Covers kept before = (a : Atom) → is_among kept a ≡ is_among before a

covers_old : (kept before : List Atom) (a : Atom) → Covers kept before → is_among before a ≡ true → Covers kept (before ++ a ∷ [])
covers_old kept before a h e = λ b. by b (are_equal a b) refl
  where
    by : (b : Atom) (t : Bool) → are_equal a b ≡ t → is_among kept b ≡ is_among (before ++ a ∷ []) b
    by b true f =
        h b ∙ among_along before a b e f
        ∙ sym (among-push before a b ∙ ap (λ (t : Bool). is_among before b || t) f ∙ or_true (is_among before b))
    by b false f = h b ∙ sym (among-push before a b ∙ ap (λ (t : Bool). is_among before b || t) f ∙ or_false (is_among before b))

covers_new : (kept before : List Atom) (a : Atom) → Covers kept before → Covers (kept ++ a ∷ []) (before ++ a ∷ [])
covers_new kept before a h = λ b. among-push kept a b ∙ ap (λ (t : Bool). t || are_equal a b) (h b) ∙ sym (among-push before a b)

pub kept-new : (kept before rest : List Atom) → Covers kept before → kept_from kept rest ≡ kept ++ new_behind before rest
kept-new kept before [] h = sym (append-nil kept)
kept-new kept before (a ∷ rest) h = by (is_among before a) refl (λ k g. kept-new k (before ++ a ∷ []) rest g)
  where
    by : (t : Bool) → is_among before a ≡ t
        → ((k : List Atom) → Covers k (before ++ a ∷ []) → kept_from k rest ≡ k ++ new_behind (before ++ a ∷ []) rest)
        → kept_from (with_new kept a) rest ≡ kept ++ cond t (new_behind (before ++ a ∷ []) rest) (a ∷ new_behind (before ++ a ∷ []) rest)
    by true e step = ap (λ (t : Bool). kept_from (cond t kept (kept ++ a ∷ [])) rest) (h a ∙ e) ∙ step kept (covers_old kept before a h e)
    by false e step =
        ap (λ (t : Bool). kept_from (cond t kept (kept ++ a ∷ [])) rest) (h a ∙ e)
        ∙ step (kept ++ a ∷ []) (covers_new kept before a h)
        ∙ append_assoc kept (a ∷ []) (new_behind (before ++ a ∷ []) rest)

-- the search among those that are kept finds the same
pub searched : (items : List Atom) → kept_from [] items ≡ distinct_of items
searched items = kept-new [] [] items (λ a. refl)

-- a step of the search
pub one_more : (kept next items : List Atom) (i : ℕ) (a : Atom) → i < length items → a ≡ get_or items i a → next ≡ with_new kept a
    → kept_from next (drop (i + 1) items) ≡ kept_from kept (drop i items)
one_more kept next items i a h e f =
    let g : drop i items ≡ a ∷ drop (i + 1) items = rw (add-one) (drop-cons items i a h ∙ ap (λ (x : Atom). x ∷ drop (suc i) items) (sym e)) in
    ap (λ (k : List Atom). kept_from k (drop (i + 1) items)) f ∙ ap (kept_from kept) (sym g)

-- no two of some atoms are equal
abbrev pub AreApart : List Atom → Type 0
AreApart xs = AllPairs (λ x y. are_equal x y ≡ false) xs

none_among : (xs : List Atom) (a : Atom) → is_among xs a ≡ false → All (λ x. are_equal x a ≡ false) xs
none_among [] a h = All-nil (λ x. are_equal x a ≡ false)
none_among (x ∷ xs) a h = by (are_equal x a) refl h (λ g. none_among xs a g)
  where
    by : (t : Bool) → are_equal x a ≡ t → (t || is_among xs a) ≡ false → (is_among xs a ≡ false → All (λ y. are_equal y a ≡ false) xs)
        → All (λ y. are_equal y a ≡ false) (x ∷ xs)
    by true f g k = absurd (cc)
    by false f g k = All-cons (λ y. are_equal y a ≡ false) x xs f (k g)

kept_apart : (kept rest : List Atom) → AreApart kept → AreApart (kept_from kept rest)
kept_apart kept [] h = h
kept_apart kept (a ∷ rest) h = by (is_among kept a) refl (λ k g. kept_apart k rest g)
  where
    by : (t : Bool) → is_among kept a ≡ t → ((k : List Atom) → AreApart k → AreApart (kept_from k rest)) → AreApart (kept_from (cond t kept (kept ++ a ∷ [])) rest)
    by true f step = step kept h
    by false f step = step (kept ++ a ∷ []) (all_pairs_push (λ x y. are_equal x y ≡ false) kept a h (none_among kept a f))

pub distinct_apart : (xs : List Atom) → AreApart (distinct_of xs)
distinct_apart xs = subst AreApart (searched xs) (kept_apart [] xs (λ i j d h g. absurd (omega arith)))

-- of atoms that are apart all are kept
kept_all : (kept rest : List Atom) → AreApart (kept ++ rest) → kept_from kept rest ≡ kept ++ rest
kept_all kept [] h = sym (append-nil kept)
kept_all kept (a ∷ rest) h =
    let none : All (λ x. are_equal x a ≡ false) kept = λ k d l.
    let e : get_or (kept ++ a ∷ rest) k d ≡ get_or kept k d = get_or_append_left kept (a ∷ rest) d k l in
    let f : get_or (kept ++ a ∷ rest) (length kept) d ≡ a = get_or-append_seam kept a rest d in
    let m : length kept < length (kept ++ a ∷ rest) = rw length-append (omega arith) in
    ap (λ (x : Atom). are_equal x a) (sym e) ∙ ap (are_equal (get_or (kept ++ a ∷ rest) k d)) (sym f) ∙ h k (length kept) d l m in
    let e : is_among kept a ≡ false = list_any_none (λ x. are_equal x a) kept none in
    ap (λ (t : Bool). kept_from (cond t kept (kept ++ a ∷ [])) rest) e
    ∙ kept_all (kept ++ a ∷ []) rest (subst AreApart (sym (append_assoc kept (a ∷ []) rest)) h)
    ∙ append_assoc kept (a ∷ []) rest

pub distinct_settled : (xs : List Atom) → distinct_of (distinct_of xs) ≡ distinct_of xs
distinct_settled xs = sym (searched (distinct_of xs)) ∙ kept_all [] (distinct_of xs) (distinct_apart xs)
