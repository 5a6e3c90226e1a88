-- The best of some items, found item by item, is the first that none of them beats.
use Rattle.std.proofs.Common.{◌≡◌, ◌⊎◌, ℕ, ◌<◌, Bool, true, false, cond, ◌||◌, List, [], ◌∷◌, ◌++◌, length, get_or, take, drop, ◌-◌, Result, Ok, Err, ℤ, refl, ap, sym, ◌∙◌, subst, inl, inr, append-nil, append_assoc, arith}
use Rattle.std.specs.List.{list_any, All, Contains}
use Rattle.std.proofs.lemmas.List.{take_all}
use Rattle.std.proofs.lemmas.List.Elements.{All-nil, All-cons, Contains-push, Contains-append_left, Contains-append_right}
use Rattle.std.proofs.lemmas.List.Folds.{list_any-append}
use Rattle.sx_atoms.specs.Arithmetic.{dec}
use Rattle.sx_atoms.specs.Casting.{decimal_from}
use Rattle.sx_atoms.specs.Lexical.{decimal_in}
use Rattle.sx_atoms.specs.Numbers.{◌>>=◌}
use Rattle.sx_atoms.specs.declared.atoms.Atom.{Atom}
use Rattle.sx_atoms.specs.declared.atoms.Atom.TheVariants as atom
use Rattle.sx_atoms.specs.declared.comparison.CmpOp.{CmpOp}
use Rattle.sx_atoms.specs.declared.comparison.CmpOp.TheVariants as op
use Rattle.sx_atoms.specs.declared.error_codes.Code.{Code}
use Rattle.sx_atoms.specs.declared.error_codes.Code.TheVariants as code
use Rattle.sx_fn_seq.specs.Best.{better_of, best_from, best_of}
use Rattle.sx_fn_seq.specs.Extremes.{is_text_atom, compared_among, all_compared, first_unbeaten, extreme_of}
use Rattle.sx_fn_seq.specs.Order.{stands}
use Rattle.sx_fn_seq.proofs.Orders.{IsOf, IsStrictAmong, less_among, greater_among}

-- what is compared is of the kind
compared_of : (t : Bool) (a x : Atom) → compared_among t a ≡ Ok x → IsOf t x
compared_of true (atom.Int n) x h = absurd (cc)
compared_of true (atom.Dec d) x h = absurd (cc)
compared_of true (atom.Str s) x h = let e : atom.Str s ≡ x = cc in subst (IsOf true) e tt
compared_of true (atom.Bool b) x h = absurd (cc)
compared_of true (atom.Untyped s) x h = by (decimal_in s) h
  where
    by : (r : Result ℤ Code) → (r >>= (λ z. Err code.Forg0006)) ≡ Ok x → IsOf true x
    by (Ok z) g = absurd (cc)
    by (Err e) g = absurd (cc)
compared_of false (atom.Int n) x h = let e : atom.Int n ≡ x = cc in subst (IsOf false) e tt
compared_of false (atom.Dec d) x h = let e : atom.Dec d ≡ x = cc in subst (IsOf false) e tt
compared_of false (atom.Str s) x h = absurd (cc)
compared_of false (atom.Bool b) x h = absurd (cc)
compared_of false (atom.Untyped s) x h = by (decimal_in s) h
  where
    by : (r : Result ℤ Code) → (r >>= (λ z. Ok (atom.Dec (dec z)))) ≡ Ok x → IsOf false x
    by (Ok z) g = let e : atom.Dec (dec z) ≡ x = cc in subst (IsOf false) e tt
    by (Err e) g = absurd (cc)

-- all of some items are of one kind
abbrev pub AllOf : Bool → List Atom → Type 0
AllOf t [] = Unit {0}
AllOf t (x ∷ xs) = IsOf t x × AllOf t xs

AllOf-append : (t : Bool) (xs ys : List Atom) → AllOf t xs → AllOf t ys → AllOf t (xs ++ ys)
AllOf-append t [] ys h g = g
AllOf-append t (x ∷ xs) ys h g = (h.0, AllOf-append t xs ys h.1 g)

pub all_compared_of : (t : Bool) (items xs : List Atom) → all_compared t items ≡ Ok xs → AllOf t xs
all_compared_of t [] xs h = let e : ◌≡◌ {A = List Atom} [] xs = cc in subst (AllOf t) e tt
all_compared_of t (a ∷ rest) xs h = by (compared_among t a) refl (all_compared t rest) refl h (λ ys g. all_compared_of t rest ys g)
  where
    by : (r : Result Atom Code) → compared_among t a ≡ r → (q : Result (List Atom) Code) → all_compared t rest ≡ q
        → (r >>= (λ y. q >>= (λ ys. Ok (y ∷ ys)))) ≡ Ok xs → ((ys : List Atom) → all_compared t rest ≡ Ok ys → AllOf t ys) → AllOf t xs
    by (Ok y) f (Ok ys) g h k = let e : y ∷ ys ≡ xs = cc in subst (AllOf t) e (compared_of t a y f, k ys g)
    by (Ok y) f (Err e) g h k = absurd (cc)
    by (Err e) f q g h k = absurd (cc)

-- whether one of some items beats an atom
abbrev is_beaten : CmpOp → List Atom → Atom → Bool
is_beaten o all x = list_any (λ y. stands o y x) all

beaten-push : (o : CmpOp) (all : List Atom) (x c : Atom) → is_beaten o (all ++ x ∷ []) c ≡ (is_beaten o all c || (stands o x c || false))
beaten-push o all x c = list_any-append (λ y. stands o y c) all (x ∷ [])

or_true : (t : Bool) → (t || true) ≡ true
or_true true = refl
or_true false = refl

pub best_unbeaten : (o : CmpOp) (all cands : List Atom) (best : Atom) → first_unbeaten o all cands ≡ best ∷ [] → is_beaten o all best ≡ false
best_unbeaten o all [] best h = absurd (cc)
best_unbeaten o all (c ∷ cands) best h = by (is_beaten o all c) refl h (λ g. best_unbeaten o all cands best g)
  where
    by : (t : Bool) → is_beaten o all c ≡ t → cond t (first_unbeaten o all cands) (c ∷ []) ≡ best ∷ []
        → (first_unbeaten o all cands ≡ best ∷ [] → is_beaten o all best ≡ false) → is_beaten o all best ≡ false
    by true f g k = k g
    by false f g k = let e : c ≡ best = cc in subst (λ (x : Atom). is_beaten o all x ≡ false) e f

best_is_of : (t : Bool) (o : CmpOp) (all cands : List Atom) (best : Atom) → AllOf t cands → first_unbeaten o all cands ≡ best ∷ [] → IsOf t best
best_is_of t o all [] best a h = absurd (cc)
best_is_of t o all (c ∷ cands) best a h = by (is_beaten o all c) h (λ g. best_is_of t o all cands best a.1 g)
  where
    by : (b : Bool) → cond b (first_unbeaten o all cands) (c ∷ []) ≡ best ∷ [] → (first_unbeaten o all cands ≡ best ∷ [] → IsOf t best) → IsOf t best
    by true g k = k g
    by false g k = let e : c ≡ best = cc in subst (IsOf t) e a.0

-- one more that does not beat the best changes nothing
best_stays : (o : CmpOp) (all cands : List Atom) (best x : Atom) → first_unbeaten o all cands ≡ best ∷ [] → stands o x best ≡ false
    → first_unbeaten o (all ++ x ∷ []) (cands ++ x ∷ []) ≡ best ∷ []
best_stays o all [] best x h g = absurd (cc)
best_stays o all (c ∷ cands) best x h g = by (is_beaten o all c) refl h (λ k. best_stays o all cands best x k g)
  where
    by : (b : Bool) → is_beaten o all c ≡ b → cond b (first_unbeaten o all cands) (c ∷ []) ≡ best ∷ []
        → (first_unbeaten o all cands ≡ best ∷ [] → first_unbeaten o (all ++ x ∷ []) (cands ++ x ∷ []) ≡ best ∷ [])
        → cond (is_beaten o (all ++ x ∷ []) c) (first_unbeaten o (all ++ x ∷ []) (cands ++ x ∷ [])) (c ∷ []) ≡ best ∷ []
    by true f e k =
        ap (λ (b : Bool). cond b (first_unbeaten o (all ++ x ∷ []) (cands ++ x ∷ [])) (c ∷ []))
        (beaten-push o all x c ∙ ap (λ (b : Bool). b || (stands o x c || false)) f)
        ∙ k e
    by false f e k =
        let i : c ≡ best = cc in
        let w : stands o x c ≡ false = ap (λ (y : Atom). stands o x y) i ∙ g in
        ap (λ (b : Bool). cond b (first_unbeaten o (all ++ x ∷ []) (cands ++ x ∷ [])) (c ∷ []))
        (beaten-push o all x c ∙ ap (λ (b : Bool). b || (stands o x c || false)) f ∙ ap (λ (b : Bool). b || false) w)
        ∙ e

-- one beats each of some
abbrev EachBeaten : CmpOp → Atom → List Atom → Type 0
EachBeaten o x [] = Unit {0}
EachBeaten o x (c ∷ cands) = (stands o x c ≡ true) × EachBeaten o x cands

-- what beats the best beats each
each_beaten : (t : Bool) (o : CmpOp) → IsStrictAmong t o → (all : List Atom) (best x : Atom) → AllOf t all → IsOf t best → IsOf t x → stands o x best ≡ true
    → is_beaten o all best ≡ false → EachBeaten o x all
each_beaten t o strict [] best x a b i h g = tt
each_beaten t o strict (c ∷ cands) best x a b i h g = by (stands o c best) refl g (λ k. each_beaten t o strict cands best x a.1 b i h k)
  where
    by : (w : Bool) → stands o c best ≡ w → (w || is_beaten o cands best) ≡ false → (is_beaten o cands best ≡ false → EachBeaten o x cands)
        → (stands o x c ≡ true) × EachBeaten o x cands
    by true f e k = absurd (cc)
    by false f e k = (strict.beyond x c best i a.0 b h f, k e)

-- none of those that one beats is left
passed : (o : CmpOp) (all cands : List Atom) (x : Atom) → EachBeaten o x cands
    → first_unbeaten o (all ++ x ∷ []) (cands ++ x ∷ []) ≡ first_unbeaten o (all ++ x ∷ []) (x ∷ [])
passed o all [] x h = refl
passed o all (c ∷ cands) x h =
    ap (λ (b : Bool). cond b (first_unbeaten o (all ++ x ∷ []) (cands ++ x ∷ [])) (c ∷ []))
    (beaten-push o all x c ∙ ap (λ (b : Bool). is_beaten o all c || (b || false)) h.0 ∙ or_true (is_beaten o all c))
    ∙ passed o all cands x h.1

unbeaten_by : (t : Bool) (o : CmpOp) → IsStrictAmong t o → (all : List Atom) (x : Atom) → AllOf t all → IsOf t x → EachBeaten o x all → is_beaten o all x ≡ false
unbeaten_by t o strict [] x a i h = refl
unbeaten_by t o strict (c ∷ cands) x a i h =
    ap (λ (b : Bool). b || is_beaten o cands x) (strict.back x c i a.0 h.0) ∙ unbeaten_by t o strict cands x a.1 i h.1

-- what beats each is the best
beats_all : (t : Bool) (o : CmpOp) → IsStrictAmong t o → (all : List Atom) (x : Atom) → AllOf t all → IsOf t x → EachBeaten o x all
    → first_unbeaten o (all ++ x ∷ []) (all ++ x ∷ []) ≡ x ∷ []
beats_all t o strict all x a i h =
    passed o all all x h
    ∙ ap (λ (b : Bool). cond b [] (x ∷ []))
    (beaten-push o all x x ∙ ap (λ (b : Bool). b || (stands o x x || false)) (unbeaten_by t o strict all x a i h) ∙ ap (λ (b : Bool). b || false) (strict.itself x i))

step : (t : Bool) (o : CmpOp) → IsStrictAmong t o → (all : List Atom) (best x : Atom) → AllOf t all → IsOf t x → first_unbeaten o all all ≡ best ∷ []
    → first_unbeaten o (all ++ x ∷ []) (all ++ x ∷ []) ≡ better_of o best x ∷ []
step t o strict all best x a i h = by (stands o x best) refl
  where
    by : (b : Bool) → stands o x best ≡ b → first_unbeaten o (all ++ x ∷ []) (all ++ x ∷ []) ≡ cond b x best ∷ []
    by true f = beats_all t o strict all x a i (each_beaten t o strict all best x a (best_is_of t o all all best a h) i f (best_unbeaten o all all best h))
    by false f = best_stays o all all best x h f

-- the best so far and more
abbrev pub best_in : CmpOp → Atom → List Atom → Atom
best_in o best [] = best
best_in o best (x ∷ xs) = best_in o (better_of o best x) xs

steps : (t : Bool) (o : CmpOp) → IsStrictAmong t o → (all : List Atom) (best : Atom) (xs : List Atom) → AllOf t all → AllOf t xs
    → first_unbeaten o all all ≡ best ∷ [] → first_unbeaten o (all ++ xs) (all ++ xs) ≡ best_in o best xs ∷ []
steps t o strict all best [] a i h = ap (λ (ys : List Atom). first_unbeaten o ys ys) (append-nil all) ∙ h
steps t o strict all best (x ∷ xs) a i h =
    ap (λ (ys : List Atom). first_unbeaten o ys ys) (sym (append_assoc all (x ∷ []) xs))
    ∙ steps t o strict (all ++ x ∷ []) (better_of o best x) xs (AllOf-append t all (x ∷ []) a (i.0, tt)) i.1 (step t o strict all best x a i.0 h)

-- the first item alone is unbeaten
pub found : (t : Bool) (o : CmpOp) → IsStrictAmong t o → (x : Atom) (xs : List Atom) → IsOf t x → AllOf t xs
    → first_unbeaten o (x ∷ xs) (x ∷ xs) ≡ best_in o x xs ∷ []
found t o strict x xs i a = steps t o strict (x ∷ []) x xs (i, tt) a (ap (λ (b : Bool). cond (b || false) [] (x ∷ [])) (strict.itself x i))

from_compared : (o : CmpOp) (t : Bool) (best : Atom) (items : List Atom) → best_from o t best items ≡ (all_compared t items >>= (λ xs. Ok (best_in o best xs)))
from_compared o t best [] = refl
from_compared o t best (a ∷ rest) = by (compared_among t a) (λ b. from_compared o t b rest)
  where
    by : (r : Result Atom Code) → ((b : Atom) → best_from o t b rest ≡ (all_compared t rest >>= (λ xs. Ok (best_in o b xs))))
        → ((r >>= (λ x. Ok (better_of o best x))) >>= (λ b. best_from o t b rest))
        ≡ ((r >>= (λ x. all_compared t rest >>= (λ xs. Ok (x ∷ xs)))) >>= (λ xs. Ok (best_in o best xs)))
    by (Err e) k = refl
    by (Ok x) k = k (better_of o best x) ∙ then (all_compared t rest)
      where
        then : (q : Result (List Atom) Code) → (q >>= (λ xs. Ok (best_in o (better_of o best x) xs))) ≡ ((q >>= (λ xs. Ok (x ∷ xs))) >>= (λ xs. Ok (best_in o best xs)))
        then (Ok xs) = refl
        then (Err e) = refl

-- an operator of the two that are meant, among texts or numbers
strict_among : (t : Bool) (o : CmpOp) → (o ≡ op.Lt) ⊎ (o ≡ op.Gt) → IsStrictAmong t o
strict_among t o h = elim h [
  | inl e ↦ subst (IsStrictAmong t) (sym e) (less_among t)
  | inr e ↦ subst (IsStrictAmong t) (sym e) (greater_among t)
]

-- the extreme is the best
pub extreme_best : (o : CmpOp) → (o ≡ op.Lt) ⊎ (o ≡ op.Gt) → (item : Atom) (rest : List Atom)
    → extreme_of o (item ∷ rest) ≡ (best_of o item rest >>= (λ b. Ok (b ∷ [])))
extreme_best o h item rest = by (compared_among (is_text_atom item) item) refl
  where
    by : (r : Result Atom Code) → compared_among (is_text_atom item) item ≡ r
        → ((r >>= (λ x. all_compared (is_text_atom item) rest >>= (λ xs. Ok (x ∷ xs)))) >>= (λ xs. Ok (first_unbeaten o xs xs)))
        ≡ ((r >>= (λ x. best_from o (is_text_atom item) x rest)) >>= (λ b. Ok (b ∷ [])))
    by (Err e) f = refl
    by (Ok x) f = then (all_compared (is_text_atom item) rest) refl
        ∙ ap (λ (q : Result Atom Code). q >>= (λ b. Ok (b ∷ []))) (sym (from_compared o (is_text_atom item) x rest))
      where
        then : (q : Result (List Atom) Code) → all_compared (is_text_atom item) rest ≡ q
            → ((q >>= (λ xs. Ok (x ∷ xs))) >>= (λ xs. Ok (first_unbeaten o xs xs))) ≡ ((q >>= (λ xs. Ok (best_in o x xs))) >>= (λ b. Ok (b ∷ [])))
        then (Err e) g = refl
        then (Ok xs) g = ap Ok (found (is_text_atom item) o (strict_among (is_text_atom item) o h) x xs (compared_of (is_text_atom item) item x f) (all_compared_of (is_text_atom item) rest xs g))

-- the same of a list that is not empty
pub extreme_some : (o : CmpOp) → (o ≡ op.Lt) ⊎ (o ≡ op.Gt) → (items : List Atom) (first : Atom) (r : Result Atom Code)
    → 0 < length items → first ≡ get_or items 0 first → best_of o first (take (length items - 1) (drop 1 items)) ≡ r
    → extreme_of o items ≡ (r >>= (λ b. Ok (b ∷ [])))
extreme_some o h [] first r some f b = absurd (omega arith)
extreme_some o h (item ∷ more) first r some f b =
    let e : take (length (item ∷ more) - 1) more ≡ more = take_all (length (item ∷ more) - 1) more (omega arith) in
    extreme_best o h item more
    ∙ ap (λ (q : Result Atom Code). q >>= (λ c. Ok (c ∷ []))) (ap (λ (x : Atom). best_of o x more) (sym f) ∙ ap (best_of o first) (sym e) ∙ b)

-- what writes no decimal is not compared
pub read_fails : (t : Bool) (a : Atom) (s : List ℕ) (e : Code) → a ≡ atom.Untyped s → (decimal_from a >>= (λ z. Ok (atom.Dec (dec z)))) ≡ Err e → compared_among t a ≡ Err e
read_fails t a s e i h =
    let P : Atom → Type 0 = λ b. (decimal_from b >>= (λ z. Ok (atom.Dec (dec z)))) ≡ Err e in
    ap (compared_among t) i ∙ by t (decimal_in s) (subst P i h)
  where
    by : (t : Bool) (r : Result ℤ Code) → (r >>= (λ z. Ok (atom.Dec (dec z)))) ≡ Err e → (r >>= (λ z. cond t (Err code.Forg0006) (Ok (atom.Dec (dec z))))) ≡ Err e
    by t (Ok z) g = absurd (cc)
    by t (Err d) g = cc

-- the best is one of the items
best_among : (o : CmpOp) (all cands : List Atom) (best : Atom) → first_unbeaten o all cands ≡ best ∷ [] → Contains cands best
best_among o all [] best h = absurd (cc)
best_among o all (c ∷ cands) best h = by (is_beaten o all c) h (λ g. best_among o all cands best g)
  where
    by : (t : Bool) → cond t (first_unbeaten o all cands) (c ∷ []) ≡ best ∷ [] → (first_unbeaten o all cands ≡ best ∷ [] → Contains cands best) → Contains (c ∷ cands) best
    by true g k = Contains-append_right (c ∷ []) cands best (k g)
    by false g k =
        let e : best ≡ c = cc in
        subst (λ (x : Atom). Contains (x ∷ cands) best) e (Contains-append_left (best ∷ []) cands best (Contains-push [] best))

none_beats : (o : CmpOp) (xs : List Atom) (m : Atom) → is_beaten o xs m ≡ false → All (λ x. stands o x m ≡ false) xs
none_beats o [] m h = All-nil (λ x. stands o x m ≡ false)
none_beats o (x ∷ xs) m h = by (stands o x m) refl h (λ g. none_beats o xs m g)
  where
    by : (t : Bool) → stands o x m ≡ t → (t || is_beaten o xs m) ≡ false → (is_beaten o xs m ≡ false → All (λ y. stands o y m ≡ false) xs)
        → All (λ y. stands o y m ≡ false) (x ∷ xs)
    by true f g k = absurd (cc)
    by false f g k = All-cons (λ y. stands o y m ≡ false) x xs f (k g)

-- the answer is the first of the items that are compared
chosen : (o : CmpOp) (item m : Atom) (rest xs : List Atom) → extreme_of o (item ∷ rest) ≡ Ok (m ∷ []) → all_compared (is_text_atom item) (item ∷ rest) ≡ Ok xs
    → first_unbeaten o xs xs ≡ m ∷ []
chosen o item m rest xs h g =
    let e : Ok (first_unbeaten o xs xs) ≡ Ok (m ∷ []) = sym (ap (λ (r : Result (List Atom) Code). r >>= (λ ys. Ok (first_unbeaten o ys ys))) g) ∙ h in
    cc

pub extreme_among : (o : CmpOp) (item m : Atom) (rest xs : List Atom) → extreme_of o (item ∷ rest) ≡ Ok (m ∷ []) → all_compared (is_text_atom item) (item ∷ rest) ≡ Ok xs
    → Contains xs m
extreme_among o item m rest xs h g = best_among o xs xs m (chosen o item m rest xs h g)

pub extreme_unbeaten : (o : CmpOp) (item m : Atom) (rest xs : List Atom) → extreme_of o (item ∷ rest) ≡ Ok (m ∷ []) → all_compared (is_text_atom item) (item ∷ rest) ≡ Ok xs
    → All (λ x. stands o x m ≡ false) xs
extreme_unbeaten o item m rest xs h g = none_beats o xs m (best_unbeaten o xs xs m (chosen o item m rest xs h g))

-- there is one
pub extreme_one : (o : CmpOp) → (o ≡ op.Lt) ⊎ (o ≡ op.Gt) → (item : Atom) (rest answer : List Atom) → extreme_of o (item ∷ rest) ≡ Ok answer
    → (m : Atom) × (answer ≡ m ∷ [])
extreme_one o h item rest answer g = by (best_of o item rest) (sym (extreme_best o h item rest) ∙ g)
  where
    by : (r : Result Atom Code) → (r >>= (λ b. Ok (b ∷ []))) ≡ Ok answer → (m : Atom) × (answer ≡ m ∷ [])
    by (Ok m) f = (m, cc)
    by (Err e) f = absurd (cc)
