-- Places in order: those from one on, those behind one, and those before one.
use Rattle.std.proofs.Common.{◌≡◌, ℕ, zero, suc, ◌+◌, ◌-◌, ◌^◌, min, ◌<◌, ◌≤◌, Bool, true, false, nat_lt, nat_eq, cond, List, [], ◌∷◌, ◌++◌, length, drop, Option, ◌⊎◌, inl, inr, refl, ap, ap₂, sym, ◌∙◌, append_assoc, arith}
use Rattle.std.proofs.lemmas.Bool.Decides.{nat_tests}
use Rattle.std.proofs.lemmas.List.{drop_all}
use Rattle.sx_axes.proofs.Chains.{rest_of, walks-siblings}
use Rattle.sx_axes.proofs.Numbers.{is-less, not-less, less-of, at-least}
use Rattle.sx_axes.specs.Axes.{places_before, places_after, reversed, all_places, attribute_nodes}
use Rattle.sx_axes.specs.Ways.{places_from}
use Rattle.sx_tree.specs.declared.events.Label.{Label}
use Rattle.sx_tree.specs.declared.nodes.Node.TheVariants as node
use Rattle.sx_tree.specs.Places.{Entry, Places}
use Rattle.sx_tree.specs.TreeView.{depth_at, inner, behind_place, places_that, later_siblings, sibling_places, first_place}

-- ---- from a place on

-- a list from a place on is the entry there and what is from the next place on
pub record Here (es : List Entry) (j : ℕ) : Type 0 where
  pub e : Entry
  pub list : drop j es ≡ e ∷ drop (suc j) es
  pub depth : depth_at es j ≡ e.depth

pub here : (es : List Entry) (j : ℕ) → j < length es → Here es j
here [] j within = absurd (omega (arith, within))
here (e ∷ es) zero within = record { e = e; list = refl; depth = refl }
here (e ∷ es) (suc j) within =
    let there = here es j (omega (arith, within)) in record { e = there.e; list = there.list; depth = there.depth }

-- past the end there is no depth
pub depth-past : (es : List Entry) (j : ℕ) → length es ≤ j → depth_at es j ≡ 0
depth-past [] j past = refl
depth-past (e ∷ es) zero past = absurd (omega (arith, past))
depth-past (e ∷ es) (suc j) past = depth-past es j (omega (arith, past))

-- what is deep is in the list
pub deep-within : (es : List Entry) (j : ℕ) → 0 < depth_at es j → j < length es
deep-within [] j deep = absurd (omega (arith, deep))
deep-within (e ∷ es) zero deep = omega arith
deep-within (e ∷ es) (suc j) deep = let within = deep-within es j deep in omega (arith, within)

-- the places from one on are that and those from the next on
pub from-here : (t : Places) (j : ℕ) → j < length t.entries → places_from t j ≡ j ∷ places_from t (suc j)
from-here t j within = let at = here t.entries j within in ap (λ (es : List Entry). places_that (λ e. true) j es) at.list

-- past the end there are none
pub from-past : (t : Places) (j : ℕ) → length t.entries ≤ j → places_from t j ≡ []
from-past t j past = ap (λ (es : List Entry). places_that (λ e. true) j es) (drop_all j t.entries past)

-- ---- inside

-- the front that is deeper, from a place on: what is there is in it if it is deep enough
pub inner-here : (es : List Entry) (d j : ℕ) → d < depth_at es j → (at : Here es j)
    → inner d (drop j es) ≡ at.e ∷ inner d (drop (suc j) es)
inner-here es d j deep at =
    let is : nat_lt d at.e.depth ≡ true = is-less d at.e.depth (let same = at.depth in omega (arith, deep, same)) in
    ap (inner d) at.list ∙ ap (λ (b : Bool). cond b (at.e ∷ inner d (drop (suc j) es)) []) is

-- and nothing is, if it is not
inner-stops_at : (es : List Entry) (d j : ℕ) → depth_at es j ≤ d → Here es j → inner d (drop j es) ≡ []
inner-stops_at es d j flat at =
    let is : nat_lt d at.e.depth ≡ false = not-less d at.e.depth (let same = at.depth in omega (arith, flat, same)) in
    ap (inner d) at.list ∙ ap (λ (b : Bool). cond b (at.e ∷ inner d (drop (suc j) es)) []) is

-- so is it past the end
inner-stops_by : (b : Bool) (es : List Entry) (d j : ℕ) → nat_lt j (length es) ≡ b → depth_at es j ≤ d → inner d (drop j es) ≡ []
inner-stops_by true es d j is flat =
    let within : j < length es = grind (arith, nat_tests) in inner-stops_at es d j flat (here es j within)
inner-stops_by false es d j is flat =
    let past : length es ≤ j = grind (arith, nat_tests) in ap (inner d) (drop_all j es past)

-- without a test
pub inner-stops : (es : List Entry) (d j : ℕ) → depth_at es j ≤ d → inner d (drop j es) ≡ []
inner-stops es d j flat = inner-stops_by (nat_lt j (length es)) es d j refl flat

-- the places, from j on, of the front that is deeper than d
abbrev pub inner_from : Places → ℕ → ℕ → List ℕ
inner_from t d j = places_that (λ e. true) j (inner d (drop j t.entries))

-- a place that is deep enough is the first of them
pub inner_from-here : (t : Places) (d j : ℕ) → d < depth_at t.entries j → inner_from t d j ≡ j ∷ inner_from t d (suc j)
inner_from-here t d j deep =
    ap (λ (es : List Entry). places_that (λ e. true) j es)
    (inner-here t.entries d j deep (here t.entries j (deep-within t.entries j (omega (arith, deep)))))

-- and one that is not has none from it on
pub inner_from-stops : (t : Places) (d j : ℕ) → depth_at t.entries j ≤ d → inner_from t d j ≡ []
inner_from-stops t d j flat = ap (λ (es : List Entry). places_that (λ e. true) j es) (inner-stops t.entries d j flat)

-- each from j on, so many, is deeper
abbrev pub AllDeep : List Entry → ℕ → ℕ → ℕ → Type 0
AllDeep es d j m = (i : ℕ) → j ≤ i → i < j + m → d < depth_at es i

-- the front reaches past what is deeper
pub inner-reaches : (es : List Entry) (d j m : ℕ) → AllDeep es d j m
    → j + length (inner d (drop j es)) ≡ (j + m) + length (inner d (drop (j + m) es))
inner-reaches es d j zero deep = let same : j + zero ≡ j = omega arith in rw same refl
inner-reaches es d j (suc m) deep =
    let at = here es j (deep-within es j (omega (arith, deep j))) in
    let size = ap (λ (fs : List Entry). length fs) (inner-here es d j (deep j (omega arith) (omega arith)) at) in
    let next = inner-reaches es d (suc j) m (λ i low high. deep i (omega (arith, low)) (omega (arith, high))) in
    let same : j + suc m ≡ suc j + m = omega arith in
    rw same (omega (arith, size, next))

-- ---- behind

-- the first is behind it
after-all_first : (b : Bool) (n j : ℕ) (ks : List ℕ) → n < j → places_after n ks ≡ ks
    → places_after n (cond b (j ∷ ks) ks) ≡ cond b (j ∷ ks) ks
after-all_first true n j ks less is = ap₂ (λ (b : Bool) (js : List ℕ). cond b (j ∷ js) js) (is-less n j less) is
after-all_first false n j ks less is = is

-- behind one that is before all of them are all
pub after-all : (test : Entry → Bool) (n j : ℕ) (es : List Entry) → n < j → places_after n (places_that test j es) ≡ places_that test j es
after-all test n j [] less = refl
after-all test n j (e ∷ es) less =
    after-all_first (test e) n j (places_that test (suc j) es) less (after-all test n (suc j) es (omega (arith, less)))

-- one that is not behind it falls away
pub after-first : (b : Bool) (n j : ℕ) (ks : List ℕ) → j ≤ n → places_after n (cond b (j ∷ ks) ks) ≡ places_after n ks
after-first true n j ks within = ap (λ (b : Bool). cond b (j ∷ places_after n ks) (places_after n ks)) (not-less n j within)
after-first false n j ks within = refl

-- behind the last of some that are deeper is what is from the next on
pub after-deep : (test : Entry → Bool) (es : List Entry) (d j m k : ℕ) → j + m ≡ suc k → AllDeep es d j m
    → places_after k (places_that test j (inner d (drop j es))) ≡ places_that test (suc k) (inner d (drop (suc k) es))
after-deep test es d j zero k is deep =
    let same : j ≡ suc k = omega (arith, is) in
    rw same (after-all test k (suc k) (inner d (drop (suc k) es)) (omega arith))
after-deep test es d j (suc m) k is deep =
    let at = here es j (deep-within es j (omega (arith, deep j))) in
    ap (λ (fs : List Entry). places_after k (places_that test j fs)) (inner-here es d j (deep j (omega arith) (omega arith)) at)
    ∙ after-first (test at.e) k j (places_that test (suc j) (inner d (drop (suc j) es))) (omega (arith, is))
    ∙ after-deep test es d (suc j) m k (omega (arith, is)) (λ i low high. deep i (omega (arith, low)) (omega (arith, high)))

-- there is one at a place that is not behind it, or none from there on
after-from_step : (b : Bool) (t : Places) (n j : ℕ) → nat_lt j (length t.entries) ≡ b → j ≤ n
    → places_after n (places_from t (suc j)) ≡ places_from t (suc n) → places_after n (places_from t j) ≡ places_from t (suc n)
after-from_step true t n j is within later =
    let less : j < length t.entries = grind (arith, nat_tests) in
    ap (places_after n) (from-here t j less) ∙ after-first true n j (places_from t (suc j)) within ∙ later
after-from_step false t n j is within later =
    let end : length t.entries ≤ j = grind (arith, nat_tests) in
    ap (places_after n) (from-past t j end) ∙ sym (from-past t (suc n) (omega (arith, within, end)))

-- behind one are all from the next on
after-from : (t : Places) (n j m : ℕ) → j + m ≡ suc n → places_after n (places_from t j) ≡ places_from t (suc n)
after-from t n j zero is =
    let same : j ≡ suc n = omega (arith, is) in rw same (after-all (λ e. true) n (suc n) (drop (suc n) t.entries) (omega arith))
after-from t n j (suc m) is =
    after-from_step (nat_lt j (length t.entries)) t n j refl (omega (arith, is)) (after-from t n (suc j) m (omega (arith, is)))

-- so are all of the tree
pub after-is_from : (t : Places) (n : ℕ) → places_after n (all_places t) ≡ places_from t (suc n)
after-is_from t n = after-from t n 0 (suc n) (omega arith)

-- one is the place next behind another, or both are past the end
abbrev pub IsNext : Places → ℕ → ℕ → Type 0
IsNext t k n = (n ≡ suc k) ⊎ ((length t.entries ≤ n) × (length t.entries ≤ suc k))

-- by whether there is a next number
next-by : (b : Bool) (t : Places) (k n : ℕ) → nat_lt k (2 ^ 32 - 1) ≡ b → length t.entries < 2 ^ 32
    → n ≡ min (k + 1) (2 ^ 32 - 1) → IsNext t k n
next-by true t k n is few next =
    let less : k < 2 ^ 32 - 1 = less-of k (2 ^ 32 - 1) is in inl (omega (arith, less, next))
next-by false t k n is few next =
    let past : 2 ^ 32 - 1 ≤ k = at-least k (2 ^ 32 - 1) is in inr (omega (arith, past, few, next), omega (arith, past, few))

-- the next number, where numbers end behind the last place
pub next-is : (t : Places) (k n : ℕ) → length t.entries < 2 ^ 32 → n ≡ min (k + 1) (2 ^ 32 - 1) → IsNext t k n
next-is t k n few is = next-by (nat_lt k (2 ^ 32 - 1)) t k n refl few is

-- the places from there on are the same
from-next_by : (t : Places) (k n : ℕ) → IsNext t k n → places_from t n ≡ places_from t (suc k)
from-next_by t k n (inl is) = ap (places_from t) is
from-next_by t k n (inr past) = from-past t n past.0 ∙ sym (from-past t (suc k) past.1)

-- the places from the next on
pub from-next : (t : Places) (k n : ℕ) → length t.entries < 2 ^ 32 → n ≡ min (k + 1) (2 ^ 32 - 1)
    → places_from t n ≡ places_from t (suc k)
from-next t k n few is = from-next_by t k n (next-is t k n few is)

-- past the end none is deeper
inner_from-past : (t : Places) (d j : ℕ) → length t.entries ≤ j → inner_from t d j ≡ []
inner_from-past t d j past = inner_from-stops t d j (let flat = depth-past t.entries j past in omega (arith, flat))

-- the places from there on that are deeper are the same
inner_from-next_by : (t : Places) (d k n : ℕ) → IsNext t k n → inner_from t d n ≡ inner_from t d (suc k)
inner_from-next_by t d k n (inl is) = ap (inner_from t d) is
inner_from-next_by t d k n (inr past) = inner_from-past t d n past.0 ∙ sym (inner_from-past t d (suc k) past.1)

-- of them those that are deeper
pub inner_from-next : (t : Places) (d k n : ℕ) → length t.entries < 2 ^ 32 → n ≡ min (k + 1) (2 ^ 32 - 1)
    → inner_from t d n ≡ inner_from t d (suc k)
inner_from-next t d k n few is = inner_from-next_by t d k n (next-is t k n few is)

-- ---- before

-- the first is not before it
before-none_first : (b : Bool) (n j : ℕ) (ks : List ℕ) → n ≤ j → places_before n ks ≡ [] → places_before n (cond b (j ∷ ks) ks) ≡ []
before-none_first true n j ks within is = ap (λ (b : Bool). cond b (j ∷ places_before n ks) (places_before n ks)) (not-less j n within) ∙ is
before-none_first false n j ks within is = is

-- before one that is before all of them is none
pub before-none : (test : Entry → Bool) (n j : ℕ) (es : List Entry) → n ≤ j → places_before n (places_that test j es) ≡ []
before-none test n j [] within = refl
before-none test n j (e ∷ es) within =
    before-none_first (test e) n j (places_that test (suc j) es) within (before-none test n (suc j) es (omega (arith, within)))

-- before what is past the end are all
before-all_from : (t : Places) (n j m : ℕ) → length t.entries ≤ n → j + m ≡ length t.entries
    → places_before n (places_from t j) ≡ places_from t j
before-all_from t n j zero past is = ap (places_before n) (from-past t j (omega (arith, is))) ∙ sym (from-past t j (omega (arith, is)))
before-all_from t n j (suc m) past is =
    let at = from-here t j (omega (arith, is)) in
    ap (places_before n) at
    ∙ ap (λ (b : Bool). cond b (j ∷ places_before n (places_from t (suc j))) (places_before n (places_from t (suc j))))
    (is-less j n (omega (arith, past, is)))
    ∙ ap (λ (ks : List ℕ). j ∷ ks) (before-all_from t n (suc j) m past (omega (arith, is)))
    ∙ sym at

-- so of the whole tree
pub before-all : (t : Places) (n : ℕ) → length t.entries ≤ n → places_before n (all_places t) ≡ all_places t
before-all t n past = before-all_from t n 0 (length t.entries) past (omega arith)

-- before the next one are those before this one, and this one
before-next_from : (t : Places) (n j m : ℕ) → n < length t.entries → j + m ≡ n
    → places_before (suc n) (places_from t j) ≡ places_before n (places_from t j) ++ n ∷ []
before-next_from t n j zero within is =
    let same : j ≡ n = omega (arith, is) in
    let at = from-here t n within in
    rw same (ap (places_before (suc n)) at
    ∙ ap₂ (λ (b : Bool) (ks : List ℕ). cond b (n ∷ ks) ks) (is-less n (suc n) (omega arith))
    (before-none (λ e. true) (suc n) (suc n) (drop (suc n) t.entries) (omega arith))
    ∙ ap (λ (ks : List ℕ). ks ++ n ∷ []) (sym (before-none (λ e. true) n n (drop n t.entries) (omega arith))))
before-next_from t n j (suc m) within is =
    let at = from-here t j (omega (arith, within, is)) in
    ap (places_before (suc n)) at
    ∙ ap₂ (λ (b : Bool) (ks : List ℕ). cond b (j ∷ ks) ks) (is-less j (suc n) (omega (arith, is)))
    (before-next_from t n (suc j) m within (omega (arith, is)))
    ∙ ap (λ (b : Bool). cond b (j ∷ places_before n (places_from t (suc j))) (places_before n (places_from t (suc j))) ++ n ∷ [])
    (sym (is-less j n (omega (arith, is))))
    ∙ ap (λ (ks : List ℕ). places_before n ks ++ n ∷ []) (sym at)

-- so of the whole tree
pub before-next : (t : Places) (n : ℕ) → n < length t.entries
    → places_before (suc n) (all_places t) ≡ places_before n (all_places t) ++ n ∷ []
before-next t n within = before-next_from t n 0 n within (omega arith)

-- before a place are none of the siblings behind it, nor it
before-later : (n d k : ℕ) (es : List Entry) → n ≤ k → places_before n (later_siblings d (suc k) es) ≡ []
before-later n zero k es within = refl
before-later n (suc d) k es within = before-none (λ e. nat_eq e.depth (suc d)) n (suc k) (inner d es) (omega (arith, within))

-- nor the node itself
pub before-siblings : (t : Places) (n k : ℕ) → n ≤ k → places_before n (k ∷ sibling_places t k) ≡ []
before-siblings t n k within =
    ap (λ (b : Bool). cond b (k ∷ places_before n (sibling_places t k)) (places_before n (sibling_places t k))) (not-less k n within)
    ∙ before-later n (depth_at t.entries k) k (behind_place t k) within

-- one before a place is the first of those before it
pub before-here : (n k : ℕ) (ks : List ℕ) → k < n → places_before n (k ∷ ks) ≡ k ∷ places_before n ks
before-here n k ks less = ap (λ (b : Bool). cond b (k ∷ places_before n ks) (places_before n ks)) (is-less k n less)

-- a sibling that is before a place is taken, and the next one is met
pub before-goes : (t : Places) (n k : ℕ) (next : Option ℕ) (out new all : List ℕ) → k < n → new ≡ out ++ k ∷ []
    → next ≡ first_place (sibling_places t k) → out ++ places_before n (k ∷ sibling_places t k) ≡ all
    → new ++ places_before n (rest_of sibling_places t next) ≡ all
before-goes t n k next out new all less is goes left =
    let rest = places_before n (rest_of sibling_places t next) in
    let same : rest_of sibling_places t next ≡ sibling_places t k = ap (rest_of sibling_places t) goes ∙ sym (walks-siblings t k).listed in
    ap (λ (ks : List ℕ). ks ++ rest) is
    ∙ append_assoc out (k ∷ []) rest
    ∙ ap (λ (ks : List ℕ). out ++ k ∷ places_before n ks) same
    ∙ ap (λ (ks : List ℕ). out ++ ks) (sym (before-here n k (sibling_places t k) less))
    ∙ left

-- ---- backward

-- the last one is the first one backward
pub reversed-last : {X : Type 0} (xs : List X) (x : X) → reversed (xs ++ x ∷ []) ≡ x ∷ reversed xs
reversed-last [] x = refl
reversed-last (y ∷ ys) x = ap (λ l. l ++ y ∷ []) (reversed-last ys x)

-- ---- attributes

-- the attributes from a number on are that and those from the next on
pub attributes-here : (k i j : ℕ) (ls : List Label) → j < length ls
    → attribute_nodes k i (drop j ls) ≡ node.Attr k i ∷ attribute_nodes k (suc i) (drop (suc j) ls)
attributes-here k i j [] within = absurd (omega (arith, within))
attributes-here k i zero (l ∷ ls) within = refl
attributes-here k i (suc j) (l ∷ ls) within = attributes-here k i j ls (omega (arith, within))
