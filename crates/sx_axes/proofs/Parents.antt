-- The nearest node before one that is less deep, which in a tree is its parent; and what follows from where it stands.
use Rattle.std.proofs.Common.{◌≡◌, ℕ, zero, suc, ◌+◌, ◌-◌, ◌<◌, ◌≤◌, Bool, true, false, nat_lt, nat_eq, not, cond, List, [], ◌∷◌, length, drop, Option, Some, None, refl, ap, sym, ◌∙◌, arith}
use Rattle.std.proofs.lemmas.Bool.Decides.{nat_tests}
use Rattle.sx_axes.proofs.Numbers.{last-or}
use Rattle.sx_axes.proofs.Spans.{deep-within, after-deep, after-is_from, from-past, inner-reaches}
use Rattle.sx_axes.specs.Axes.{at_places, places_after, children_of, following_places, along}
use Rattle.sx_axes.specs.Ways.{is_from, later_nodes, places_from}
use Rattle.sx_tree.specs.declared.nodes.Node.{Node}
use Rattle.sx_tree.specs.declared.nodes.Node.TheVariants as node
use Rattle.sx_tree.specs.declared.steps.Axis.TheVariants as axis
use Rattle.sx_tree.specs.Places.{Entry, Places}
use Rattle.sx_tree.specs.TreeView.{IsTree, depth_at, inner, behind_place, inside, places_that, later_siblings, sibling_places, outward, outer_places, first_place}

-- ---- the nearest

-- before n, p is the last that is less deep than d
pub record IsLast (es : List Entry) (d n p : ℕ) : Type 0 where
  pub before : p < n
  pub less : depth_at es p < d
  pub between : (j : ℕ) → p < j → j < n → d ≤ depth_at es j

-- it is the last one before n that is less deep than d, or there is none
abbrev pub IsNearest : List Entry → ℕ → ℕ → Option ℕ → Type 0
IsNearest es d n None = (j : ℕ) → j < n → d ≤ depth_at es j
IsNearest es d n (Some p) = IsLast es d n p

-- one more that is deep enough changes nothing
nearest-later : (es : List Entry) (d k : ℕ) (o : Option ℕ) → d ≤ depth_at es k → IsNearest es d k o → IsNearest es d (suc k) o
nearest-later es d k None deep is = λ j within. last-or (λ j. d ≤ depth_at es j) j k within (is j) deep
nearest-later es d k (Some p) deep is = record {
  before = let before = is.before in omega (arith, before);
  less = is.less;
  between = λ j behind within. last-or (λ j. d ≤ depth_at es j) j k within (is.between j behind) deep;
}

-- one more is the nearest if it is less deep, or else changes nothing
nearest-step : (b : Bool) (es : List Entry) (d k : ℕ) (ks js : List ℕ) → nat_lt (depth_at es k) d ≡ b → IsNearest es d k (first_place js)
    → IsNearest es d (suc k) (first_place (cond b (k ∷ ks) js))
nearest-step true es d k ks js is later =
    record { before = omega arith; less = grind (arith, nat_tests); between = λ j behind within. absurd (omega (arith, behind, within)) }
nearest-step false es d k ks js is later =
    let deep : d ≤ depth_at es k = grind (arith, nat_tests) in nearest-later es d k (first_place js) deep later

-- what is met first going outward is the nearest
pub nearest : (es : List Entry) (d k : ℕ) → IsNearest es d k (first_place (outward es d k))
nearest es d zero = λ j within. absurd (omega (arith, within))
nearest es d (suc k) =
    nearest-step (nat_lt (depth_at es k) d) es d k (outward es (depth_at es k) k) (outward es d k) refl (nearest es d k)

-- ---- inside

-- all between two places are deeper than the first
abbrev pub Between : List Entry → ℕ → ℕ → Type 0
Between es k n = (j : ℕ) → k < j → j < n → depth_at es k < depth_at es j

-- a place that is not before another is at it or behind it
is-from : (n k : ℕ) → not (nat_lt k n) ≡ true → n ≤ k
is-from n k is = grind (arith, nat_tests)

-- otherwise it is before it
is-before : (n k : ℕ) → not (nat_lt k n) ≡ false → k < n
is-before n k is = grind (arith, nat_tests)

-- a place that is not before the first is it, or is deeper
deeper-at : (b : Bool) (es : List Entry) (k n p : ℕ) → nat_eq p k ≡ b → k ≤ p → p < n → Between es k n → depth_at es p < depth_at es n
    → depth_at es k < depth_at es n
deeper-at true es k n p is from before between less =
    let same : p ≡ k = grind (arith, nat_tests) in
    let depth = ap (depth_at es) same in omega (arith, depth, less)
deeper-at false es k n p is from before between less =
    let behind : k < p = grind (arith, nat_tests) in
    let deeper = between p behind before in omega (arith, deeper, less)

-- a node is deeper, if its nearest is not before
deeper-by : (es : List Entry) (k n : ℕ) (o : Option ℕ) → k < n → Between es k n → IsNearest es (depth_at es n) n o → is_from k o ≡ true
    → depth_at es k < depth_at es n
deeper-by es k n None less between is from = absurd (cc)
deeper-by es k n (Some p) less between is from =
    deeper-at (nat_eq p k) es k n p refl (is-from k p from) is.before between is.less

-- where the parent is not before a place, the node is deeper than that
pub deeper-than : (t : Places) (k n : ℕ) → k < n → Between t.entries k n → is_from k (first_place (outer_places t n)) ≡ true
    → depth_at t.entries k < depth_at t.entries n
deeper-than t k n less between from =
    deeper-by t.entries k n (first_place (outer_places t n)) less between (nearest t.entries (depth_at t.entries n) n) from

-- a node is not, if its nearest is before, or if there is none
flat-by : (es : List Entry) (k n : ℕ) (o : Option ℕ) → k < n → IsNearest es (depth_at es n) n o → is_from k o ≡ false
    → depth_at es n ≤ depth_at es k
flat-by es k n None less is from = is k less
flat-by es k n (Some p) less is from = is.between k (is-before k p from) less

-- otherwise it is no deeper
pub flat-than : (t : Places) (k n : ℕ) → k < n → is_from k (first_place (outer_places t n)) ≡ false
    → depth_at t.entries n ≤ depth_at t.entries k
flat-than t k n less from = flat-by t.entries k n (first_place (outer_places t n)) less (nearest t.entries (depth_at t.entries n) n) from

-- one more that is deeper
pub between-more : (es : List Entry) (k n : ℕ) → Between es k n → depth_at es k < depth_at es n → Between es k (suc n)
between-more es k n between deeper = λ j behind within. last-or (λ j. depth_at es k < depth_at es j) j n within (between j behind) deeper

-- ---- the parent

-- in a tree the nearest of a node with some depth is there, and is less deep by one
pub record IsParent (es : List Entry) (k d p : ℕ) : Type 0 where
  pub before : p < k
  pub depth : depth_at es p ≡ d
  pub deep : (j : ℕ) → suc p ≤ j → j < suc k → d < depth_at es j

-- the nearest is less deep by one
parent-depth : (es : List Entry) (k d p : ℕ) → IsTree es → k < length es → depth_at es k ≡ suc d
    → IsLast es (suc d) k p → depth_at es p ≡ d
parent-depth es k d p tree within is last =
    let before = last.before in
    let next = tree.inward p (omega (arith, before, within)) in
    let deep : suc d ≤ depth_at es (suc p) =
    last-or (λ (j : ℕ). p < j → suc d ≤ depth_at es j) (suc p) k (omega (arith, before))
    (λ less behind. last.between (suc p) behind less) (λ behind. omega (arith, is)) (omega arith) in
    omega (arith, last.less, next.1, deep)

-- and it is the parent
pub parent-is : (es : List Entry) (k d p : ℕ) → IsTree es → k < length es → depth_at es k ≡ suc d
    → IsLast es (suc d) k p → IsParent es k d p
parent-is es k d p tree within is last = record {
  before = last.before;
  depth = parent-depth es k d p tree within is last;
  deep = λ j behind here. last-or (λ (j : ℕ). p < j → d < depth_at es j) j k here
      (λ less behind. let deep = last.between j behind less in omega (arith, deep)) (λ behind. omega (arith, is)) (omega (arith, behind));
}

-- ---- siblings

-- at a depth and behind a place
siblings-by : (t : Places) (d k : ℕ) (o : Option ℕ) → IsTree t.entries → depth_at t.entries k ≡ d → IsNearest t.entries d k o
    → places_after k (children_of t o) ≡ later_siblings d (suc k) (behind_place t k)
siblings-by t zero k None tree is near = refl
siblings-by t zero k (Some p) tree is near = absurd (omega (arith, near.less))
siblings-by t (suc d) zero None tree is near = absurd (omega (arith, is, tree.first))
siblings-by t (suc d) (suc k) None tree is near = absurd (let deep = near 0 (omega arith) in omega (arith, deep, tree.first))
siblings-by t (suc d) k (Some p) tree is near =
    let parent = parent-is t.entries k d p tree (deep-within t.entries k (omega (arith, is))) is near in
    let before = parent.before in
    ap (λ (c : ℕ). places_after k (places_that (λ e. nat_eq e.depth (suc c)) (suc p) (inner c (drop (suc p) t.entries)))) parent.depth
    ∙ after-deep (λ e. nat_eq e.depth (suc d)) t.entries d (suc p) (k - p) k (omega (arith, before))
    (λ j low high. parent.deep j low (omega (arith, before, high)))

-- the siblings behind a node are the children of its parent that are behind it
pub later-children : (t : Places) (k : ℕ) → IsTree t.entries
    → places_after k (children_of t (first_place (outer_places t k))) ≡ sibling_places t k
later-children t k tree =
    siblings-by t (depth_at t.entries k) k (first_place (outer_places t k)) tree refl (nearest t.entries (depth_at t.entries k) k)

-- so are they as nodes
pub later-nodes : (t : Places) (n : Node) → IsTree t.entries → along t axis.FollowingSibling n ≡ later_nodes t n
later-nodes t (node.At k) tree = ap at_places (later-children t k tree)
later-nodes t (node.Attr k i) tree = refl

-- ---- what is behind a node and all that is in it

-- the next sibling is behind what is in the node
sibling-step : (b c f : Bool) (d j m : ℕ) (e : Entry) (es : List Entry) → nat_lt d e.depth ≡ b → nat_eq e.depth (suc d) ≡ c
    → nat_lt (suc d) e.depth ≡ f
    → first_place (places_that (λ e. nat_eq e.depth (suc d)) j (cond b (e ∷ inner d es) [])) ≡ Some m
    → (first_place (later_siblings (suc d) (suc j) es) ≡ Some m → m ≡ suc j + length (inner (suc d) es))
    → m ≡ j + length (cond f (e ∷ inner (suc d) es) [])
sibling-step false c f d j m e es deep same deeper is later = absurd (cc)
sibling-step true true true d j m e es deep same deeper is later = absurd (grind (arith, nat_tests))
sibling-step true true false d j m e es deep same deeper is later =
    let first = rw same at is in
    let at : j ≡ m = cc in omega (arith, at)
sibling-step true false true d j m e es deep same deeper is later =
    let rest = later (rw same at is) in omega (arith, rest)
sibling-step true false false d j m e es deep same deeper is later = absurd (grind (arith, nat_tests))

-- so in a list of any length
sibling-behind : (d j m : ℕ) (es : List Entry) → first_place (later_siblings (suc d) j es) ≡ Some m → m ≡ j + length (inner (suc d) es)
sibling-behind d j m [] is = absurd (cc)
sibling-behind d j m (e ∷ es) is =
    sibling-step (nat_lt d e.depth) (nat_eq e.depth (suc d)) (nat_lt (suc d) e.depth) d j m e es refl refl refl is
    (sibling-behind d (suc j) m es)

-- where there is no next sibling, what is deeper than the parent is deeper than the node
no_sibling-step : (b c f : Bool) (d j : ℕ) (e : Entry) (es : List Entry) → nat_lt d e.depth ≡ b → nat_eq e.depth (suc d) ≡ c
    → nat_lt (suc d) e.depth ≡ f
    → first_place (places_that (λ e. nat_eq e.depth (suc d)) j (cond b (e ∷ inner d es) [])) ≡ None
    → (first_place (later_siblings (suc d) (suc j) es) ≡ None → inner d es ≡ inner (suc d) es)
    → (let fs : List Entry = cond b (e ∷ inner d es) [] in fs) ≡ cond f (e ∷ inner (suc d) es) []
no_sibling-step false c true d j e es deep same deeper is later = absurd (grind (arith, nat_tests))
no_sibling-step false c false d j e es deep same deeper is later = refl
no_sibling-step true true f d j e es deep same deeper is later = absurd (let first = rw same at is in cc)
no_sibling-step true false true d j e es deep same deeper is later = ap (λ (fs : List Entry). e ∷ fs) (later (rw same at is))
no_sibling-step true false false d j e es deep same deeper is later = absurd (grind (arith, nat_tests))

-- so in a list of any length
no_sibling-inside : (d j : ℕ) (es : List Entry) → first_place (later_siblings (suc d) j es) ≡ None → inner d es ≡ inner (suc d) es
no_sibling-inside d j [] is = refl
no_sibling-inside d j (e ∷ es) is =
    no_sibling-step (nat_lt d e.depth) (nat_eq e.depth (suc d)) (nat_lt (suc d) e.depth) d j e es refl refl refl is
    (no_sibling-inside d (suc j) es)

-- the last place of a node and all that is in it
abbrev pub last_of : Places → ℕ → ℕ
last_of t k = k + length (inside t k)

-- at a depth: the next sibling is behind the last place of the node
next-by : (t : Places) (d k m : ℕ) → depth_at t.entries k ≡ d → first_place (later_siblings d (suc k) (behind_place t k)) ≡ Some m
    → m ≡ suc (last_of t k)
next-by t zero k m is next = absurd (cc)
next-by t (suc d) k m is next =
    let size = ap (λ (c : ℕ). length (inner c (behind_place t k))) is in
    let behind = sibling-behind d (suc k) m (behind_place t k) next in
    omega (arith, size, behind)

-- the next sibling is behind that
pub next-behind : (t : Places) (k m : ℕ) → first_place (sibling_places t k) ≡ Some m → m ≡ suc (last_of t k)
next-behind t k m next = next-by t (depth_at t.entries k) k m refl next

-- where there is no next sibling, it is also the last place of what is in the parent
last-by : (t : Places) (d k p : ℕ) → IsTree t.entries → depth_at t.entries k ≡ d → IsNearest t.entries d k (Some p)
    → first_place (later_siblings d (suc k) (behind_place t k)) ≡ None → last_of t k ≡ last_of t p
last-by t zero k p tree is near none = absurd (omega (arith, near.less))
last-by t (suc d) k p tree is near none =
    let parent = parent-is t.entries k d p tree (deep-within t.entries k (omega (arith, is))) is near in
    let before = parent.before in
    let outer = ap (λ (c : ℕ). length (inner c (behind_place t p))) parent.depth in
    let own = ap (λ (c : ℕ). length (inner c (behind_place t k))) is in
    let same = ap (λ (es : List Entry). length es) (no_sibling-inside d (suc k) (behind_place t k) none) in
    let reach = inner-reaches t.entries d (suc p) (k - p) (λ j low high. parent.deep j low (omega (arith, before, high))) in
    let end : suc p + (k - p) ≡ suc k = omega (arith, before) in
    let there = ap (λ (n : ℕ). length (inner d (drop n t.entries))) end in
    omega (arith, outer, own, same, reach, end, there)

-- so for the parent of a node
pub last-outside : (t : Places) (k p : ℕ) → IsTree t.entries → first_place (outer_places t k) ≡ Some p
    → first_place (sibling_places t k) ≡ None
    → last_of t k ≡ last_of t p
last-outside t k p tree parent none =
    last-by t (depth_at t.entries k) k p tree refl (rw parent at (nearest t.entries (depth_at t.entries k) k)) none

-- what has no parent is the first node, or no node of the tree
last-root : (t : Places) (k : ℕ) → IsTree t.entries → IsNearest t.entries (depth_at t.entries k) k None → k < length t.entries
    → length t.entries ≤ suc (last_of t k)
last-root t zero tree near within =
    let size = length t.entries - 1 in
    let reach = inner-reaches t.entries 0 1 size
    (λ j low high. let inward = tree.inward (j - 1) in
    let back : suc (j - 1) ≡ j = omega (arith, low) in
    let deep = rw back at inward in (deep (omega (arith, high, within))).0) in
    let flat = ap (λ (c : ℕ). length (inner c (drop 1 t.entries))) tree.first in
    omega (arith, reach, flat, within)
last-root t (suc k) tree near within =
    absurd (let deep = tree.inward k within in let flat = near 0 (omega arith) in omega (arith, deep.0, flat, tree.first))

-- so is what has no place in the tree
last-by_place : (b : Bool) (t : Places) (k : ℕ) → nat_lt k (length t.entries) ≡ b → IsTree t.entries
    → IsNearest t.entries (depth_at t.entries k) k None → length t.entries ≤ suc (last_of t k)
last-by_place true t k is tree near = last-root t k tree near (let within : k < length t.entries = grind (arith, nat_tests) in within)
last-by_place false t k is tree near = let past : length t.entries ≤ k = grind (arith, nat_tests) in omega (arith, past)

-- so nothing is behind it
pub none-behind : (t : Places) (k : ℕ) → IsTree t.entries → first_place (outer_places t k) ≡ None → length t.entries ≤ suc (last_of t k)
none-behind t k tree none =
    last-by_place (nat_lt k (length t.entries)) t k refl tree (rw none at (nearest t.entries (depth_at t.entries k) k))

-- what follows a node begins at the next sibling of the node, or of an ancestor that ends where it does
pub following-next : (t : Places) (k outer next : ℕ) → last_of t k ≡ last_of t outer → first_place (sibling_places t outer) ≡ Some next
    → following_places t (node.At k) ≡ places_from t next
following-next t k outer next same is =
    let behind = next-behind t outer next is in
    let start : suc (last_of t k) ≡ next = omega (arith, same, behind) in
    after-is_from t (last_of t k) ∙ ap (places_from t) start

-- or there is nothing
pub following-none : (t : Places) (k outer n : ℕ) → IsTree t.entries → last_of t k ≡ last_of t outer
    → first_place (outer_places t outer) ≡ None
    → n ≡ length t.entries → following_places t (node.At k) ≡ places_from t n
following-none t k outer n tree same none is =
    let past = none-behind t outer tree none in
    after-is_from t (last_of t k) ∙ from-past t (suc (last_of t k)) (omega (arith, same, past))
    ∙ sym (from-past t n (omega (arith, is)))
