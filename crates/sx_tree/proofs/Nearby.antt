-- The nodes next to one: what it stands in, its first child, the sibling next behind it.
use Rattle.std.proofs.Common.{◌≡◌, ℕ, zero, suc, ◌+◌, ◌<◌, ◌≤◌, Bool, true, false, ◌&&◌, nat_lt, nat_eq, cond, List, [], ◌∷◌, length, drop, slice_get, Option, Some, None, if◌then◌else◌, refl, ap, sym, ◌∙◌, arith}
use Rattle.std.proofs.lemmas.Bool.Decides.{nat_tests}
use Rattle.std.proofs.lemmas.List.{drop_all, drop-drop}
use Rattle.std.proofs.lemmas.Option.{slice_get_within}
use Rattle.std.specs.Option.{option_map_or}
use Rattle.sx_tree.specs.Places.{Entry, Places}
use Rattle.sx_tree.specs.Rows.{end_at}
use Rattle.sx_tree.specs.TreeView.{IsTree, depth_at, inner, all_deeper, places_that, outward, first_place, behind_place, inside, child_places, outer_places, is_open_place, later_siblings, sibling_places}

-- ---- lists of nodes

-- from its place on, a node is the first
pub drop_at : (es : List Entry) (k : ℕ) (e : Entry) → slice_get es k ≡ Some e → drop k es ≡ e ∷ drop (suc k) es
drop_at [] k e is = absurd (cc)
drop_at (x ∷ es) zero e is = cc
drop_at (x ∷ es) (suc k) e is = drop_at es k e is

-- from a place that is none on, there is nothing
pub drop_none : (es : List Entry) (k : ℕ) → slice_get es k ≡ None → drop k es ≡ []
drop_none [] k is = drop_all k [] (omega arith)
drop_none (x ∷ es) zero is = absurd (cc)
drop_none (x ∷ es) (suc k) is = drop_none es k is

-- the depth of the node at a place
pub depth_of : (es : List Entry) (k : ℕ) (e : Entry) → slice_get es k ≡ Some e → depth_at es k ≡ e.depth
depth_of es k e is = ap (λ (o : Option Entry). option_map_or (λ e. e.depth) o 0) is

-- at a place that is none, there is no depth
pub depth_none : (es : List Entry) (k : ℕ) → slice_get es k ≡ None → depth_at es k ≡ 0
depth_none es k is = ap (λ (o : Option Entry). option_map_or (λ e. e.depth) o 0) is

-- ---- what a node stands in

-- what has no depth stands in nothing
pub outward-none : (es : List Entry) (k : ℕ) → outward es 0 k ≡ []
outward-none es zero = refl
outward-none es (suc k) =
    let no : nat_lt (depth_at es k) 0 ≡ false = grind (arith, nat_tests) in
    ap (λ (b : Bool). cond b (k ∷ outward es (depth_at es k) k) (outward es 0 k)) no ∙ outward-none es k

-- nor does what is at no place
pub outer_places-none : (t : Places) (k : ℕ) → slice_get t.entries k ≡ None → first_place (outer_places t k) ≡ None
outer_places-none t k at = ap (λ (ks : List ℕ). first_place ks)
    (ap (λ (d : ℕ). outward t.entries d k) (depth_none t.entries k at) ∙ outward-none t.entries k)

-- the first of places below k + 1, by whether k is one of them
first-below : (b : Bool) (k j : ℕ) (ks ls : List ℕ) → (first_place ls ≡ Some j → j < k)
    → first_place (cond b (k ∷ ks) ls) ≡ Some j → j < suc k
first-below true k j ks ls below is = let same : k ≡ j = cc in omega arith
first-below false k j ks ls below is = omega (arith, below is)

-- what a node stands in has a place before it
pub outward-below : (es : List Entry) (d k j : ℕ) → first_place (outward es d k) ≡ Some j → j < k
outward-below es d zero j is = absurd (cc)
outward-below es d (suc k) j is =
    first-below (nat_lt (depth_at es k) d) k j (outward es (depth_at es k) k) (outward es d k) (outward-below es d k j) is

-- ---- the first child

-- The first child, if there is one, is the next node, and stands in this one.
record IsFirstChild (t : Places) (k : ℕ) : Type 0 where
  child : Bool
  first : first_place (child_places t k) ≡ (if child then Some (suc k) else None)
  only : first_place (outer_places t (suc k)) ≡ Some k → child ≡ true
  outer : child ≡ true → first_place (outer_places t (suc k)) ≡ Some k

-- the first of the children, by whether the next node is deeper
first-child : (b : Bool) (d k : ℕ) (e : Entry) (es : List Entry) → nat_lt d e.depth ≡ b → e.depth ≤ suc d
    → first_place (places_that (λ e. nat_eq e.depth (suc d)) (suc k) (cond b (e ∷ es) [])) ≡ cond b (Some (suc k)) None
first-child true d k e es deeper within =
    let same : nat_eq e.depth (suc d) ≡ true = grind (arith, nat_tests) in
    let rest = places_that (λ e. nat_eq e.depth (suc d)) (suc (suc k)) es in
    ap (λ (b : Bool). first_place (cond b (suc k ∷ rest) rest)) same
first-child false d k e es deeper within = refl

-- it stands in the one before it only where it is deeper
only-deeper : (b : Bool) (k : ℕ) (ks ls : List ℕ) → (first_place ls ≡ Some k → k < k)
    → first_place (cond b (k ∷ ks) ls) ≡ Some k → b ≡ true
only-deeper true k ks ls below is = refl
only-deeper false k ks ls below is = absurd (omega (arith, below is))

module _ (t : Places) (k : ℕ) (tree : IsTree t.entries) where
  abbrev depth : ℕ
  depth = depth_at t.entries k

  -- where there is a next node
  next_child : (e : Entry) → slice_get t.entries (suc k) ≡ Some e → IsFirstChild t k
  next_child e at =
      let rest = drop (suc (suc k)) t.entries in
      let deep = depth_of t.entries (suc k) e at in
      let step = tree.inward k (slice_get_within t.entries (suc k) e at) in
      let within : e.depth ≤ suc depth = omega (arith, step.1, deep) in
      let outer : outer_places t (suc k) ≡ outward t.entries e.depth (suc k) = ap (λ (d : ℕ). outward t.entries d (suc k)) deep in
      record {
        child = nat_lt depth e.depth;
        first =
            ap (λ (es : List Entry). first_place (places_that (λ e. nat_eq e.depth (suc depth)) (suc k) (inner depth es))) (drop_at t.entries (suc k) e at)
            ∙ first-child (nat_lt depth e.depth) depth k e (inner depth rest) refl within;
        only = λ is. only-deeper (nat_lt depth e.depth) k (outward t.entries depth k) (outward t.entries e.depth k)
            (outward-below t.entries e.depth k k) (ap (λ (ks : List ℕ). first_place ks) (sym outer) ∙ is);
        outer = λ is. ap (λ (ks : List ℕ). first_place ks) outer
            ∙ ap (λ (b : Bool). first_place (cond b (k ∷ outward t.entries depth k) (outward t.entries e.depth k))) is;
      }

  -- where there is none
  no_next : slice_get t.entries (suc k) ≡ None → IsFirstChild t k
  no_next at =
      record {
        child = false;
        first =
            ap (λ (es : List Entry). first_place (places_that (λ e. nat_eq e.depth (suc depth)) (suc k) (inner depth es)))
            (drop_none t.entries (suc k) at);
        only = λ is. let none : None ≡ Some k = sym (outer_places-none t (suc k) at) ∙ is in absurd (cc);
        outer = λ is. absurd (cc);
      }

  first_child : (o : Option Entry) → slice_get t.entries (suc k) ≡ o → IsFirstChild t k
  first_child None at = no_next at
  first_child (Some e) at = next_child e at

  is_first_child : IsFirstChild t k
  is_first_child = first_child (slice_get t.entries (suc k)) refl

  -- The next node is the first child where it stands in this one,
  pub first_child-next : first_place (outer_places t (suc k)) ≡ Some k → first_place (child_places t k) ≡ Some (suc k)
  first_child-next is = is_first_child.first ∙ ap (λ (b : Bool). cond b (Some (suc k)) None) (is_first_child.only is)

  -- the first child, by whether there is one
  no_child : (b : Bool) → first_place (child_places t k) ≡ cond b (Some (suc k)) None → (b ≡ true → ⊥) → first_place (child_places t k) ≡ None
  no_child true first not = absurd (not refl)
  no_child false first not = first

  -- and where it does not, there is no child.
  pub first_child-none : (first_place (outer_places t (suc k)) ≡ Some k → ⊥) → first_place (child_places t k) ≡ None
  first_child-none not = no_child is_first_child.child is_first_child.first (λ is. not (is_first_child.outer is))

-- ---- the next sibling

-- those of this depth
abbrev siblings : ℕ → ℕ → List Entry → List ℕ
siblings d k es = places_that (λ e. nat_eq e.depth (suc d)) k es

-- the same with one more in front, by whether it is deeper
skip-first : (b : Bool) (d j : ℕ) (e : Entry) (es : List Entry) → nat_lt (suc d) e.depth ≡ b
    → siblings d (suc j) (inner d es) ≡ siblings d (suc j + length (inner (suc d) es)) (inner d (drop (length (inner (suc d) es)) es))
    → siblings d j (inner d (e ∷ es))
    ≡ siblings d (j + length (cond b (e ∷ inner (suc d) es) [])) (inner d (drop (length (cond b (e ∷ inner (suc d) es) [])) (e ∷ es)))
skip-first true d j e es deeper skip =
    let more : nat_lt d e.depth ≡ true = grind (arith, nat_tests) in
    let other : nat_eq e.depth (suc d) ≡ false = grind (arith, nat_tests) in
    let n = length (inner (suc d) es) in
    let rest = siblings d (suc j) (inner d es) in
    let place : suc j + n ≡ j + suc n = omega arith in
    ap (λ (b : Bool). siblings d j (cond b (e ∷ inner d es) [])) more
    ∙ ap (λ (b : Bool). cond b (j ∷ rest) rest) other
    ∙ skip
    ∙ ap (λ (k : ℕ). siblings d k (inner d (drop n es))) place
skip-first false d j e es deeper skip = let place : j ≡ j + 0 = omega arith in ap (λ (k : ℕ). siblings d k (inner d (e ∷ es))) place

-- what is in the node before them is deeper than they are
skip-inner : (d j : ℕ) (es : List Entry)
    → siblings d j (inner d es) ≡ siblings d (j + length (inner (suc d) es)) (inner d (drop (length (inner (suc d) es)) es))
skip-inner d j [] = refl
skip-inner d j (e ∷ es) = skip-first (nat_lt (suc d) e.depth) d j e es refl (skip-inner d (suc j) es)

-- the same with one more in front, by whether it is deeper
ends-first : (b : Bool) (d : ℕ) (e : Entry) (es : List Entry) (f : Entry) (fs : List Entry) → nat_lt d e.depth ≡ b
    → (drop (length (inner d es)) es ≡ f ∷ fs → f.depth ≤ d)
    → drop (length (cond b (e ∷ inner d es) [])) (e ∷ es) ≡ f ∷ fs → f.depth ≤ d
ends-first true d e es f fs deeper ends is = ends is
ends-first false d e es f fs deeper ends is =
    let same : e ≡ f = cc in
    let depth : e.depth ≡ f.depth = ap (λ (x : Entry). x.depth) same in
    let most : e.depth ≤ d = grind (arith, nat_tests) in
    omega arith

-- the first behind those that are deeper is not
inner-ends : (d : ℕ) (es : List Entry) (f : Entry) (fs : List Entry) → drop (length (inner d es)) es ≡ f ∷ fs → f.depth ≤ d
inner-ends d [] f fs is = absurd (cc)
inner-ends d (e ∷ es) f fs is = ends-first (nat_lt d e.depth) d e es f fs refl (inner-ends d es f fs) is

-- the same with one more in front, by whether it is deeper
whole-first : (b : Bool) (d : ℕ) (e : Entry) (es : List Entry) → (all_deeper d es ≡ true → drop (length (inner d es)) es ≡ [])
    → cond b (all_deeper d es) false ≡ true
    → drop (length (cond b (e ∷ inner d es) [])) (e ∷ es) ≡ []
whole-first true d e es whole is = whole is
whole-first false d e es whole is = absurd (cc)

-- behind those that are deeper there is nothing where all are
inner-whole : (d : ℕ) (es : List Entry) → all_deeper d es ≡ true → drop (length (inner d es)) es ≡ []
inner-whole d [] is = refl
inner-whole d (e ∷ es) is = whole-first (nat_lt d e.depth) d e es (inner-whole d es) is

-- nothing behind what is in a node: no sibling
nothing-behind : (d j : ℕ) (es : List Entry) → drop (length (inner d es)) es ≡ [] → first_place (later_siblings d j es) ≡ None
nothing-behind zero j es is = refl
nothing-behind (suc d) j es is =
    ap (λ (ks : List ℕ). first_place ks) (skip-inner d j es)
    ∙ ap (λ (fs : List Entry). first_place (siblings d (j + length (inner (suc d) es)) (inner d fs))) is

-- a node of the same depth behind it is a sibling
same-behind : (d j : ℕ) (es : List Entry) (f : Entry) (fs : List Entry) → drop (length (inner d es)) es ≡ f ∷ fs → 0 < f.depth → f.depth ≡ d
    → first_place (later_siblings d j es) ≡ Some (j + length (inner d es))
same-behind zero j es f fs is some depth = absurd (omega arith)
same-behind (suc d) j es f fs is some depth =
    let deeper : nat_lt d f.depth ≡ true = grind (arith, nat_tests) in
    let same : nat_eq f.depth (suc d) ≡ true = grind (arith, nat_tests) in
    let k = j + length (inner (suc d) es) in
    let rest = siblings d (suc k) (inner d fs) in
    ap (λ (ks : List ℕ). first_place ks) (skip-inner d j es)
    ∙ ap (λ (gs : List Entry). first_place (siblings d k (inner d gs))) is
    ∙ ap (λ (b : Bool). first_place (siblings d k (cond b (f ∷ inner d fs) []))) deeper
    ∙ ap (λ (b : Bool). first_place (cond b (k ∷ rest) rest)) same

-- behind one that is less deep there are none
other-behind : (d j : ℕ) (es : List Entry) (f : Entry) (fs : List Entry) → drop (length (inner d es)) es ≡ f ∷ fs → (f.depth ≡ d → ⊥)
    → first_place (later_siblings d j es) ≡ None
other-behind zero j es f fs is other = refl
other-behind (suc d) j es f fs is other =
    let most = inner-ends (suc d) es f fs is in
    let less : f.depth ≤ d = omega (arith, most, other) in
    let shut : nat_lt d f.depth ≡ false = grind (arith, nat_tests) in
    let k = j + length (inner (suc d) es) in
    ap (λ (ks : List ℕ). first_place ks) (skip-inner d j es)
    ∙ ap (λ (gs : List Entry). first_place (siblings d k (inner d gs))) is
    ∙ ap (λ (b : Bool). first_place (siblings d k (cond b (f ∷ inner d fs) []))) shut

-- what has no end is open
open_end : (b : Bool) (n : ℕ) → cond b None (Some n) ≡ None → b ≡ true
open_end true n is = refl
open_end false n is = absurd (cc)

-- the end is one of what is not open
closed_end : (b : Bool) (n m : ℕ) → cond b None (Some n) ≡ Some m → n ≡ m
closed_end true n m is = absurd (cc)
closed_end false n m is = cc

-- what is open holds all that is behind it
open_deeper : (a b c : Bool) → (a && (b && c)) ≡ true → c ≡ true
open_deeper true true c is = is
open_deeper true false c is = absurd (cc)
open_deeper false b c is = absurd (cc)

-- Where all behind a node are in it, it has no next sibling.
pub next_sibling-deeper : (t : Places) (k : ℕ) → all_deeper (depth_at t.entries k) (behind_place t k) ≡ true
    → first_place (sibling_places t k) ≡ None
next_sibling-deeper t k all =
    nothing-behind (depth_at t.entries k) (suc k) (behind_place t k) (inner-whole (depth_at t.entries k) (behind_place t k) all)

-- Where a node has no end, all behind it are in it.
pub next_sibling-open : (t : Places) (k : ℕ) → end_at t k ≡ None → first_place (sibling_places t k) ≡ None
next_sibling-open t k end =
    let d = depth_at t.entries k in
    let now = open_end (is_open_place t k) (suc k + length (inside t k)) end in
    next_sibling-deeper t k (open_deeper (nat_lt k (length t.entries)) (nat_lt d t.level) (all_deeper d (behind_place t k)) now)

module _ (t : Places) (k end : ℕ) (ends : end_at t k ≡ Some end) where
  -- it is the place behind all that is in it
  end_is : suc k + length (inside t k) ≡ end
  end_is = closed_end (is_open_place t k) (suc k + length (inside t k)) end ends

  -- what is from there on
  from_end : drop (length (inside t k)) (behind_place t k) ≡ drop end t.entries
  from_end = drop-drop (length (inside t k)) (suc k) t.entries ∙ ap (λ (n : ℕ). drop n t.entries) end_is

  -- Where nothing is at its end, a node has no next sibling.
  pub next_sibling-none : slice_get t.entries end ≡ None → first_place (sibling_places t k) ≡ None
  next_sibling-none at = nothing-behind (depth_at t.entries k) (suc k) (behind_place t k) (from_end ∙ drop_none t.entries end at)

  -- What is there is the next sibling where it is as deep,
  pub next_sibling-same : (f : Entry) → IsTree t.entries → slice_get t.entries end ≡ Some f → f.depth ≡ depth_at t.entries k
      → first_place (sibling_places t k) ≡ Some end
  next_sibling-same f tree at same =
      let before = k + length (inside t k) in
      let place : end ≡ suc before = omega (arith, end_is) in
      let next : slice_get t.entries (suc before) ≡ Some f = ap (λ (n : ℕ). slice_get t.entries n) (sym place) ∙ at in
      let step = tree.inward before (slice_get_within t.entries (suc before) f next) in
      let some : 0 < f.depth = omega (arith, step.0, depth_of t.entries (suc before) f next) in
      same-behind (depth_at t.entries k) (suc k) (behind_place t k) f (drop (suc end) t.entries) (from_end ∙ drop_at t.entries end f at) some same
      ∙ ap (λ (n : ℕ). Some n) end_is

  -- and where it is not, there is none.
  pub next_sibling-other : (f : Entry) → slice_get t.entries end ≡ Some f → (f.depth ≡ depth_at t.entries k → ⊥)
      → first_place (sibling_places t k) ≡ None
  next_sibling-other f at other =
      other-behind (depth_at t.entries k) (suc k) (behind_place t k) f (drop (suc end) t.entries) (from_end ∙ drop_at t.entries end f at) other
