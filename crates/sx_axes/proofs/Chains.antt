-- What is beside a node or outside it is its first one, and what is so of that.
use Rattle.std.proofs.Common.{◌≡◌, ℕ, zero, suc, ◌-◌, ◌<◌, ◌≤◌, Bool, true, false, nat_lt, nat_eq, cond, List, [], ◌∷◌, length, drop, slice_get, Option, Some, None, refl, ap, sym, ◌∙◌, arith}
use Rattle.sx_axes.proofs.Numbers.{same-number}
use Rattle.sx_axes.proofs.Passing.{Leaves, walk-goes, walk-same}
use Rattle.sx_axes.specs.Axes.{at_places, ancestor_places, along}
use Rattle.sx_axes.specs.declared.node_tests.Sought.{Sought}
use Rattle.sx_axes.specs.Sought.{Keeps}
use Rattle.sx_axes.specs.Ways.{later_nodes, place_in, with_later, with_ancestors}
use Rattle.sx_tree.specs.declared.nodes.Node.{Node}
use Rattle.sx_tree.specs.declared.nodes.Node.TheVariants as node
use Rattle.sx_tree.specs.declared.steps.Axis.TheVariants as axis
use Rattle.sx_tree.specs.Places.{Entry, Places}
use Rattle.sx_tree.specs.Seen.{node_at, parent_at, first_child_at, next_sibling_at}
use Rattle.sx_tree.specs.TreeView.{depth_at, inner, behind_place, places_that, child_places, later_siblings, sibling_places, outward, outer_places, first_place}

-- ---- lists of places

-- a place, if there is one, and what is listed from it
abbrev pub rest_of : (Places → ℕ → List ℕ) → Places → Option ℕ → List ℕ
rest_of next t None = []
rest_of next t (Some k) = k ∷ next t k

-- it is at least j and below n, if there is one
abbrev pub Lies : Option ℕ → ℕ → ℕ → Type 0
Lies None j n = Unit {0}
Lies (Some k) j n = (j ≤ k) × (k < n)

-- the first of these is at least j and below n, and the others are what is listed from it
pub record Walks (next : Places → ℕ → List ℕ) (t : Places) (ks : List ℕ) (j n : ℕ) : Type 0 where
  pub listed : ks ≡ rest_of next t (first_place ks)
  pub lies : Lies (first_place ks) j n

-- what lies between two numbers lies between such as are further apart
lies_within : (o : Option ℕ) (j n i m : ℕ) → i ≤ j → n ≤ m → Lies o j n → Lies o i m
lies_within None j n i m low high lies = tt
lies_within (Some k) j n i m low high lies = (omega (arith, low, lies), omega (arith, high, lies))

-- ---- the nodes from a place on

-- what begins with an entry has it at its place
pub record Begins (es : List Entry) (j : ℕ) (e : Entry) (rest : List Entry) : Type 0 where
  pub entry : slice_get es j ≡ Some e
  pub depth : depth_at es j ≡ e.depth
  pub behind : drop (suc j) es ≡ rest
  pub within : j < length es

pub begins : (es : List Entry) (j : ℕ) (e : Entry) (rest : List Entry) → drop j es ≡ e ∷ rest → Begins es j e rest
begins [] zero e rest is = absurd (cc)
begins [] (suc j) e rest is = absurd (cc)
begins (x ∷ xs) zero e rest is =
    let here : x ≡ e = cc in
    record { entry = ap Some here; depth = ap (λ (y : Entry). y.depth) here; behind = cc; within = omega arith }
begins (x ∷ xs) (suc j) e rest is =
    let there = begins xs j e rest is in
    record { entry = there.entry; depth = there.depth; behind = there.behind; within = omega (arith, there.within) }

-- ---- beside

-- siblings at this depth are those behind the first of them
siblings_behind : (t : Places) (d j : ℕ) (e : Entry) (es : List Entry) → Begins t.entries j e es → e.depth ≡ suc d
    → later_siblings (suc d) (suc j) es ≡ sibling_places t j
siblings_behind t d j e es at deep =
    let is : depth_at t.entries j ≡ suc d = at.depth ∙ deep in
    ap (λ (fs : List Entry). later_siblings (suc d) (suc j) fs) (sym at.behind)
    ∙ ap (λ (c : ℕ). later_siblings c (suc j) (behind_place t j)) (sym is)

-- one more in front, if it is a sibling
walks-sibling : (t : Places) (same : Bool) (d j : ℕ) (es : List Entry) → j < length t.entries
    → (same ≡ true → later_siblings (suc d) (suc j) es ≡ sibling_places t j)
    → Walks sibling_places t (later_siblings (suc d) (suc j) es) (suc j) (length t.entries)
    → Walks sibling_places t (cond same (j ∷ later_siblings (suc d) (suc j) es) (later_siblings (suc d) (suc j) es)) j (length t.entries)
walks-sibling t true d j es within here later =
    record { listed = ap (λ (ks : List ℕ). j ∷ ks) (here refl); lies = (omega arith, within) }
walks-sibling t false d j es within here later = record {
  listed = later.listed;
  lies = lies_within (first_place (later_siblings (suc d) (suc j) es)) (suc j) (length t.entries) j (length t.entries)
      (omega arith) (omega arith) later.lies;
}

-- none, where what follows is not deep enough
walks-deeper : (t : Places) (deeper : Bool) (d j : ℕ) (e : Entry) (es : List Entry)
    → Walks sibling_places t (places_that (λ e. nat_eq e.depth (suc d)) j (e ∷ inner d es)) j (length t.entries)
    → Walks sibling_places t (places_that (λ e. nat_eq e.depth (suc d)) j (cond deeper (e ∷ inner d es) [])) j (length t.entries)
walks-deeper t true d j e es walks = walks
walks-deeper t false d j e es walks = record { listed = refl; lies = tt }

-- siblings from a place on
walks-later : (t : Places) (d j : ℕ) (es : List Entry) → drop j t.entries ≡ es
    → Walks sibling_places t (later_siblings (suc d) j es) j (length t.entries)
walks-later t d j [] is = record { listed = refl; lies = tt }
walks-later t d j (e ∷ es) is =
    let at = begins t.entries j e es is in
    walks-deeper t (nat_lt d e.depth) d j e es
    (walks-sibling t (nat_eq e.depth (suc d)) d j es at.within
    (λ same. siblings_behind t d j e es at (same-number e.depth (suc d) same)) (walks-later t d (suc j) es at.behind))

-- the children of a node
pub walks-children : (t : Places) (k : ℕ) → Walks sibling_places t (child_places t k) (suc k) (length t.entries)
walks-children t k = walks-later t (depth_at t.entries k) (suc k) (behind_place t k) refl

-- siblings at any depth
walks-siblings_at : (t : Places) (d k : ℕ) → Walks sibling_places t (later_siblings d (suc k) (behind_place t k)) (suc k) (length t.entries)
walks-siblings_at t zero k = record { listed = refl; lies = tt }
walks-siblings_at t (suc d) k = walks-later t d (suc k) (behind_place t k) refl

-- the siblings behind a node
pub walks-siblings : (t : Places) (k : ℕ) → Walks sibling_places t (sibling_places t k) (suc k) (length t.entries)
walks-siblings t k = walks-siblings_at t (depth_at t.entries k) k

-- ---- outside

-- one more in front, if it is less deep
walks-outer_step : (t : Places) (less : Bool) (d k : ℕ) → Walks outer_places t (outward t.entries d k) 0 k
    → Walks outer_places t (cond less (k ∷ outward t.entries (depth_at t.entries k) k) (outward t.entries d k)) 0 (suc k)
walks-outer_step t true d k walks = record { listed = refl; lies = (omega arith, omega arith) }
walks-outer_step t false d k walks = record {
  listed = walks.listed;
  lies = lies_within (first_place (outward t.entries d k)) 0 k 0 (suc k) (omega arith) (omega arith) walks.lies;
}

-- the places outside are the first and what it stands in
walks-outward : (t : Places) (d k : ℕ) → Walks outer_places t (outward t.entries d k) 0 k
walks-outward t d zero = record { listed = refl; lies = tt }
walks-outward t d (suc k) = walks-outer_step t (nat_lt (depth_at t.entries k) d) d k (walks-outward t d k)

-- what a node stands in
pub walks-outer : (t : Places) (k : ℕ) → Walks outer_places t (outer_places t k) 0 k
walks-outer t k = walks-outward t (depth_at t.entries k) k

-- ---- nodes

-- how far a place, if there is one, is from the last
abbrev pub ahead_of : Places → Option ℕ → ℕ
ahead_of t None = 0
ahead_of t (Some k) = suc (length t.entries - k)

-- how far a node, if there is one, is from the last
abbrev pub ahead : Places → Option Node → ℕ
ahead t None = 0
ahead t (Some (node.At k)) = suc (length t.entries - k)
ahead t (Some (node.Attr k i)) = 1

-- how far a node, if there is one, is from the first; an attribute is behind its element
abbrev pub back : Option Node → ℕ
back None = 0
back (Some (node.At k)) = suc k
back (Some (node.Attr k i)) = suc (suc k)

-- places, as nodes
nodes-walk : (t : Places) (o : Option ℕ) → at_places (rest_of sibling_places t o) ≡ with_later t (node_at o)
nodes-walk t None = refl
nodes-walk t (Some k) = refl

-- so are those of an ancestor and its ancestors
nodes-outer : (t : Places) (o : Option ℕ) → at_places (rest_of outer_places t o) ≡ with_ancestors t (node_at o)
nodes-outer t None = refl
nodes-outer t (Some k) = refl

-- the place of the node at a place, if there is one
pub place_in-at : (o : Option ℕ) → place_in (node_at o) ≡ o
place_in-at None = refl
place_in-at (Some k) = refl

-- the children are the first child and the siblings behind it
pub children-walk : (t : Places) (n : Node) → along t axis.Child n ≡ with_later t (first_child_at t n)
children-walk t (node.At k) = ap at_places ((walks-children t k).listed) ∙ nodes-walk t (first_place (child_places t k))
children-walk t (node.Attr k i) = refl

-- the siblings behind a node are the next one and those behind it
pub later-walk : (t : Places) (n : Node) → later_nodes t n ≡ with_later t (next_sibling_at t n)
later-walk t (node.At k) = ap at_places ((walks-siblings t k).listed) ∙ nodes-walk t (first_place (sibling_places t k))
later-walk t (node.Attr k i) = refl

-- a place behind is nearer to the last
pub ahead-place : (t : Places) (o : Option ℕ) (k : ℕ) → Lies o (suc k) (length t.entries) → ahead_of t o < ahead_of t (Some k)
ahead-place t None k lies = omega arith
ahead-place t (Some m) k lies = omega (arith, lies)

-- so is it as a node
ahead-next : (t : Places) (o : Option ℕ) (k : ℕ) → Lies o (suc k) (length t.entries) → ahead t (node_at o) < suc (length t.entries - k)
ahead-next t None k lies = omega arith
ahead-next t (Some m) k lies = omega (arith, lies)

-- so the next sibling is nearer to the last
pub later-ahead : (t : Places) (n : Node) → ahead t (next_sibling_at t n) < ahead t (Some n)
later-ahead t (node.At k) = ahead-next t (first_place (sibling_places t k)) k ((walks-siblings t k).lies)
later-ahead t (node.Attr k i) = omega arith

-- the ancestors are the parent and its ancestors
pub ancestors-walk : (t : Places) (n : Node) → at_places (ancestor_places t n) ≡ with_ancestors t (parent_at t n)
ancestors-walk t (node.At k) = ap at_places ((walks-outer t k).listed) ∙ nodes-outer t (first_place (outer_places t k))
ancestors-walk t (node.Attr k i) = refl

-- the parent is nearer to the first
back-parent : (o : Option ℕ) (k : ℕ) → Lies o 0 k → back (node_at o) < suc k
back-parent None k lies = omega arith
back-parent (Some m) k lies = omega (arith, lies)

-- so is it of any node
pub parent-back : (t : Places) (n : Node) → back (parent_at t n) < back (Some n)
parent-back t (node.At k) = back-parent (first_place (outer_places t k)) k ((walks-outer t k).lies)
parent-back t (node.Attr k i) = omega arith

-- ---- walks over them

module _ (s : Sought) (t : Places) (all old out new : List Node) where
  -- a node is met, and then the next sibling
  pub later-goes : (n : Node) (next : Option Node) → Leaves s t all old out (with_later t (Some n)) → Keeps s t (n ∷ []) out new
      → next ≡ next_sibling_at t n → Leaves s t all old new (with_later t next)
  later-goes n next left keeps is =
      walk-same s t all old new (later_nodes t n) (with_later t next) (ap (with_later t) is ∙ sym (later-walk t n))
      (walk-goes s t all old out new n (later_nodes t n) left keeps)

  -- a node is met, and then its parent
  pub ancestors-go : (n : Node) (next : Option Node) → Leaves s t all old out (with_ancestors t (Some n)) → Keeps s t (n ∷ []) out new
      → next ≡ parent_at t n → Leaves s t all old new (with_ancestors t next)
  ancestors-go n next left keeps is =
      walk-same s t all old new (at_places (ancestor_places t n)) (with_ancestors t next)
      (ap (with_ancestors t) is ∙ sym (ancestors-walk t n))
      (walk-goes s t all old out new n (at_places (ancestor_places t n)) left keeps)
