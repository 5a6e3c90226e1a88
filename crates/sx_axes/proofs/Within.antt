-- The places that axes list are places of the tree, and their nodes nodes of the tree.
use Rattle.std.proofs.Common.{ℕ, zero, suc, ◌+◌, ◌<◌, ◌≤◌, Bool, true, false, nat_lt, cond, List, [], ◌∷◌, length, map, length-drop, arith}
use Rattle.std.proofs.lemmas.List.{length-map}
use Rattle.sx_axes.specs.Axes.{at_places, attribute_nodes, attributes, as_list}
use Rattle.sx_tree.specs.declared.events.Label.{Label}
use Rattle.sx_tree.specs.declared.nodes.Node.{Node}
use Rattle.sx_tree.specs.Places.{Entry, Places}
use Rattle.sx_tree.specs.TreeView.{IsNode, depth_at, inner, inside, behind_place, places_that, child_places, inside_places, outward, outer_places, first_place, attributes_at}

-- each place is below this
abbrev pub AllBelow : ℕ → List ℕ → Type 0
AllBelow n [] = Unit {0}
AllBelow n (k ∷ ks) = (k < n) × AllBelow n ks

-- each is a node of the tree
abbrev pub AllNodes : Places → List Node → Type 0
AllNodes t [] = Unit {0}
AllNodes t (n ∷ ns) = IsNode t n × AllNodes t ns

-- places of the tree have nodes of the tree
pub nodes_at : (t : Places) (ks : List ℕ) → AllBelow (length t.entries) ks → AllNodes t (at_places ks)
nodes_at t [] below = tt
nodes_at t (k ∷ ks) below = (below.0, nodes_at t ks below.1)

-- ---- inward

-- one more, if it is taken
below-next : (b : Bool) (n k : ℕ) (ks : List ℕ) → k < n → AllBelow n ks → AllBelow n (cond b (k ∷ ks) ks)
below-next true n k ks within below = (within, below)
below-next false n k ks within below = below

-- places that pass are those of the list
below-places_that : (passes : Entry → Bool) (n k : ℕ) (es : List Entry) → k + length es ≤ n → AllBelow n (places_that passes k es)
below-places_that passes n k [] within = tt
below-places_that passes n k (e ∷ es) within =
    below-next (passes e) n k (places_that passes (suc k) es) (omega (arith, within)) (below-places_that passes n (suc k) es (omega (arith, within)))

-- one more, if it is taken
length-cond : (b : Bool) (e : Entry) (es : List Entry) (n : ℕ) → length es ≤ n → length (cond b (e ∷ es) []) ≤ suc n
length-cond true e es n most = omega (arith, most)
length-cond false e es n most = omega arith

-- a front is no longer than the list
length-inner : (d : ℕ) (es : List Entry) → length (inner d es) ≤ length es
length-inner d [] = omega arith
length-inner d (e ∷ es) = length-cond (nat_lt d e.depth) e (inner d es) (length es) (length-inner d es)

module _ (t : Places) (k : ℕ) (within : k < length t.entries) where
  -- what is in a node are nodes of the tree
  length-inside : suc k + length (inside t k) ≤ length t.entries
  length-inside =
      let most = length-inner (depth_at t.entries k) (behind_place t k) in
      let size = length-drop (suc k) t.entries in
      omega (arith, within, most, size)

  -- so its children are
  pub below-children : AllBelow (length t.entries) (child_places t k)
  below-children = below-places_that _ (length t.entries) (suc k) (inside t k) length-inside

  -- and its descendants
  pub below-inside : AllBelow (length t.entries) (inside_places t k)
  below-inside = below-places_that (λ e. true) (length t.entries) (suc k) (inside t k) length-inside

-- ---- outward

-- what is met going back is below where it began
pub below-outward : (n : ℕ) (es : List Entry) (d k : ℕ) → k ≤ n → AllBelow n (outward es d k)
below-outward n es d zero within = tt
below-outward n es d (suc k) within =
    outward-next (nat_lt (depth_at es k) d) (outward es (depth_at es k) k) (outward es d k)
    (below-outward n es (depth_at es k) k (omega (arith, within))) (below-outward n es d k (omega (arith, within)))
  where
    -- one more, if it is less deep
    outward-next : (b : Bool) (ks js : List ℕ) → AllBelow n ks → AllBelow n js → AllBelow n (cond b (k ∷ ks) js)
    outward-next true ks js below other = (omega (arith, within), below)
    outward-next false ks js below other = other

-- what a node stands in is in the tree
pub below-outer : (t : Places) (k : ℕ) → k < length t.entries → AllBelow (length t.entries) (outer_places t k)
below-outer t k within = below-outward (length t.entries) t.entries (depth_at t.entries k) k (omega (arith, within))

-- the first of places of the tree
pub below-first : (n : ℕ) (ks : List ℕ) → AllBelow n ks → AllBelow n (as_list (first_place ks))
below-first n [] below = tt
below-first n (k ∷ ks) below = (below.0, tt)

-- ---- attributes

-- attributes by their numbers, from one on
nodes-attributes_from : (t : Places) (k i : ℕ) (ls : List Label) → k < length t.entries → i + length ls ≤ length (attributes_at t k)
    → AllNodes t (attribute_nodes k i ls)
nodes-attributes_from t k i [] within most = tt
nodes-attributes_from t k i (l ∷ ls) within most =
    ((within, omega (arith, most)), nodes-attributes_from t k (suc i) ls within (omega (arith, most)))

-- the attributes of an element are nodes of the tree
pub nodes-attributes : (t : Places) (k : ℕ) → k < length t.entries → AllNodes t (attributes t k)
nodes-attributes t k within =
    let size = length-map (attributes_at t k) (λ a. a.label) in
    nodes-attributes_from t k 0 (map (λ a. a.label) (attributes_at t k)) within (omega (arith, size))
