-- What more events do to the axes that go in or out.
use Rattle.std.proofs.Common.{◌≡◌, ℕ, zero, suc, ◌<◌, ◌≤◌, Bool, true, false, ◌||◌, nat_lt, nat_eq, cond, List, [], ◌∷◌, ◌++◌, length, map, slice_get, Option, Some, None, refl, ap, ap₂, sym, ◌∙◌, subst, append-nil, arith}
use Rattle.std.specs.Option.{option_map_or}
use Rattle.sx_axes.specs.Axes.{at_places, attributes, attribute_nodes, as_list, ancestor_places, along, any_open, listed_from, end_along, passes, passing, Along, axis_from}
use Rattle.sx_axes.specs.declared.ends.SelEnd.{SelEnd}
use Rattle.sx_axes.specs.declared.ends.SelEnd.TheVariants as end
use Rattle.sx_axes.specs.Growth.{goes_in_or_out, Continues}
use Rattle.sx_axes.proofs.Passing.{passing-append}
use Rattle.sx_axes.proofs.Within.{AllBelow, AllNodes, nodes_at, below-children, below-inside, below-outer, below-first, nodes-attributes}
use Rattle.sx_names.specs.Numbering.{NameTable}
use Rattle.sx_tree.specs.declared.events.Attr.{Attr}
use Rattle.sx_tree.specs.declared.nodes.Node.{Node}
use Rattle.sx_tree.specs.declared.nodes.Node.TheVariants as node
use Rattle.sx_tree.specs.declared.steps.Axis.{Axis}
use Rattle.sx_tree.specs.declared.steps.Axis.TheVariants as axis
use Rattle.sx_tree.specs.declared.steps.NodeTest.{NodeTest}
use Rattle.sx_tree.specs.Places.{Content, attribute, Entry, Places}
use Rattle.sx_tree.specs.TreeView.{IsNode, depth_at, inside, places_that, child_places, inside_places, outward, outer_places, first_place, is_open_place, attributes_of, attributes_at, content_at}
use Rattle.sx_tree.proofs.Extending.{Extends, slice_get-append, entry-same, depth-same, inside-more, inside-same, closed-same}

-- ---- lists

-- one more in front, if it passes
that-first : (b : Bool) (k : ℕ) (ks js more : List ℕ) → js ≡ ks ++ more → cond b (k ∷ js) js ≡ cond b (k ∷ ks) ks ++ more
that-first true k ks js more is = ap (λ (l : List ℕ). k ∷ l) is
that-first false k ks js more is = is

-- of a longer list, the same pass first
places_that-append : (test : Entry → Bool) (k : ℕ) (es fs : List Entry)
    → (more : List ℕ) × (places_that test k (es ++ fs) ≡ places_that test k es ++ more)
places_that-append test k [] fs = (places_that test k fs, refl)
places_that-append test k (e ∷ es) fs =
    let (more, is) = places_that-append test (suc k) es fs in
    (more, that-first (test e) k (places_that test (suc k) es) (places_that test (suc k) (es ++ fs)) more is)

-- the nodes at places in two parts
at_places-append : (ks js : List ℕ) → at_places (ks ++ js) ≡ at_places ks ++ at_places js
at_places-append [] js = refl
at_places-append (k ∷ ks) js = ap (λ (l : List Node). node.At k ∷ l) (at_places-append ks js)

-- what comes behind changes nothing on the way back
outward-same : (es fs : List Entry) (d k : ℕ) → k ≤ length es → outward (es ++ fs) d k ≡ outward es d k
outward-same es fs d zero within = refl
outward-same es fs d (suc k) within =
    let same : depth_at (es ++ fs) k ≡ depth_at es k =
    ap (λ (o : Option Entry). option_map_or (λ e. e.depth) o 0) (slice_get-append es fs k (omega (arith, within))) in
    ap (λ (n : ℕ). cond (nat_lt n d) (k ∷ outward (es ++ fs) n k) (outward (es ++ fs) d k)) same
    ∙ ap₂ (λ (ks js : List ℕ). cond (nat_lt (depth_at es k) d) (k ∷ ks) js)
    (outward-same es fs (depth_at es k) k (omega (arith, within))) (outward-same es fs d k (omega (arith, within)))

-- ---- one node

module _ (t u : Places) (x : Extends t u) where
  -- the attributes of a node stay
  attributes_at-same : (k : ℕ) → k < length t.entries → attributes_at u k ≡ attributes_at t k
  attributes_at-same k within =
      ap (λ (o : Option Entry). option_map_or (λ e. attributes_of e.content) o []) (entry-same t u x k within)

  -- a node stays what it is
  content_at-same : (n : Node) → IsNode t n → content_at u n ≡ content_at t n
  content_at-same (node.At k) is = ap (λ (o : Option Entry). option_map_or (λ e. Some e.content) o None) (entry-same t u x k is)
  content_at-same (node.Attr k i) is =
      ap (λ (as' : List Attr). option_map_or (λ a. Some (attribute a)) (slice_get as' i) None) (attributes_at-same k is.0)

  -- what a node stands in stays
  outer-same : (k : ℕ) → k < length t.entries → outer_places u k ≡ outer_places t k
  outer-same k within =
      ap₂ (λ (es : List Entry) (d : ℕ). outward es d k) x.entries (depth-same t u x k within)
      ∙ outward-same t.entries x.more (depth_at t.entries k) k (omega (arith, within))

  -- so do its attributes as nodes
  attributes-same : (k : ℕ) → k < length t.entries → attributes u k ≡ attributes t k
  attributes-same k within = ap (λ (as' : List Attr). attribute_nodes k 0 (map (λ a. a.label) as')) (attributes_at-same k within)

  -- ---- what passes

  module _ (names : NameTable) (a : Axis) (test : NodeTest) where
    -- the same nodes pass on both trees
    passing-same : (ns : List Node) → AllNodes t ns → passing names u a test ns ≡ passing names t a test ns
    passing-same [] are = refl
    passing-same (n ∷ ns) are =
        ap₂ (λ (o : Option Content) (ms : List Node). cond (option_map_or (passes names a test) o false) (n ∷ ms) ms)
        (content_at-same n are.0) (passing-same ns are.1)

  -- ---- an axis

  -- The nodes of the axis are nodes of the first tree and come first on the second; where none is open whose children are
  -- listed, they are the same, and listed from the same.
  record Goes (a : Axis) (n : Node) : Type 0 where
    more : List Node
    front : along u a n ≡ along t a n ++ more
    nodes : AllNodes t (along t a n)
    below : AllBelow (length t.entries) (listed_from t a n)
    same : any_open t (listed_from t a n) ≡ false → along u a n ≡ along t a n
    listed : any_open t (listed_from t a n) ≡ false → listed_from u a n ≡ listed_from t a n

  -- an axis that lists no children
  goes-still : (a : Axis) (n : Node) → along u a n ≡ along t a n → AllNodes t (along t a n) → listed_from t a n ≡ []
      → listed_from u a n ≡ [] → Goes a n
  goes-still a n same nodes old_none new_none = record {
    more = [];
    front = same ∙ sym (append-nil (along t a n));
    nodes = nodes;
    below = subst (λ (ks : List ℕ). AllBelow (length t.entries) ks) (sym old_none) tt;
    same = λ _. same;
    listed = λ _. new_none ∙ sym old_none;
  }

  -- neither is so where not one of two is: not the first
  or-first : (b c : Bool) → (b || c) ≡ false → b ≡ false
  or-first true c is = absurd (cc)
  or-first false c is = refl

  -- nor the second
  or-second : (b c : Bool) → (b || c) ≡ false → c ≡ false
  or-second true c is = absurd (cc)
  or-second false c is = is

  -- the children
  goes-child : (k : ℕ) → k < length t.entries → Goes axis.Child (node.At k)
  goes-child k within =
      let (rest, goes) = inside-more t u x k within in
      let now : child_places u k ≡ places_that (λ e. nat_eq e.depth (suc (depth_at t.entries k))) (suc k) (inside u k) =
      ap (λ (d : ℕ). places_that (λ e. nat_eq e.depth (suc d)) (suc k) (inside u k)) (depth-same t u x k within) in
      let (more, is) = places_that-append (λ e. nat_eq e.depth (suc (depth_at t.entries k))) (suc k) (inside t k) rest in
      record {
        more = at_places more;
        front = ap at_places (now ∙ ap (λ (es : List Entry). places_that (λ e. nat_eq e.depth (suc (depth_at t.entries k))) (suc k) es) goes ∙ is)
            ∙ at_places-append (child_places t k) more;
        nodes = nodes_at t (child_places t k) (below-children t k within);
        below = (within, tt);
        same = λ shut. ap at_places
            (now ∙ ap (λ (es : List Entry). places_that (λ e. nat_eq e.depth (suc (depth_at t.entries k))) (suc k) es)
            (inside-same t u x k within (or-first (is_open_place t k) false shut)));
        listed = λ _. refl;
      }

  -- what is in a node, on both trees
  inside_places-more : (k : ℕ) → k < length t.entries → (more : List ℕ) × (inside_places u k ≡ inside_places t k ++ more)
  inside_places-more k within =
      let (rest, goes) = inside-more t u x k within in
      let (more, is) = places_that-append (λ e. true) (suc k) (inside t k) rest in
      (more, ap (λ (es : List Entry). places_that (λ e. true) (suc k) es) goes ∙ is)

  -- and where the node has ended, it is the same
  inside_places-same : (k : ℕ) → k < length t.entries → any_open t (k ∷ inside_places t k) ≡ false
      → inside_places u k ≡ inside_places t k
  inside_places-same k within shut =
      ap (λ (es : List Entry). places_that (λ e. true) (suc k) es)
      (inside-same t u x k within (or-first (is_open_place t k) (any_open t (inside_places t k)) shut))

  -- the descendants
  goes-descendant : (k : ℕ) → k < length t.entries → Goes axis.Descendant (node.At k)
  goes-descendant k within =
      let (more, is) = inside_places-more k within in
      record {
        more = at_places more;
        front = ap at_places is ∙ at_places-append (inside_places t k) more;
        nodes = nodes_at t (inside_places t k) (below-inside t k within);
        below = (within, below-inside t k within);
        same = λ shut. ap at_places (inside_places-same k within shut);
        listed = λ shut. ap (λ (ks : List ℕ). k ∷ ks) (inside_places-same k within shut);
      }

  -- the node and its descendants
  goes-or_self : (k : ℕ) → k < length t.entries → Goes axis.DescendantOrSelf (node.At k)
  goes-or_self k within =
      let goes = goes-descendant k within in
      record {
        more = goes.more;
        front = ap (λ (ns : List Node). node.At k ∷ ns) goes.front;
        nodes = (within, goes.nodes);
        below = goes.below;
        same = λ shut. ap (λ (ns : List Node). node.At k ∷ ns) (goes.same shut);
        listed = goes.listed;
      }

  -- the parent and the ancestors stay
  goes-parent : (n : Node) → IsNode t n → Goes axis.Parent n
  goes-parent (node.At k) is =
      goes-still axis.Parent (node.At k) (ap (λ (ks : List ℕ). at_places (as_list (first_place ks))) (outer-same k is))
      (nodes_at t (as_list (first_place (outer_places t k))) (below-first (length t.entries) (outer_places t k) (below-outer t k is))) refl refl
  goes-parent (node.Attr k i) is = goes-still axis.Parent (node.Attr k i) refl (is.0, tt) refl refl

  -- the ancestors of a node stay
  ancestors-same : (n : Node) → IsNode t n → ancestor_places u n ≡ ancestor_places t n
  ancestors-same (node.At k) is = outer-same k is
  ancestors-same (node.Attr k i) is = ap (λ (ks : List ℕ). k ∷ ks) (outer-same k is.0)

  -- and are nodes of the tree
  ancestors-nodes : (n : Node) → IsNode t n → AllNodes t (at_places (ancestor_places t n))
  ancestors-nodes (node.At k) is = nodes_at t (outer_places t k) (below-outer t k is)
  ancestors-nodes (node.Attr k i) is = (is.0, nodes_at t (outer_places t k) (below-outer t k is.0))

  -- each axis that goes in or out
  goes : (a : Axis) (n : Node) → IsNode t n → goes_in_or_out a ≡ true → Goes a n
  goes axis.SelfNode n is in_or_out = goes-still axis.SelfNode n refl (is, tt) refl refl
  goes axis.Child (node.At k) is in_or_out = goes-child k is
  goes axis.Child (node.Attr k i) is in_or_out = goes-still axis.Child (node.Attr k i) refl tt refl refl
  goes axis.Descendant (node.At k) is in_or_out = goes-descendant k is
  goes axis.Descendant (node.Attr k i) is in_or_out = goes-still axis.Descendant (node.Attr k i) refl tt refl refl
  goes axis.DescendantOrSelf (node.At k) is in_or_out = goes-or_self k is
  goes axis.DescendantOrSelf (node.Attr k i) is in_or_out = goes-still axis.DescendantOrSelf (node.Attr k i) refl (is, tt) refl refl
  goes axis.Attribute (node.At k) is in_or_out =
      goes-still axis.Attribute (node.At k) (attributes-same k is) (nodes-attributes t k is) refl refl
  goes axis.Attribute (node.Attr k i) is in_or_out = goes-still axis.Attribute (node.Attr k i) refl tt refl refl
  goes axis.Parent n is in_or_out = goes-parent n is
  goes axis.Ancestor n is in_or_out =
      goes-still axis.Ancestor n (ap at_places (ancestors-same n is)) (ancestors-nodes n is) refl refl
  goes axis.AncestorOrSelf n is in_or_out =
      goes-still axis.AncestorOrSelf n (ap (λ (ks : List ℕ). n ∷ at_places ks) (ancestors-same n is)) (is, ancestors-nodes n is) refl refl
  goes axis.Following n is in_or_out = absurd (cc)
  goes axis.FollowingSibling n is in_or_out = absurd (cc)
  goes axis.Preceding n is in_or_out = absurd (cc)
  goes axis.PrecedingSibling n is in_or_out = absurd (cc)

  -- ---- the end

  -- where none of these is open, none is on more events
  any_open-same : (ks : List ℕ) → AllBelow (length t.entries) ks → any_open t ks ≡ false → any_open u ks ≡ false
  any_open-same [] below shut = refl
  any_open-same (k ∷ ks) below shut =
      ap₂ (λ (b c : Bool). b || c)
      (closed-same t u x k below.0 (or-first (is_open_place t k) (any_open t ks) shut))
      (any_open-same ks below.1 (or-second (is_open_place t k) (any_open t ks) shut))

  -- an end is Done only where none is open
  is_done : (b : Bool) → (let e : SelEnd = cond b end.Open end.Done in e) ≡ end.Done → b ≡ false
  is_done true is = absurd (cc)
  is_done false is = refl

  -- the same nodes with the same end are the same
  same_along : (ms ns : List Node) (d e : SelEnd) → ms ≡ ns → d ≡ e
      → (let r : Along = record { nodes = ms; end = d } in r) ≡ record { nodes = ns; end = e }
  same_along ms ns d e are is = ap₂ (λ (ms : List Node) (d : SelEnd). let r : Along = record { nodes = ms; end = d } in r) are is

  -- what passes of such an axis
  continues-by : (names : NameTable) (a : Axis) (test : NodeTest) (n : Node) → Goes a n
      → Continues (axis_from names t a test n) (axis_from names u a test n)
  continues-by names a test n goes = record {
    more = passing names u a test goes.more;
    front = ap (λ (ns : List Node). passing names u a test ns) goes.front
        ∙ passing-append names u a test (along t a n) goes.more
        ∙ ap (λ (ns : List Node). ns ++ passing names u a test goes.more) (passing-same names a test (along t a n) goes.nodes);
    done = λ is.
        let shut = is_done (any_open t (listed_from t a n)) is in
        same_along (passing names u a test (along u a n)) (passing names t a test (along t a n)) (end_along u a n) (end_along t a n)
        (ap (λ (ns : List Node). passing names u a test ns) (goes.same shut) ∙ passing-same names a test (along t a n) goes.nodes)
        (ap (λ (b : Bool). let e : SelEnd = cond b end.Open end.Done in e)
        (ap (λ (ks : List ℕ). any_open u ks) (goes.listed shut) ∙ any_open-same (listed_from t a n) goes.below shut ∙ sym shut));
  }

  -- On a tree of more events, an axis that goes in or out gives the same, and behind it more.
  pub continues : (names : NameTable) (a : Axis) (test : NodeTest) (n : Node) → IsNode t n → goes_in_or_out a ≡ true
      → Continues (axis_from names t a test n) (axis_from names u a test n)
  continues names a test n is in_or_out = continues-by names a test n (goes a n is in_or_out)
