-- Which of the nodes whose children an axis lists are open.
use Rattle.std.proofs.Common.{◌≡◌, ℕ, suc, ◌<◌, ◌≤◌, Bool, true, false, ◌||◌, ◌&&◌, nat_lt, cond, List, [], ◌∷◌, length, drop, Option, Some, None, ◌⊎◌, inl, inr, refl, ap, sym, ◌∙◌, arith}
use Rattle.std.proofs.lemmas.Bool.Decides.{nat_tests}
use Rattle.std.proofs.lemmas.List.{drop_all}
use Rattle.sx_axes.proofs.Chains.{Begins, begins, rest_of, walks-outer}
use Rattle.sx_axes.proofs.Numbers.{is-less, less-of}
use Rattle.sx_axes.specs.Axes.{ancestor_places, any_open, listed_from}
use Rattle.sx_tree.specs.declared.nodes.Node.{Node}
use Rattle.sx_tree.specs.declared.nodes.Node.TheVariants as node
use Rattle.sx_tree.specs.declared.steps.Axis.{Axis}
use Rattle.sx_tree.specs.declared.steps.Axis.TheVariants as axis
use Rattle.sx_tree.specs.Places.{Entry, Places}
use Rattle.sx_tree.specs.Seen.{node_at, parent_at}
use Rattle.sx_tree.specs.TreeView.{depth_at, inner, all_deeper, behind_place, places_that, inside_places, outer_places, first_place, is_open_place, is_open_node}

-- ---- outside

-- a node, if there is one, or an ancestor of it is open
abbrev pub any_open_with : Places → Option Node → Bool
any_open_with t None = false
any_open_with t (Some n) = is_open_node t n || any_open t (ancestor_places t n)

-- a place, if there is one, and what it stands in, as nodes
open-outer : (t : Places) (o : Option ℕ) → any_open t (rest_of outer_places t o) ≡ any_open_with t (node_at o)
open-outer t None = refl
open-outer t (Some k) = refl

-- an ancestor is open where the parent or one of its ancestors is
pub open-ancestors : (t : Places) (n : Node) → any_open t (ancestor_places t n) ≡ any_open_with t (parent_at t n)
open-ancestors t (node.At k) = ap (any_open t) ((walks-outer t k).listed) ∙ open-outer t (first_place (outer_places t k))
open-ancestors t (node.Attr k i) = refl

-- where the node that is met is open, one is
pub open-found : (t : Places) (n : Node) → is_open_node t n ≡ true → any_open_with t (Some n) ≡ true
open-found t n is = ap (λ (b : Bool). b || any_open t (ancestor_places t n)) is

-- otherwise the parent is met
pub open-goes : (t : Places) (n : Node) (next : Option Node) → is_open_node t n ≡ false → next ≡ parent_at t n
    → any_open_with t next ≡ any_open_with t (Some n)
open-goes t n next shut is =
    ap (any_open_with t) is ∙ sym (open-ancestors t n) ∙ sym (ap (λ (b : Bool). b || any_open t (ancestor_places t n)) shut)

-- ---- inside

-- both are so
both-first : (b c : Bool) → (b && c) ≡ true → b ≡ true
both-first true c is = refl
both-first false c is = absurd (cc)

-- and so is the second
both-second : (b c : Bool) → (b && c) ≡ true → c ≡ true
both-second true c is = is
both-second false c is = absurd (cc)

-- what is deeper than something is deeper than what is less deep
deeper-less_step : (b : Bool) (d f : ℕ) (e : Entry) (es : List Entry) → d < f → nat_lt f e.depth ≡ b
    → cond b (all_deeper f es) false ≡ true
    → (all_deeper f es ≡ true → all_deeper d es ≡ true) → cond (nat_lt d e.depth) (all_deeper d es) false ≡ true
deeper-less_step true d f e es less is all later =
    let deep : nat_lt d e.depth ≡ true = grind (arith, nat_tests) in
    ap (λ (b : Bool). cond b (all_deeper d es) false) deep ∙ later all
deeper-less_step false d f e es less is all later = absurd (cc)

-- so is a whole list
deeper-less : (d f : ℕ) (es : List Entry) → d < f → all_deeper f es ≡ true → all_deeper d es ≡ true
deeper-less d f [] less all = refl
deeper-less d f (e ∷ es) less all = deeper-less_step (nat_lt f e.depth) d f e es less refl all (deeper-less d f es less)

-- something deeper than d, from a place on, is open: then all from there on is deeper than d, and that is less than the number of open nodes
record OpenFrom (t : Places) (d : ℕ) (es : List Entry) : Type 0 where
  level : d < t.level
  all : all_deeper d es ≡ true

-- all from an open node on is deeper than what is less deep than the node
open-here : (t : Places) (d j : ℕ) (e : Entry) (es : List Entry) → Begins t.entries j e es → d < e.depth → is_open_place t j ≡ true
    → OpenFrom t d (e ∷ es)
open-here t d j e es at deeper is =
    let depth = depth_at t.entries j in
    let inner_part = both-second (nat_lt j (length t.entries)) (nat_lt depth t.level && all_deeper depth (behind_place t j)) is in
    let level = less-of depth t.level (both-first (nat_lt depth t.level) (all_deeper depth (behind_place t j)) inner_part) in
    let all = both-second (nat_lt depth t.level) (all_deeper depth (behind_place t j)) inner_part in
    let same : depth ≡ e.depth = at.depth in
    let rest : all_deeper depth es ≡ true = ap (all_deeper depth) (sym at.behind) ∙ all in
    record {
      level = omega (arith, deeper, same, level);
      all = ap (λ (b : Bool). cond b (all_deeper d es) false) (is-less d e.depth deeper)
          ∙ deeper-less d depth es (omega (arith, deeper, same)) rest;
    }

-- so is it where one of those behind it is open
open-later : (t : Places) (d : ℕ) (e : Entry) (es : List Entry) → d < e.depth → OpenFrom t d es → OpenFrom t d (e ∷ es)
open-later t d e es deeper later = record {
  level = later.level;
  all = ap (λ (b : Bool). cond b (all_deeper d es) false) (is-less d e.depth deeper) ∙ later.all;
}

-- this one or a later one is open
open-one : (b : Bool) (t : Places) (d j : ℕ) (e : Entry) (es : List Entry) → Begins t.entries j e es → d < e.depth → is_open_place t j ≡ b
    → (b || any_open t (places_that (λ e. true) (suc j) (inner d es))) ≡ true
    → (any_open t (places_that (λ e. true) (suc j) (inner d es)) ≡ true → OpenFrom t d es) → OpenFrom t d (e ∷ es)
open-one true t d j e es at deeper is any later = open-here t d j e es at deeper is
open-one false t d j e es at deeper is any later = open-later t d e es deeper (later any)

-- one of those that are deeper is open
open-deeper : (b : Bool) (t : Places) (d j : ℕ) (e : Entry) (es : List Entry) → Begins t.entries j e es → nat_lt d e.depth ≡ b
    → any_open t (places_that (λ e. true) j (cond b (e ∷ inner d es) [])) ≡ true
    → (any_open t (places_that (λ e. true) (suc j) (inner d es)) ≡ true → OpenFrom t d es) → OpenFrom t d (e ∷ es)
open-deeper true t d j e es at is any later = open-one (is_open_place t j) t d j e es at (less-of d e.depth is) refl any later
open-deeper false t d j e es at is any later = absurd (cc)

-- where something in a node is open, all behind the node is in it
open-from : (t : Places) (d j : ℕ) (es : List Entry) → drop j t.entries ≡ es → any_open t (places_that (λ e. true) j (inner d es)) ≡ true
    → OpenFrom t d es
open-from t d j [] is any = absurd (cc)
open-from t d j (e ∷ es) is any =
    let at = begins t.entries j e es is in
    open-deeper (nat_lt d e.depth) t d j e es at refl any (open-from t d (suc j) es at.behind)

-- a place with something behind it is one of the tree
within-by : (b : Bool) (t : Places) (k : ℕ) → nat_lt k (length t.entries) ≡ b → any_open t (inside_places t k) ≡ true → b ≡ true
within-by true t k is any = refl
within-by false t k is any =
    let past : length t.entries ≤ suc k = grind (arith, nat_tests) in
    let none : any_open t (inside_places t k) ≡ false =
    ap (λ (es : List Entry). any_open t (places_that (λ e. true) (suc k) (inner (depth_at t.entries k) es))) (drop_all (suc k) t.entries past) in
    sym none ∙ any

-- so the node is open
open-outside : (t : Places) (k : ℕ) → any_open t (inside_places t k) ≡ true → is_open_place t k ≡ true
open-outside t k any =
    let from = open-from t (depth_at t.entries k) (suc k) (behind_place t k) refl any in
    let within = within-by (nat_lt k (length t.entries)) t k refl any in
    let level = is-less (depth_at t.entries k) t.level from.level in
    ap (λ (b : Bool). b && (nat_lt (depth_at t.entries k) t.level && all_deeper (depth_at t.entries k) (behind_place t k))) within
    ∙ ap (λ (b : Bool). b && all_deeper (depth_at t.entries k) (behind_place t k)) level
    ∙ from.all

-- one that holds only where another does adds nothing to it
or-by : (b c : Bool) → (c ≡ true → b ≡ true) → (b || c) ≡ b
or-by true c so = refl
or-by false true so = sym (so refl)
or-by false false so = refl

-- a node or something in it is open where the node is
pub open-inside : (t : Places) (k : ℕ) → any_open t (k ∷ inside_places t k) ≡ is_open_place t k
open-inside t k = or-by (is_open_place t k) (any_open t (inside_places t k)) (open-outside t k)

-- nor does one that never holds
or-false : (b : Bool) → b ≡ (b || false)
or-false true = refl
or-false false = refl

-- for the children
open-child : (t : Places) (n : Node) → is_open_node t n ≡ any_open t (listed_from t axis.Child n)
open-child t (node.At k) = or-false (is_open_place t k)
open-child t (node.Attr k i) = refl

-- for the descendants
open-descendant : (t : Places) (n : Node) → is_open_node t n ≡ any_open t (listed_from t axis.Descendant n)
open-descendant t (node.At k) = sym (open-inside t k)
open-descendant t (node.Attr k i) = refl

-- and for these and the node itself
open-or_self : (t : Places) (n : Node) → is_open_node t n ≡ any_open t (listed_from t axis.DescendantOrSelf n)
open-or_self t (node.At k) = sym (open-inside t k)
open-or_self t (node.Attr k i) = refl

-- one of the nodes whose children an inward axis lists is open where the node itself is
pub open-inward : (t : Places) (a : Axis) (n : Node) → (a ≡ axis.Child) ⊎ ((a ≡ axis.Descendant) ⊎ (a ≡ axis.DescendantOrSelf))
    → is_open_node t n ≡ any_open t (listed_from t a n)
open-inward t a n (inl is) = rw is (open-child t n)
open-inward t a n (inr (inl is)) = rw is (open-descendant t n)
open-inward t a n (inr (inr is)) = rw is (open-or_self t n)
