-- The nodes of a spine: each but the first stands in the one before it.
use Rattle.std.proofs.Common.{◌≡◌, ℕ, zero, suc, ◌+◌, ◌-◌, ◌<◌, ◌≤◌, ◌^◌, Bool, true, false, ◌&&◌, nat_lt, nat_eq, cond, List, [], ◌∷◌, length, drop, slice_get, Option, Some, None, refl, ap, ap₂, sym, ◌∙◌, subst, arith}
use Rattle.std.proofs.lemmas.Bool.Decides.{nat_tests}
use Rattle.std.proofs.lemmas.List.{drop_all, length-take}
use Rattle.std.proofs.lemmas.Option.{slice_get_past}
use Rattle.std.specs.Option.{option_map_or}
use Rattle.sx_tree.specs.declared.ancestors.Leaf.{Leaf}
use Rattle.sx_tree.specs.declared.ancestors.Leaf.TheVariants as leaf
use Rattle.sx_tree.specs.declared.ancestors.SpineItem.{SpineItem}
use Rattle.sx_tree.specs.declared.ancestors.SpineItem.TheVariants as spine_item
use Rattle.sx_tree.specs.declared.nodes.Node.TheVariants as node
use Rattle.sx_tree.specs.Places.{Content, text, Entry, entry}
use Rattle.sx_tree.specs.Seen.{seen_at, label_of, target_of, text_of}
use Rattle.sx_tree.specs.Spine.{Spine}
use Rattle.sx_tree.specs.SpineView.{item_content, leaf_content, leaf_here, spine_entries, spine_places}
use Rattle.sx_tree.specs.TreeView.{IsTree, depth_at, all_deeper, behind_place, first_place, outer_places, outward, child_places, sibling_places, later_siblings, is_open_place, attributes_of, attributes_at}
use Rattle.sx_tree.proofs.Nearby.{depth_none, first_child-next, next_sibling-deeper}

-- ---- its entries and its leaf

-- how many nodes a leaf is
abbrev pub leaf_count : Option Leaf → ℕ
leaf_count None = 0
leaf_count (Some l) = 1

pub spine-length : (d : ℕ) (items : List SpineItem) (l : Option Leaf) → length (spine_entries d items l) ≡ length items + leaf_count l
spine-length d [] None = refl
spine-length d [] (Some l) = refl
spine-length d (item ∷ items) l = omega (arith, spine-length (suc d) items l)

-- a leaf is one node at most
pub leaf_count-most : (l : Option Leaf) → leaf_count l ≤ 1
leaf_count-most None = omega arith
leaf_count-most (Some l) = omega arith

-- each is as deep as its place
spine-depth : (d : ℕ) (items : List SpineItem) (l : Option Leaf) (k : ℕ)
    → k < length (spine_entries d items l) → depth_at (spine_entries d items l) k ≡ d + k
spine-depth d [] None k within = absurd (omega (arith, within))
spine-depth d [] (Some l) zero within = omega arith
spine-depth d [] (Some l) (suc k) within = absurd (omega (arith, within))
spine-depth d (item ∷ items) l zero within = omega arith
spine-depth d (item ∷ items) l (suc k) within = omega (arith, spine-depth (suc d) items l k (omega (arith, within)))

-- each is deeper than what is less deep than the first
spine-deeper : (c d : ℕ) (items : List SpineItem) (l : Option Leaf) → c < d → all_deeper c (spine_entries d items l) ≡ true
spine-deeper c d [] None less = refl
spine-deeper c d [] (Some l) less =
    let deeper : nat_lt c d ≡ true = grind (arith, nat_tests) in
    ap (λ (b : Bool). cond b true false) deeper
spine-deeper c d (item ∷ items) l less =
    let deeper : nat_lt c d ≡ true = grind (arith, nat_tests) in
    ap (λ (b : Bool). cond b (all_deeper c (spine_entries (suc d) items l)) false) deeper ∙ spine-deeper c (suc d) items l (omega arith)

-- those behind one are deeper
spine-behind : (d : ℕ) (items : List SpineItem) (l : Option Leaf) (k : ℕ) → all_deeper (d + k) (drop (suc k) (spine_entries d items l)) ≡ true
spine-behind d [] None k = refl
spine-behind d [] (Some l) k = ap (λ (es : List Entry). all_deeper (d + k) es) (drop_all k [] (omega arith))
spine-behind d (item ∷ items) l zero = spine-deeper (d + zero) (suc d) items l (omega arith)
spine-behind d (item ∷ items) l (suc k) =
    let same : d + suc k ≡ suc d + k = omega arith in
    ap (λ (n : ℕ). all_deeper n (drop (suc k) (spine_entries (suc d) items l))) same ∙ spine-behind (suc d) items l k

-- what stands at the place of an entry
at_item : (d : ℕ) (items : List SpineItem) (l : Option Leaf) (k : ℕ) (item : SpineItem) → slice_get items k ≡ Some item
    → (depth : ℕ) × (slice_get (spine_entries d items l) k ≡ Some (entry (item_content item) depth))
at_item d [] l k item is = absurd (cc)
at_item d (x ∷ items) l zero item is = let same : x ≡ item = cc in (d, ap (λ (i : SpineItem). Some (entry (item_content i) d)) same)
at_item d (x ∷ items) l (suc k) item is = at_item (suc d) items l k item is

-- what stands at the place of the leaf
at_leaf : (d : ℕ) (items : List SpineItem) (l : Leaf)
    → (depth : ℕ) × (slice_get (spine_entries d items (Some l)) (length items) ≡ Some (entry (leaf_content l) depth))
at_leaf d [] l = (d, refl)
at_leaf d (x ∷ items) l = at_leaf (suc d) items l

-- where neither stands, there is nothing
at_none : (d : ℕ) (items : List SpineItem) (l : Option Leaf) (k : ℕ) → slice_get items k ≡ None → cond (nat_eq k (length items)) l None ≡ None
    → slice_get (spine_entries d items l) k ≡ None
at_none d [] None k item here = refl
at_none d [] (Some l) zero item here = absurd (cc)
at_none d [] (Some l) (suc k) item here = refl
at_none d (x ∷ items) l zero item here = absurd (cc)
at_none d (x ∷ items) l (suc k) item here =
    let same : nat_eq k (length items) ≡ nat_eq (suc k) (suc (length items)) = grind (arith, nat_tests) in
    at_none (suc d) items l k item (ap (λ (b : Bool). cond b l None) same ∙ here)

-- the same of a leaf, by whether it stands at this place
leaf_by : (b : Bool) (items : List SpineItem) (l : Option Leaf) (k : ℕ) (x : Leaf) → nat_eq k (length items) ≡ b → cond b l None ≡ Some x
    → (depth : ℕ) × (slice_get (spine_entries 0 items l) k ≡ Some (entry (leaf_content x) depth))
leaf_by true items l k x at is =
    let place : k ≡ length items = grind (arith, nat_tests) in
    let (depth, here) = at_leaf 0 items x in
    (depth, ap₂ (λ (o : Option Leaf) (n : ℕ). slice_get (spine_entries 0 items o) n) is place ∙ here)
leaf_by false items l k x at is = absurd (cc)

-- an entry has no target
item-target : (item : SpineItem) → target_of (item_content item) ≡ None
item-target spine_item.Root = refl
item-target (spine_item.Element label attrs) = refl

-- nor characters
item-text : (item : SpineItem) → text_of (item_content item) ≡ []
item-text spine_item.Root = refl
item-text (spine_item.Element label attrs) = refl

-- a leaf has no name
leaf-label : (l : Leaf) → label_of (leaf_content l) ≡ None
leaf-label (leaf.Text s) = refl
leaf-label (leaf.Pi target content) = refl

-- the attributes of an entry have numbers
item-few : (item : SpineItem) → length (attributes_of (item_content item)) < 2 ^ 32
item-few spine_item.Root = omega arith
item-few (spine_item.Element label attrs) = omega (arith, length-take (2 ^ 32 - 1) attrs)

-- a leaf has none
leaf-none : (l : Leaf) → attributes_of (leaf_content l) ≡ []
leaf-none (leaf.Text s) = refl
leaf-none (leaf.Pi target content) = refl

-- so have those of each node
spine-few : (d : ℕ) (items : List SpineItem) (l : Option Leaf) (k : ℕ) (e : Entry) → slice_get (spine_entries d items l) k ≡ Some e
    → length (attributes_of e.content) < 2 ^ 32
spine-few d [] None k e is = absurd (cc)
spine-few d [] (Some l) zero e is =
    let same : entry (leaf_content l) d ≡ e = cc in
    let none : attributes_of e.content ≡ [] = ap (λ (x : Entry). attributes_of x.content) (sym same) ∙ leaf-none l in
    rw none (omega arith)
spine-few d [] (Some l) (suc k) e is = absurd (cc)
spine-few d (item ∷ items) l zero e is =
    let same : entry (item_content item) d ≡ e = cc in
    subst (λ (x : Entry). length (attributes_of x.content) < 2 ^ 32) same (item-few item)
spine-few d (item ∷ items) l (suc k) e is = spine-few (suc d) items l k e is

-- the first has no depth
spine-first : (items : List SpineItem) (l : Option Leaf) → depth_at (spine_entries 0 items l) 0 ≡ 0
spine-first [] None = refl
spine-first [] (Some l) = refl
spine-first (item ∷ items) l = refl

-- ---- where its nodes stand

-- all that is asked of what is open
both : (b : Bool) → (true && (b && true)) ≡ b
both true = refl
both false = refl

module _ (s : Spine) where
  abbrev nodes : List Entry
  nodes = (spine_places s).entries

  -- each is as deep as its place
  depth_is : (k : ℕ) → k < length nodes → depth_at nodes k ≡ k
  depth_is k within = omega (arith, spine-depth 0 s.entries s.leaf k within)

  -- A spine of few nodes is a tree.
  pub spine-tree : length s.entries ≤ 201 → IsTree nodes
  spine-tree few = record {
    first = spine-first s.entries s.leaf;
    inward = λ k within.
        let here = depth_is k (omega (arith, within)) in
        let next = depth_is (suc k) within in
        (omega (arith, next), omega (arith, here, next));
    few = omega (arith, few, spine-length 0 s.entries s.leaf, leaf_count-most s.leaf);
    few_attributes = spine-few 0 s.entries s.leaf;
  }

  -- Each node but the first stands in the one before it.
  pub spine-parent : (k : ℕ) → suc k < length nodes → first_place (outer_places (spine_places s) (suc k)) ≡ Some k
  spine-parent k within =
      let here = depth_is k (omega (arith, within)) in
      let less : nat_lt (depth_at nodes k) (suc k) ≡ true = grind (arith, nat_tests) in
      ap (λ (d : ℕ). first_place (outward nodes d (suc k))) (depth_is (suc k) within)
      ∙ ap (λ (b : Bool). first_place (cond b (k ∷ outward nodes (depth_at nodes k) k) (outward nodes (suc k) k))) less

  -- Each but the last has the one behind it as its first child.
  pub spine-child : (k : ℕ) → IsTree nodes → suc k < length nodes → first_place (child_places (spine_places s) k) ≡ Some (suc k)
  spine-child k tree within = first_child-next (spine_places s) k tree (spine-parent k within)

  -- behind each, all are deeper
  behind_deeper : (k : ℕ) → all_deeper k (behind_place (spine_places s) k) ≡ true
  behind_deeper k =
      let same : k ≡ 0 + k = omega arith in
      ap (λ (n : ℕ). all_deeper n (behind_place (spine_places s) k)) same ∙ spine-behind 0 s.entries s.leaf k

  -- of a node, and of what is none
  sibling_by : (k : ℕ) (b : Bool) → nat_lt k (length nodes) ≡ b → first_place (sibling_places (spine_places s) k) ≡ None
  sibling_by k true is =
      let within : k < length nodes = grind (arith, nat_tests) in
      next_sibling-deeper (spine_places s) k
      (ap (λ (n : ℕ). all_deeper n (behind_place (spine_places s) k)) (depth_is k within) ∙ behind_deeper k)
  sibling_by k false is =
      let past : length nodes ≤ k = grind (arith, nat_tests) in
      ap (λ (d : ℕ). first_place (later_siblings d (suc k) (behind_place (spine_places s) k))) (depth_none nodes k (slice_get_past nodes k past))

  -- None has a sibling behind it.
  pub spine-sibling : (k : ℕ) → first_place (sibling_places (spine_places s) k) ≡ None
  spine-sibling k = sibling_by k (nat_lt k (length nodes)) refl

  -- of a node, and of what is none
  open_by : (k : ℕ) (b : Bool) → nat_lt k (length nodes) ≡ b
      → (b && (nat_lt (depth_at nodes k) (length s.entries) && all_deeper (depth_at nodes k) (behind_place (spine_places s) k)))
      ≡ nat_lt k (length s.entries)
  open_by k true is =
      let within : k < length nodes = grind (arith, nat_tests) in
      ap (λ (n : ℕ). true && (nat_lt n (length s.entries) && all_deeper n (behind_place (spine_places s) k))) (depth_is k within)
      ∙ ap (λ (b : Bool). true && (nat_lt k (length s.entries) && b)) (behind_deeper k)
      ∙ both (nat_lt k (length s.entries))
  open_by k false is =
      let size = spine-length 0 s.entries s.leaf in
      let past : length nodes ≤ k = grind (arith, nat_tests) in
      let none : nat_lt k (length s.entries) ≡ false = grind (arith, nat_tests) in
      sym none

  -- The entries are open, and the leaf is not.
  pub spine-open : (k : ℕ) → is_open_place (spine_places s) k ≡ nat_lt k (length s.entries)
  spine-open k = open_by k (nat_lt k (length nodes)) refl

  -- ---- what its nodes are

  -- what is seen at a place, where something stands
  seen_of : (k : ℕ) (c : Content) (depth : ℕ) → slice_get nodes k ≡ Some (entry c depth) → seen_at (spine_places s) (node.At k) ≡ c
  seen_of k c depth is = ap (λ (o : Option Entry). option_map_or (λ c. c) (option_map_or (λ e. Some e.content) o None) (text [])) is

  -- An entry,
  pub seen_item : (k : ℕ) (item : SpineItem) → slice_get s.entries k ≡ Some item → seen_at (spine_places s) (node.At k) ≡ item_content item
  seen_item k item is = let (depth, at) = at_item 0 s.entries s.leaf k item is in seen_of k (item_content item) depth at

  -- the leaf,
  pub seen_leaf : (k : ℕ) (l : Leaf) → leaf_here s k ≡ Some l → seen_at (spine_places s) (node.At k) ≡ leaf_content l
  seen_leaf k l is =
      let (depth, at) = leaf_by (nat_eq k (length s.entries)) s.entries s.leaf k l refl is in seen_of k (leaf_content l) depth at

  -- or nothing.
  pub seen_none : (k : ℕ) → slice_get s.entries k ≡ None → leaf_here s k ≡ None → seen_at (spine_places s) (node.At k) ≡ text []
  seen_none k item here =
      ap (λ (o : Option Entry). option_map_or (λ c. c) (option_map_or (λ e. Some e.content) o None) (text [])) (at_none 0 s.entries s.leaf k item here)

  -- what is no entry has no name
  label_by : (k : ℕ) (l : Option Leaf) → slice_get s.entries k ≡ None → leaf_here s k ≡ l
      → label_of (seen_at (spine_places s) (node.At k)) ≡ None
  label_by k None item here = ap label_of (seen_none k item here)
  label_by k (Some l) item here = ap label_of (seen_leaf k l here) ∙ leaf-label l

  -- What is no entry has no name,
  pub label_none : (k : ℕ) → slice_get s.entries k ≡ None → label_of (seen_at (spine_places s) (node.At k)) ≡ None
  label_none k item = label_by k (leaf_here s k) item refl

  -- what is no leaf has no target
  target_by : (k : ℕ) (o : Option SpineItem) → slice_get s.entries k ≡ o → leaf_here s k ≡ None
      → target_of (seen_at (spine_places s) (node.At k)) ≡ None
  target_by k None item here = ap target_of (seen_none k item here)
  target_by k (Some i) item here = ap target_of (seen_item k i item) ∙ item-target i

  -- and what is no leaf has no target
  pub target_none : (k : ℕ) → leaf_here s k ≡ None → target_of (seen_at (spine_places s) (node.At k)) ≡ None
  target_none k here = target_by k (slice_get s.entries k) refl here

  -- what is no leaf has no characters
  text_by : (k : ℕ) (o : Option SpineItem) → slice_get s.entries k ≡ o → leaf_here s k ≡ None
      → text_of (seen_at (spine_places s) (node.At k)) ≡ []
  text_by k None item here = ap text_of (seen_none k item here)
  text_by k (Some i) item here = ap text_of (seen_item k i item) ∙ item-text i

  -- and no characters.
  pub text_none : (k : ℕ) → leaf_here s k ≡ None → text_of (seen_at (spine_places s) (node.At k)) ≡ []
  text_none k here = text_by k (slice_get s.entries k) refl here

  -- the attributes at a place, by what stands there
  attributes_by : (k : ℕ) (o : Option Entry) → slice_get nodes k ≡ o
      → attributes_at (spine_places s) k ≡ option_map_or (λ e. attributes_of e.content) o []
  attributes_by k o is = ap (λ (o : Option Entry). option_map_or (λ e. attributes_of e.content) o []) is

  -- An entry has its attributes,
  pub attributes_item : (k : ℕ) (item : SpineItem) → slice_get s.entries k ≡ Some item
      → attributes_at (spine_places s) k ≡ attributes_of (item_content item)
  attributes_item k item is =
      let (depth, at) = at_item 0 s.entries s.leaf k item is in attributes_by k (Some (entry (item_content item) depth)) at

  -- what is no entry has none
  no_attributes : (k : ℕ) (l : Option Leaf) → slice_get s.entries k ≡ None → leaf_here s k ≡ l → attributes_at (spine_places s) k ≡ []
  no_attributes k None item here = attributes_by k None (at_none 0 s.entries s.leaf k item here)
  no_attributes k (Some l) item here =
      let (depth, at) = leaf_by (nat_eq k (length s.entries)) s.entries s.leaf k l refl here in
      attributes_by k (Some (entry (leaf_content l) depth)) at ∙ leaf-none l

  -- and what is no entry has none.
  pub attributes_none : (k : ℕ) → slice_get s.entries k ≡ None → attributes_at (spine_places s) k ≡ []
  attributes_none k item = no_attributes k (leaf_here s k) item refl
