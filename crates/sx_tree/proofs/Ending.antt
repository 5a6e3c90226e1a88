-- The rows of a tree in which the innermost open node ends.
use Rattle.std.proofs.Common.{◌≡◌, ℕ, zero, suc, ◌+◌, ◌-◌, ◌<◌, Bool, true, false, not, eqb, eq-eqb, cond, List, [], ◌∷◌, length, map, slice_get, get_or, Option, Some, None, IfSome, refl, ap, ap₂, sym, subst, ◌∙◌, length-drop, arith}
use Rattle.std.proofs.Math.ListN.{set}
use Rattle.std.proofs.Math.Seq.{map-set_same}
use Rattle.std.proofs.lemmas.Bool.Decides.{nat_tests}
use Rattle.std.proofs.lemmas.List.{length-map}
use Rattle.std.specs.Option.{option_eq}
use Rattle.sx_tree.specs.declared.rows.Row.{Row}
use Rattle.sx_tree.specs.Places.{Entry, Places, without_innermost}
use Rattle.sx_tree.specs.Rows.{entry_of, level_of, places_of_rows, end_at, IsRow, AreRows}
use Rattle.sx_tree.specs.TreeView.{IsTree, depth_at, first_place, outward, inside, behind_place, is_open_place}
use Rattle.sx_tree.proofs.Depths.{IsOpen, StandsIn, stands, less_other, open-each, open-from, closed-from, tests_same, inside-open, outward-first}
use Rattle.sx_tree.proofs.Growing.{IsInnermostRow, innermost-row, are_rows, end-same}

-- what is so of the element at each place but one, and of one put there
each_set : {X : Type 0} (P : ℕ → X → Type 0) (xs : List X) (n : ℕ) (x : X)
    → ((k : ℕ) (y : X) → (k ≡ n → ⊥) → slice_get xs k ≡ Some y → P k y) → P n x
    → (k : ℕ) (y : X) → slice_get (set xs n x) k ≡ Some y → P k y
each_set P [] n x each here k y is = absurd (cc)
each_set P (z ∷ xs) zero x each here zero y is = let e : x ≡ y = cc in subst (P 0) e here
each_set P (z ∷ xs) zero x each here (suc k) y is = each (suc k) y (λ e. absurd (omega (arith, e))) is
each_set P (z ∷ xs) (suc n) x each here zero y is = each zero y (λ e. absurd (omega (arith, e))) is
each_set P (z ∷ xs) (suc n) x each here (suc k) y is =
    each_set (λ m w. P (suc m) w) xs n x (λ m w other there. each (suc m) w (λ e. other (omega (arith, e))) there) here k y is

-- What a node stands in is the innermost open node once it has ended.
record IsNextInnermost (es : List Entry) (k : ℕ) (innermost : Option ℕ) : Type 0 where
  level : level_of es innermost ≡ depth_at es k
  open_now : IfSome innermost (λ j. is_open_place (record { entries = es; level = depth_at es k }) j ≡ true)

module _ (es : List Entry) (tree : IsTree es) where
  abbrev with_level : ℕ → Places
  with_level level = record { entries = es; level = level }

  -- the node that another stands in is open where that one is the innermost
  stands-open : (k j : ℕ) → IsOpen (with_level (suc (depth_at es k))) k → StandsIn es (depth_at es k) (suc k) j → IsOpen (with_level (depth_at es k)) j
  stands-open k j is there = record {
    within = omega (arith, is.within, there.before);
    below = omega (arith, there.depth);
    deeper = λ i behind within. outer-deeper k j i is there behind within;
  }
    where
      outer-deeper : (k j i : ℕ) → IsOpen (with_level (suc (depth_at es k))) k → StandsIn es (depth_at es k) (suc k) j → j < i → i < length es
          → depth_at es j < depth_at es i
      outer-deeper k j i is there behind within = grind (arith, there.depth, there.between i, is.deeper i)

  -- the next one, where there is a node that it stands in
  next-in : (k : ℕ) → IsOpen (with_level (suc (depth_at es k))) k → ((j : ℕ) × StandsIn es (depth_at es k) (suc k) j)
      → IsNextInnermost es k (first_place (outward es (depth_at es k) k))
  next-in k is (j, there) =
      let less : depth_at es j < depth_at es k = omega (arith, there.depth) in
      let before : j < k = less_other es j k (depth_at es k) (omega (arith, there.before)) less (omega arith) in
      let found = outward-first es (depth_at es k) j k before less (λ i behind within. there.between i behind (omega (arith, within))) in
      subst (λ (o : Option ℕ). IsNextInnermost es k o) (sym found)
      (record { level = there.depth; open_now = open-from (with_level (depth_at es k)) j (stands-open k j is there) })

  -- the next one
  next-innermost : (k : ℕ) → IsOpen (with_level (suc (depth_at es k))) k → IsNextInnermost es k (first_place (outward es (depth_at es k) k))
  next-innermost zero is = record { level = sym tree.first; open_now = tt }
  next-innermost (suc n) is =
      next-in (suc n) is (stands es tree (depth_at es (suc n)) (suc n) (tree.inward n is.within).0 is.within (omega arith))

  module _ (k : ℕ) (is : is_open_place (with_level (suc (depth_at es k))) k ≡ true) where
    abbrev old : Places
    old = with_level (suc (depth_at es k))

    abbrev new : Places
    new = with_level (depth_at es k)

    here : IsOpen old k
    here = open-each old k is

    -- no other node was as deep and open
    open-before : (j : ℕ) → (j ≡ k → ⊥) → IsOpen old j → IsOpen new j
    open-before j other there = record {
      within = there.within;
      below = other-below j other there;
      deeper = there.deeper;
    }
      where
        other-below : (j : ℕ) → (j ≡ k → ⊥) → IsOpen old j → depth_at es j < depth_at es k
        other-below j other there = grind (arith, there.below, there.within, there.deeper k, here.within, here.deeper j)

    -- none opens
    open-after : (j : ℕ) → IsOpen new j → IsOpen old j
    open-after j there = record { within = there.within; below = omega (arith, there.below); deeper = there.deeper }

    -- so each other one is open where it was
    open-same : (j : ℕ) → (j ≡ k → ⊥) → is_open_place new j ≡ is_open_place old j
    open-same j other =
        tests_same (is_open_place new j) (is_open_place old j)
        (λ there. open-from old j (open-after j (open-each new j there)))
        (λ there. open-from new j (open-before j other (open-each old j there)))

    -- and its row is as it was
    row-same : (j : ℕ) (r : Row) → (j ≡ k → ⊥) → IsRow old j r → IsRow new j r
    row-same j r other row = record { parent = row.parent; end = row.end ∙ sym (end-same old new j (open-same j other) (λ _. refl)) }

    -- it ends behind all nodes
    end-last : end_at new k ≡ Some (length es)
    end-last =
        let shut : is_open_place new k ≡ false = closed-from new k (omega arith) in
        let all : length (inside new k) ≡ length (behind_place old k) = ap (λ (l : List Entry). length l) (inside-open old k is) in
        let last : suc k + length (inside new k) ≡ length es = omega (arith, all, length-drop (suc k) es, here.within) in
        ap (λ (b : Bool). cond b None (Some (suc k + length (inside new k)))) shut ∙ ap (λ (n : ℕ). Some n) last

-- ---- the rows

-- a row with an end
abbrev pub with_end : Row → ℕ → Row
with_end r place = record { content = r.content; depth = r.depth; parent = r.parent; end = Some place }

module _ (rows : List Row) (k : ℕ) (r : Row) (is : IsInnermostRow rows k r) where
  abbrev entries : List Entry
  entries = map entry_of rows

  -- the row as it was
  row-here : IsRow (places_of_rows rows (Some k)) k r
  row-here = is.known.each k r is.row

  -- what its node stands in
  next-here : IsNextInnermost entries k r.parent
  next-here = subst (λ (o : Option ℕ). IsNextInnermost entries k o) (sym row-here.parent) (next-innermost entries is.known.tree k is.open_now)

  -- the nodes stay
  entries-same : (place : ℕ) → r ≡ get_or rows k r → map entry_of (set rows k (with_end r place)) ≡ entries
  entries-same place read = map-set_same entry_of rows k (with_end r place) r (ap entry_of read)

  -- the tree without its innermost open node
  places-after : (place : ℕ) → r ≡ get_or rows k r
      → places_of_rows (set rows k (with_end r place)) r.parent ≡ record { entries = entries; level = depth_at entries k }
  places-after place read =
      ap₂ (λ (es : List Entry) (d : ℕ). record { entries = es; level = d }) (entries-same place read)
      (ap (λ (es : List Entry). level_of es r.parent) (entries-same place read) ∙ next-here.level)

  -- The rows once the node has ended.
  rows-after : (place : ℕ) → r ≡ get_or rows k r → place ≡ length rows → AreRows (set rows k (with_end r place)) r.parent
  rows-after place read last =
      let new : Places = record { entries = entries; level = depth_at entries k } in
      let end = end-last entries is.known.tree k is.known.innermost_open ∙ ap (λ (n : ℕ). Some n) (length-map rows entry_of ∙ sym last) in
      are_rows (set rows k (with_end r place)) r.parent new (places-after place read) is.known.tree
      (each_set (λ j x. IsRow new j x) rows k (with_end r place)
      (λ j x other there. row-same entries is.known.tree k is.known.innermost_open j x other (is.known.each j x there))
      (record { parent = row-here.parent; end = sym end }))
      next-here.open_now

-- With an end in one of these rows they are those of the tree without its innermost open node.
pub record HasEnded (rows : List Row) (innermost : Option ℕ) (k : ℕ) (r : Row) (place : ℕ) : Type 0 where
  pub known : AreRows (set rows k (with_end r place)) r.parent
  pub places : places_of_rows (set rows k (with_end r place)) r.parent ≡ without_innermost (places_of_rows rows innermost)

-- The innermost open node ends.
pub ends : (rows : List Row) (innermost : Option ℕ) (k : ℕ) (r : Row) (place : ℕ) → innermost ≡ Some k → AreRows rows innermost
    → r ≡ get_or rows k r → place ≡ length rows → HasEnded rows innermost k r place
ends rows innermost k r place here known read last =
    let is : IsInnermostRow rows k r = innermost-row rows innermost k r here known read in
    let level : depth_at (map entry_of rows) k ≡ level_of (map entry_of rows) innermost - 1
    = omega (arith, ap (λ (o : Option ℕ). level_of (map entry_of rows) o) here) in
    record {
      known = rows-after rows k r is place read last;
      places = places-after rows k r is place read ∙ ap (λ (d : ℕ). record { entries = map entry_of rows; level = d }) level;
    }

-- An open node that is not the innermost one is open once that one has ended.
pub open-still : (rows : List Row) (innermost : Option ℕ) (k : ℕ) → AreRows rows innermost → (innermost ≡ Some k → ⊥)
    → is_open_place (places_of_rows rows innermost) k ≡ true → is_open_place (without_innermost (places_of_rows rows innermost)) k ≡ true
open-still rows None k known other is = absurd (omega (arith, (open-each (places_of_rows rows None) k is).below))
open-still rows (Some i) k known other is =
    let es = map entry_of rows in
    let level : depth_at es i ≡ suc (depth_at es i) - 1 = omega arith in
    let still = open-before es known.tree i known.innermost_open k (λ e. other (ap (λ (n : ℕ). Some n) (sym e)))
    (open-each (places_of_rows rows (Some i)) k is) in
    subst (λ (d : ℕ). is_open_place (record { entries = es; level = d }) k ≡ true) level
    (open-from (record { entries = es; level = depth_at es i }) k still)

-- the innermost open node is the one that is asked for
pub same_place : (innermost : Option ℕ) (k : ℕ) → false ≡ not (option_eq eqb innermost (Some k)) → innermost ≡ Some k
same_place None k is = absurd (cc)
same_place (Some i) k is = ap (λ (n : ℕ). Some n) (same_number i k (eqb i k) refl is)
  where
    same_number : (i k : ℕ) (b : Bool) → eqb i k ≡ b → false ≡ not b → i ≡ k
    same_number i k true here is = grind (arith, nat_tests)
    same_number i k false here is = absurd (cc)

-- or is another
pub other_place : (innermost : Option ℕ) (k : ℕ) → true ≡ not (option_eq eqb innermost (Some k)) → innermost ≡ Some k → ⊥
other_place innermost k is same =
    let here : true ≡ not (eqb k k) = subst (λ (o : Option ℕ). true ≡ not (option_eq eqb o (Some k))) same is in
    let none : true ≡ false = here ∙ ap not (eq-eqb k k refl) in
    cc
