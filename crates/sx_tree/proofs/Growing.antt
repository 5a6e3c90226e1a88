-- The rows of a tree in which a node begins.
use Rattle.std.proofs.Common.{◌≡◌, inl, inr, ℕ, zero, suc, ◌+◌, ◌<◌, ◌≤◌, ◌^◌, Bool, true, false, nat_lt, cond, List, [], ◌∷◌, ◌++◌, length, drop, map, slice_get, get_or, Option, Some, None, IfSome, refl, ap, ap₂, sym, subst, ◌∙◌, length-append, arith}
use Rattle.std.proofs.lemmas.List.{length-map, map-append}
use Rattle.std.proofs.lemmas.Option.{slice_get-map, slice_get_within, slice_get_read}
use Rattle.std.specs.Option.{option_map, option_map_or}
use Rattle.sx_tree.specs.declared.rows.Row.{Row}
use Rattle.sx_tree.specs.Places.{Content, Entry, entry, Places, with_node}
use Rattle.sx_tree.specs.Rows.{entry_of, content_of, level_of, places_of_rows, end_at, IsRow, AreRows, IsRoomFor}
use Rattle.sx_tree.specs.TreeView.{IsTree, depth_at, first_place, inner, outward, outer_places, inside, is_open_place, attributes_of}
use Rattle.sx_tree.proofs.Extending.{Extends, inside-same}
use Rattle.sx_tree.proofs.Depths.{IsOpen, open-each, open-from, open-most, closed-from, tests_same, test_less, test_most, depth_at-append, depth_at-last, outward-first, outward-none, outward-append, depth_at-most}

-- ---- rows

-- the depth of a row is that of its node
pub depth_at-row : (rows : List Row) (k : ℕ) (r : Row) → slice_get rows k ≡ Some r → depth_at (map entry_of rows) k ≡ r.depth
depth_at-row rows k r is =
    ap (λ (o : Option Entry). option_map_or (λ e. e.depth) o 0) (slice_get-map entry_of rows k ∙ ap (λ (o : Option Row). option_map entry_of o) is)

-- what is so of the element at each place, and of one put behind
pub each_more : {X : Type 0} (P : ℕ → X → Type 0) (xs : List X) (x : X) → ((k : ℕ) (y : X) → slice_get xs k ≡ Some y → P k y)
    → P (length xs) x → (k : ℕ) (y : X) → slice_get (xs ++ x ∷ []) k ≡ Some y → P k y
each_more P [] x each last zero y is = let e : x ≡ y = cc in subst (P 0) e last
each_more P [] x each last (suc k) y is = absurd (cc)
each_more P (z ∷ xs) x each last zero y is = each zero y is
each_more P (z ∷ xs) x each last (suc k) y is = each_more (λ n w. P (suc n) w) xs x (λ n w there. each (suc n) w there) last k y is

-- What is known of the innermost open node, where there is one, and of its row.
pub record IsInnermostRow (rows : List Row) (k : ℕ) (r : Row) : Type 0 where
  pub known : AreRows rows (Some k)
  pub open_now : IsOpen (places_of_rows rows (Some k)) k
  pub within : k < length rows
  pub row : slice_get rows k ≡ Some r
  pub depth : depth_at (map entry_of rows) k ≡ r.depth

-- The row at the place of the innermost open node.
pub innermost-row : (rows : List Row) (innermost : Option ℕ) (k : ℕ) (r : Row) → innermost ≡ Some k → AreRows rows innermost
    → r ≡ get_or rows k r → IsInnermostRow rows k r
innermost-row rows innermost k r is known read =
    let here : AreRows rows (Some k) = subst (λ (o : Option ℕ). AreRows rows o) is known in
    let open_now : IsOpen (places_of_rows rows (Some k)) k = open-each (places_of_rows rows (Some k)) k here.innermost_open in
    let within : k < length rows = omega (arith, open_now.within, length-map rows entry_of) in
    let row : slice_get rows k ≡ Some r = slice_get_read rows (length rows) k r refl within read in
    record { known = here; open_now = open_now; within = within; row = row; depth = depth_at-row rows k r row }

-- its depth is less than there are places
pub innermost-few : (rows : List Row) (k : ℕ) (r : Row) → IsInnermostRow rows k r → r.depth + 1 < 2 ^ 32
innermost-few rows k r is =
    omega (arith, is.depth, is.open_now.within, is.known.tree.few, depth_at-most (map entry_of rows) is.known.tree k is.open_now.within)

-- and is one less than the level
pub innermost-level : (rows : List Row) (innermost : Option ℕ) (k : ℕ) (r : Row) → innermost ≡ Some k → IsInnermostRow rows k r
    → level_of (map entry_of rows) innermost ≡ r.depth + 1
innermost-level rows innermost k r here is =
    omega (arith, ap (λ (o : Option ℕ). level_of (map entry_of rows) o) here, is.depth)

-- What makes rows those of a tree, said of the tree that they stand for.
pub are_rows : (rows : List Row) (innermost : Option ℕ) (t : Places) → places_of_rows rows innermost ≡ t → IsTree t.entries
    → ((k : ℕ) (r : Row) → slice_get rows k ≡ Some r → IsRow t k r) → IfSome innermost (λ k. is_open_place t k ≡ true)
    → AreRows rows innermost
are_rows rows innermost t is tree each open_now = record {
  tree = subst (λ (u : Places). IsTree u.entries) (sym is) tree;
  each = λ k r here. subst (λ (u : Places). IsRow u k r) (sym is) (each k r here);
  innermost_open = subst (λ (u : Places). IfSome innermost (λ k. is_open_place u k ≡ true)) (sym is) open_now;
}

-- a node ends where it did, by whether it is open
ends-by : (a b : Bool) (m n : ℕ) → a ≡ b → (b ≡ false → m ≡ n) → cond a None (Some m) ≡ cond b None (Some n)
ends-by true true m n is same = refl
ends-by true false m n is same = absurd (cc)
ends-by false true m n is same = absurd (cc)
ends-by false false m n is same = ap (λ (k : ℕ). Some k) (same refl)

-- an open node has no end
end-open : (t : Places) (k : ℕ) → is_open_place t k ≡ true → end_at t k ≡ None
end-open t k is = ap (λ (b : Bool). cond b None (Some (suc k + length (inside t k)))) is

-- a node that is open where it was, and has in it what it had unless it is, ends where it did
pub end-same : (t u : Places) (k : ℕ) → is_open_place u k ≡ is_open_place t k → (is_open_place t k ≡ false → inside u k ≡ inside t k)
    → end_at u k ≡ end_at t k
end-same t u k is same =
    ends-by (is_open_place u k) (is_open_place t k) (suc k + length (inside u k)) (suc k + length (inside t k)) is
    (λ shut. ap (λ (l : List Entry). suc k + length l) (same shut))

-- ---- a node comes behind those of a tree

-- nothing is behind the last one
drop-last : (es : List Entry) (e : Entry) → drop (suc (length es)) (es ++ e ∷ []) ≡ []
drop-last [] e = refl
drop-last (x ∷ es) e = drop-last es e

-- the level stays where the innermost one is among those that were there
level-same : (es fs : List Entry) (innermost : Option ℕ) → IfSome innermost (λ k. k < length es)
    → level_of (es ++ fs) innermost ≡ level_of es innermost
level-same es fs None within = refl
level-same es fs (Some k) within = ap (λ (d : ℕ). suc d) (depth_at-append es fs k within)

module _ (es : List Entry) (level : ℕ) (c : Content) (after : ℕ) (more : level ≤ after) where
  abbrev old : Places
  old = record { entries = es; level = level }

  abbrev new : Places
  new = record { entries = es ++ entry c level ∷ []; level = after }

  extends : Extends old new
  extends = record { more = entry c level ∷ []; entries = refl; begins = omega arith; level = λ is. absurd (cc) }

  -- there is one more
  length-new : length new.entries ≡ suc (length es)
  length-new = omega (arith, length-append es (entry c level ∷ []))

  -- the depth of one that was there
  depth-old : (k : ℕ) → k < length es → depth_at new.entries k ≡ depth_at es k
  depth-old k within = depth_at-append es (entry c level ∷ []) k within

  -- the depth of the new one
  depth-new : (k : ℕ) → k ≡ length es → depth_at new.entries k ≡ level
  depth-new k is = ap (λ (n : ℕ). depth_at new.entries n) is ∙ depth_at-last es (entry c level)

  -- what is deeper behind an open node, by whether it was there
  deeper-still : (b : Bool) (k j : ℕ) → nat_lt j (length es) ≡ b → IsOpen old k → k < j → j < length new.entries
      → depth_at es k < depth_at new.entries j
  deeper-still true k j is there behind within =
      let here : j < length es = test_less j (length es) is in
      omega (arith, there.deeper j behind here, depth-old j here)
  deeper-still false k j is there behind within =
      let here : j ≡ length es = omega (arith, test_most j (length es) is, within, length-new) in
      omega (arith, there.below, depth-new j here)

  -- an open node stays open
  open-still : (k : ℕ) → IsOpen old k → IsOpen new k
  open-still k is =
      let same : depth_at new.entries k ≡ depth_at es k = depth-old k is.within in
      record {
        within = omega (arith, is.within, length-new);
        below = omega (arith, same, is.below, more);
        deeper = λ j behind within. omega (arith, same, deeper-still (nat_lt j (length es)) k j refl is behind within);
      }

  -- and none opens that was there
  open-before : (k : ℕ) → k < length es → IsOpen new k → IsOpen old k
  open-before k within is =
      let same : depth_at new.entries k ≡ depth_at es k = depth-old k within in
      record {
        within = within;
        below = omega (arith, same, depth-new (length es) refl, is.deeper (length es) within (omega (arith, length-new)));
        deeper = λ j behind here. omega (arith, same, depth-old j here, is.deeper j behind (omega (arith, length-new, here)));
      }

  -- it is open where it was
  open-same : (k : ℕ) → k < length es → is_open_place new k ≡ is_open_place old k
  open-same k within =
      tests_same (is_open_place new k) (is_open_place old k)
      (λ is. open-from old k (open-before k within (open-each new k is)))
      (λ is. open-from new k (open-still k (open-each old k is)))

  -- and stands where it stood
  outer-same : (k : ℕ) → k < length es → outer_places new k ≡ outer_places old k
  outer-same k within =
      ap (λ (d : ℕ). outward new.entries d k) (depth-old k within)
      ∙ outward-append es (entry c level ∷ []) (depth_at es k) k (omega (arith, within))

  -- so its row is as it was
  row-same : (k : ℕ) (r : Row) → k < length es → IsRow old k r → IsRow new k r
  row-same k r within is = record {
    parent = is.parent ∙ sym (ap first_place (outer-same k within));
    end = is.end ∙ sym (end-same old new k (open-same k within) (inside-same old new extends k within));
  }

  -- the new node is open where that is one level more
  open-new : level < after → is_open_place new (length es) ≡ true
  open-new less =
      open-from new (length es) (record {
        within = omega (arith, length-new);
        below = omega (arith, depth-new (length es) refl, less);
        deeper = λ j behind within. absurd (omega (arith, behind, within, length-new));
      })

  -- and has ended where it is not
  end-new : after ≡ level → end_at new (length es) ≡ Some (suc (length es))
  end-new same =
      let n = length es in
      let shut : is_open_place new n ≡ false = closed-from new n (omega (arith, same, depth-new n refl)) in
      let none : length (inside new n) ≡ 0 = ap (λ (l : List Entry). length (inner (depth_at new.entries n) l)) (drop-last es (entry c level)) in
      let last : suc n + length (inside new n) ≡ suc n = omega (arith, none) in
      ap (λ (b : Bool). cond b None (Some (suc n + length (inside new n)))) shut ∙ ap (λ (k : ℕ). Some k) last

  -- what it stands in
  parent-new : (innermost : Option ℕ) → level_of es innermost ≡ level → IfSome innermost (λ k. is_open_place old k ≡ true)
      → innermost ≡ first_place (outer_places new (length es))
  parent-new None at_level open_now =
      let none : depth_at new.entries (length es) ≡ 0 = depth-new (length es) refl ∙ sym at_level in
      sym (ap first_place (ap (λ (d : ℕ). outward new.entries d (length es)) none ∙ outward-none new.entries (length es)))
  parent-new (Some k) at_level open_now =
      let is : IsOpen old k = open-each old k open_now in
      let same : depth_at new.entries k ≡ depth_at es k = depth-old k is.within in
      sym
      (ap (λ (d : ℕ). first_place (outward new.entries d (length es))) (depth-new (length es) refl)
      ∙ outward-first new.entries level k (length es) is.within (omega (arith, same, is.below))
      (λ j behind before. omega (arith, at_level, depth-old j before, is.deeper j behind before)))

  -- the next depth, by whether it was there
  inward-new : (b : Bool) (k : ℕ) → nat_lt (suc k) (length es) ≡ b → IsTree es → 0 < level
      → (suc k ≡ length es → level ≤ suc (depth_at es k)) → suc k < length new.entries
      → (0 < depth_at new.entries (suc k)) × (depth_at new.entries (suc k) ≤ suc (depth_at new.entries k))
  inward-new true k is tree some most within =
      let here : suc k < length es = test_less (suc k) (length es) is in
      let step = tree.inward k here in
      let one : depth_at new.entries k ≡ depth_at es k = depth-old k (omega (arith, here)) in
      let next : depth_at new.entries (suc k) ≡ depth_at es (suc k) = depth-old (suc k) here in
      (omega (arith, next, step.0), omega (arith, one, next, step.1))
  inward-new false k is tree some most within =
      let here : suc k ≡ length es = omega (arith, test_most (suc k) (length es) is, within, length-new) in
      let one : depth_at new.entries k ≡ depth_at es k = depth-old k (omega (arith, here)) in
      let next : depth_at new.entries (suc k) ≡ level = depth-new (suc k) here in
      (omega (arith, next, some), omega (arith, one, next, most here))

  -- the nodes are those of a tree where the new one is at most one deeper than the last
  tree-new : IsTree es → 0 < length es → 0 < level → ((k : ℕ) → suc k ≡ length es → level ≤ suc (depth_at es k))
      → suc (length es) < 2 ^ 32 → length (attributes_of c) < 2 ^ 32 → IsTree new.entries
  tree-new tree some deep most few few_attributes = record {
    first = depth-old 0 some ∙ tree.first;
    inward = λ k within. inward-new (nat_lt (suc k) (length es)) k refl tree deep (most k) within;
    few = omega (arith, few, length-new);
    few_attributes = each_more (λ _ (e : Entry). length (attributes_of e.content) < 2 ^ 32) es (entry c level) tree.few_attributes few_attributes;
  }

-- ---- the rows

-- the first node alone is a tree
tree-first : (c : Content) → length (attributes_of c) < 2 ^ 32 → IsTree (entry c 0 ∷ [])
tree-first c few_attributes = record {
  first = refl;
  inward = λ k within. absurd (omega (arith, within));
  few = omega arith;
  few_attributes = each_more (λ _ (e : Entry). length (attributes_of e.content) < 2 ^ 32) [] (entry c 0) (λ k e is. absurd (cc)) few_attributes;
}

-- the nodes are those of a tree where there is room for the new one
tree-more : (es : List Entry) (innermost : Option ℕ) (c : Content) → IsTree es
    → IfSome innermost (λ k. is_open_place (record { entries = es; level = level_of es innermost }) k ≡ true)
    → IsRoomFor (record { entries = es; level = level_of es innermost }) c → IsTree (es ++ entry c (level_of es innermost) ∷ [])
tree-more [] None c tree open_now room = tree-first c room.attributes
tree-more (e ∷ es) None c tree open_now room = absurd (elim room.inward [ inl is ↦ cc | inr is ↦ omega (arith, is) ])
tree-more es (Some k) c tree open_now room =
    let level = suc (depth_at es k) in
    let is : IsOpen (record { entries = es; level = level }) k = open-each (record { entries = es; level = level }) k open_now in
    tree-new es level c level (omega arith) tree (omega (arith, is.within)) (omega arith)
    (λ j last. omega (arith, open-most (record { entries = es; level = level }) k j is (omega (arith, is.within, last)) (omega (arith, last))))
    room.places room.attributes

-- the innermost open node is among those that are there
innermost-within : (t : Places) (innermost : Option ℕ) → IfSome innermost (λ k. is_open_place t k ≡ true)
    → IfSome innermost (λ k. k < length t.entries)
innermost-within t None open_now = tt
innermost-within t (Some k) open_now = (open-each t k open_now).within

-- and stays open where a node comes that has ended
innermost-still : (es : List Entry) (level : ℕ) (c : Content) (innermost : Option ℕ)
    → IfSome innermost (λ k. is_open_place (record { entries = es; level = level }) k ≡ true)
    → IfSome innermost (λ k. is_open_place (record { entries = es ++ entry c level ∷ []; level = level }) k ≡ true)
innermost-still es level c None open_now = tt
innermost-still es level c (Some k) open_now =
    let old : Places = record { entries = es; level = level } in
    let new : Places = record { entries = es ++ entry c level ∷ []; level = level } in
    open-from new k (open-still es level c level (omega arith) k (open-each old k open_now))

-- the nodes of the rows with one more
entries-more : (rows : List Row) (r : Row) (level : ℕ) → r.depth ≡ level
    → map entry_of (rows ++ r ∷ []) ≡ map entry_of rows ++ entry (content_of r.content) level ∷ []
entries-more rows r level deep =
    map-append entry_of rows (r ∷ []) ∙ ap (λ (d : ℕ). map entry_of rows ++ entry (content_of r.content) d ∷ []) deep

-- A row that is put behind these, of a node that stands in the innermost open one.
pub record IsNextRow (rows : List Row) (innermost : Option ℕ) (r : Row) : Type 0 where
  pub known : AreRows rows innermost
  pub room : IsRoomFor (places_of_rows rows innermost) (content_of r.content)
  pub depth : r.depth ≡ level_of (map entry_of rows) innermost
  pub parent : r.parent ≡ innermost

module _ (rows : List Row) (innermost : Option ℕ) (r : Row) (next : IsNextRow rows innermost r) where
  abbrev before : Places
  before = places_of_rows rows innermost

  -- the tree, where this is its level
  abbrev behind : ℕ → Places
  behind after = with_node before (content_of r.content) after

  tree-behind : IsTree (behind 0).entries
  tree-behind = tree-more (map entry_of rows) innermost (content_of r.content) next.known.tree next.known.innermost_open next.room

  -- all rows stand as they do in it
  rows-behind : (after : ℕ) → before.level ≤ after → r.end ≡ end_at (behind after) (length before.entries)
      → (k : ℕ) (x : Row) → slice_get (rows ++ r ∷ []) k ≡ Some x → IsRow (behind after) k x
  rows-behind after more ends =
      let es = map entry_of rows in
      let c = content_of r.content in
      let last : IsRow (behind after) (length es) r = record {
        parent = next.parent ∙ parent-new es before.level c after more innermost refl next.known.innermost_open;
        end = ends;
      } in
      each_more (λ k x. IsRow (behind after) k x) rows r
      (λ k x here.
      row-same es before.level c after more k x (omega (arith, slice_get_within rows k x here, length-map rows entry_of)) (next.known.each k x here))
      (subst (λ (n : ℕ). IsRow (behind after) n r) (length-map rows entry_of) last)

  -- the tree with a node that is open
  places-opened : places_of_rows (rows ++ r ∷ []) (Some (length rows)) ≡ behind (suc before.level)
  places-opened =
      let es = map entry_of rows in
      let c = content_of r.content in
      let level = depth-new es before.level c before.level (omega arith) (length rows) (sym (length-map rows entry_of)) in
      let more = entries-more rows r before.level next.depth in
      ap₂ (λ (fs : List Entry) (d : ℕ). record { entries = fs; level = d }) more
      (ap (λ (fs : List Entry). suc (depth_at fs (length rows))) more ∙ ap (λ (d : ℕ). suc d) level)

  -- the tree with a node that has ended
  places-ended : places_of_rows (rows ++ r ∷ []) innermost ≡ behind before.level
  places-ended =
      let es = map entry_of rows in
      let more = entries-more rows r before.level next.depth in
      ap₂ (λ (fs : List Entry) (d : ℕ). record { entries = fs; level = d }) more
      (ap (λ (fs : List Entry). level_of fs innermost) more
      ∙ level-same es (entry (content_of r.content) before.level ∷ []) innermost (innermost-within before innermost next.known.innermost_open))

  -- the rows with one of a node that is open
  rows-opened : r.end ≡ None → AreRows (rows ++ r ∷ []) (Some (length rows))
  rows-opened ends =
      let opened : is_open_place (behind (suc before.level)) (length before.entries) ≡ true =
      open-new (map entry_of rows) before.level (content_of r.content) (suc before.level) (omega arith) (omega arith) in
      are_rows (rows ++ r ∷ []) (Some (length rows)) (behind (suc before.level)) places-opened tree-behind
      (rows-behind (suc before.level) (omega arith) (ends ∙ sym (end-open (behind (suc before.level)) (length before.entries) opened)))
      (subst (λ (n : ℕ). is_open_place (behind (suc before.level)) n ≡ true) (length-map rows entry_of) opened)

  -- the rows with one of a node that has ended
  rows-ended : r.end ≡ Some (suc (length rows)) → AreRows (rows ++ r ∷ []) innermost
  rows-ended ends =
      let es = map entry_of rows in
      let c = content_of r.content in
      let here : Some (suc (length rows)) ≡ Some (suc (length es)) = ap (λ (n : ℕ). Some (suc n)) (sym (length-map rows entry_of)) in
      are_rows (rows ++ r ∷ []) innermost (behind before.level) places-ended tree-behind
      (rows-behind before.level (omega arith) (ends ∙ here ∙ sym (end-new es before.level c before.level (omega arith) refl)))
      (innermost-still es before.level c innermost next.known.innermost_open)

-- A row is put behind these, of a node that is as deep as the level of the tree.
pub record Begins (rows after : List Row) (innermost : Option ℕ) (t : Places) (r : Row) : Type 0 where
  pub known : AreRows rows innermost
  pub places : places_of_rows rows innermost ≡ t
  pub room : IsRoomFor t (content_of r.content)
  pub depth : r.depth ≡ t.level
  pub parent : r.parent ≡ innermost
  pub items : after ≡ rows ++ r ∷ []

-- These are the rows of the tree with a node more.
pub record HasBegun (after : List Row) (innermost : Option ℕ) (t : Places) (c : Content) (level : ℕ) : Type 0 where
  pub known : AreRows after innermost
  pub places : places_of_rows after innermost ≡ with_node t c level

module _ (rows after : List Row) (innermost : Option ℕ) (t : Places) (r : Row) (begins : Begins rows after innermost t r) where
  next-row : IsNextRow rows innermost r
  next-row = record {
    known = begins.known;
    room = subst (λ (u : Places). IsRoomFor u (content_of r.content)) (sym begins.places) begins.room;
    depth = begins.depth ∙ sym (ap (λ (u : Places). u.level) begins.places);
    parent = begins.parent;
  }

  -- A node begins and is open.
  pub begins-opened : (place : ℕ) → place ≡ length rows → r.end ≡ None → HasBegun after (Some place) t (content_of r.content) (suc t.level)
  begins-opened place here ends =
      let places = places-opened rows innermost r next-row ∙ ap (λ (u : Places). with_node u (content_of r.content) (suc u.level)) begins.places in
      rw (begins.items, here) (record { known = rows-opened rows innermost r next-row ends; places = places })

  -- A node begins and has ended.
  pub begins-ended : (place : ℕ) → place ≡ length rows → r.end ≡ Some (place + 1) → HasBegun after innermost t (content_of r.content) t.level
  begins-ended place here ends =
      let last : place + 1 ≡ suc (length rows) = omega (arith, here) in
      let places = places-ended rows innermost r next-row ∙ ap (λ (u : Places). with_node u (content_of r.content) u.level) begins.places in
      rw begins.items (record { known = rows-ended rows innermost r next-row (ends ∙ ap (λ (n : ℕ). Some n) last); places = places })
