-- The depths of nodes go inward by one.
use Rattle.std.proofs.Common.{◌≡◌, ℕ, zero, suc, ◌+◌, ◌-◌, ◌<◌, ◌≤◌, Bool, true, false, cond, List, [], ◌∷◌, ◌++◌, length, refl, ap, sym, subst, append-nil, append_assoc, arith}
use Rattle.sx_tree.specs.Events.{Element}
use Rattle.sx_tree.specs.Growth.{MayCome, IsInStep}
use Rattle.sx_tree.specs.Places.{Content, document, element, text, instruction, Entry, entry, Places, put_event, places_of, open_count, listed}
use Rattle.sx_tree.specs.Tree.{TreeEvent, starts, ends, says, instructs, closes, tree_of}
use Rattle.sx_tree.specs.TreeView.{depth_at}
use Rattle.sx_tree.proofs.Listing.{listed-next, places_of-is}

-- behind a node of this depth, each stands in one at least and is at most one deeper than the one before it
abbrev Climbs : ℕ → List Entry → Type 0
Climbs d [] = Unit {0}
Climbs d (e ∷ es) = (0 < e.depth) × (e.depth ≤ d + 1) × Climbs e.depth es

-- the depth of the last one
abbrev last_depth : ℕ → List Entry → ℕ
last_depth d [] = d
last_depth d (e ∷ es) = last_depth e.depth es

-- a node behind them that is at most one deeper than the last
climbs-snoc : (d : ℕ) (es : List Entry) (e : Entry) → Climbs d es → 0 < e.depth → e.depth ≤ last_depth d es + 1 → Climbs d (es ++ e ∷ [])
climbs-snoc d [] e climbs some most = (some, most, tt)
climbs-snoc d (x ∷ es) e climbs some most = (climbs.0, climbs.1, climbs-snoc x.depth es e climbs.2 some most)

-- the last one is the one put behind
last_depth-snoc : (d : ℕ) (es : List Entry) (e : Entry) → last_depth d (es ++ e ∷ []) ≡ e.depth
last_depth-snoc d [] e = refl
last_depth-snoc d (x ∷ es) e = last_depth-snoc x.depth es e

-- each is no deeper than there are nodes
last_depth-most : (d : ℕ) (es : List Entry) → Climbs d es → last_depth d es ≤ d + length es
last_depth-most d [] climbs = omega arith
last_depth-most d (e ∷ es) climbs = omega (arith, climbs.1, last_depth-most e.depth es climbs.2)

-- what is so along the list is so at each place
climbs_at : (x : Entry) (es : List Entry) (k : ℕ) → Climbs x.depth es → suc k < suc (length es)
    → (0 < depth_at (x ∷ es) (suc k)) × (depth_at (x ∷ es) (suc k) ≤ depth_at (x ∷ es) k + 1)
climbs_at x [] k climbs within = absurd (omega (arith, within))
climbs_at x (e ∷ es) zero climbs within = (climbs.0, climbs.1)
climbs_at x (e ∷ es) (suc k) climbs within = climbs_at e es k climbs.2 (omega (arith, within))

-- The first node alone has no depth, those behind it go inward by one, and the next node may be one deeper than the last.
record Strides (t : Places) : Type 0 where
  rest : List Entry
  entries : t.entries ≡ entry document 0 ∷ rest
  climbs : Climbs 0 rest
  level : t.level ≤ last_depth 0 rest + 1

-- a node begins where one is open
strides-node : (t : Places) (c : Content) (level : ℕ) → Strides t → 0 < t.level → level ≤ t.level + 1
    → Strides (record { entries = t.entries ++ entry c t.level ∷ []; level = level })
strides-node t c level strides some most = record {
  rest = strides.rest ++ entry c t.level ∷ [];
  entries = ap (λ (es : List Entry). es ++ entry c t.level ∷ []) strides.entries;
  climbs = climbs-snoc 0 strides.rest (entry c t.level) strides.climbs some strides.level;
  level = omega (arith, most, last_depth-snoc 0 strides.rest (entry c t.level));
}

-- a node ends
strides-end : (t : Places) → Strides t → Strides (record { entries = t.entries; level = t.level - 1 })
strides-end t strides = record {
  rest = strides.rest;
  entries = strides.entries;
  climbs = strides.climbs;
  level = omega (arith, strides.level);
}

-- what happens where a node is open
strides-event : (t : Places) (h : TreeEvent Element) → Strides t → 0 < t.level → Strides (put_event t h)
strides-event t (starts e) strides some = strides-node t (element e) (suc t.level) strides some (omega arith)
strides-event t ends strides some = strides-end t strides
strides-event t (says s) strides some = strides-node t (text s) t.level strides some (omega arith)
strides-event t (instructs target content) strides some = strides-node t (instruction target content) t.level strides some (omega arith)
strides-event t closes strides some = strides-end t strides

-- where the document node is open, some node is
open_level : (b : Bool) (n : ℕ) → b ≡ true → 0 < cond b (suc n) 0
open_level true n is = omega arith
open_level false n is = absurd (cc)

-- what happens in turn
strides-events : (p q : List (TreeEvent Element)) → MayCome p q → Strides (listed (tree_of p)) → Strides (listed (tree_of (p ++ q)))
strides-events p [] may strides = subst (λ (es : List (TreeEvent Element)). Strides (listed (tree_of es))) (sym (append-nil p)) strides
strides-events p (h ∷ q) may strides =
    subst (λ (es : List (TreeEvent Element)). Strides (listed (tree_of es))) (append_assoc p (h ∷ []) q)
    (strides-events (p ++ h ∷ []) q may.1
    (subst (λ (t : Places). Strides t) (listed-next p h may.0)
    (strides-event (listed (tree_of p)) h strides (open_level (tree_of p).is_open (open_count (tree_of p).content) may.0.not_closed))))

-- nodes that go inward by one are in step
in_step : (t : Places) → Strides t → IsInStep t
in_step t strides =
    let size : length t.entries ≡ suc (length strides.rest) = ap (λ (es : List Entry). length es) strides.entries in
    record {
      some = omega (arith, size);
      first = ap (λ (es : List Entry). depth_at es 0) strides.entries;
      step = λ k within.
          let next : suc k ≡ k + 1 = omega arith in
          let both = climbs_at (entry document 0) strides.rest k strides.climbs (omega (arith, size, within)) in
          subst (λ (n : ℕ). (0 < depth_at t.entries n) × (depth_at t.entries n ≤ depth_at t.entries k + 1)) next
          (subst (λ (es : List Entry). (0 < depth_at es (suc k)) × (depth_at es (suc k) ≤ depth_at es k + 1)) (sym strides.entries) both);
      level = omega (arith, size, strides.level, last_depth-most 0 strides.rest strides.climbs);
    }

-- The nodes of events are in step.
pub places_of-in_step : (p : List (TreeEvent Element)) → MayCome [] p → IsInStep (places_of p)
places_of-in_step p may =
    subst (λ (t : Places). IsInStep t) (sym (places_of-is p may))
    (in_step (listed (tree_of p)) (strides-events [] p may (record { rest = []; entries = refl; climbs = tt; level = omega arith })))
