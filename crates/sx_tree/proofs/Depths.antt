-- Which nodes are open, and what each stands in, told by the depths at all places.
use Rattle.std.proofs.Common.{◌≡◌, ℕ, zero, suc, ◌+◌, ◌-◌, ◌<◌, ◌≤◌, Bool, true, false, ◌&&◌, nat_lt, cond, List, [], ◌∷◌, ◌++◌, length, drop, Option, Some, refl, ap, ap₂, sym, ◌∙◌, length-drop, arith}
use Rattle.std.proofs.lemmas.Bool.Decides.{nat_tests}
use Rattle.std.specs.Option.{option_map_or}
use Rattle.sx_tree.specs.Places.{Entry, Places}
use Rattle.sx_tree.specs.TreeView.{IsTree, depth_at, inner, all_deeper, outward, first_place, behind_place, inside, is_open_place}
use Rattle.sx_tree.proofs.Extending.{slice_get-append}

-- ---- tests

-- a test that holds
pub less_test : (a b : ℕ) → a < b → nat_lt a b ≡ true
less_test a b less = grind (arith, nat_tests)

-- and one that fails
pub most_test : (a b : ℕ) → b ≤ a → nat_lt a b ≡ false
most_test a b most = grind (arith, nat_tests)

-- what a test says
pub test_less : (a b : ℕ) → nat_lt a b ≡ true → a < b
test_less a b is = grind (arith, nat_tests)

-- what a test that fails says
pub test_most : (a b : ℕ) → nat_lt a b ≡ false → b ≤ a
test_most a b is = grind (arith, nat_tests)

-- both hold
both_true : (a b : Bool) → (a && b) ≡ true → (a ≡ true) × (b ≡ true)
both_true true b is = (refl, is)
both_true false b is = absurd (cc)

-- the same of a test behind another
both_hold : (a b : Bool) → cond a b false ≡ true → (a ≡ true) × (b ≡ true)
both_hold true b is = (refl, is)
both_hold false b is = absurd (cc)

-- two tests each of which holds where the other does
pub tests_same : (a b : Bool) → (a ≡ true → b ≡ true) → (b ≡ true → a ≡ true) → a ≡ b
tests_same true b there back = sym (there refl)
tests_same false true there back = back refl
tests_same false false there back = refl

-- ---- depths

-- the depths of a list behind a place
pub depth_at-drop : (k j : ℕ) (es : List Entry) → depth_at (drop k es) j ≡ depth_at es (k + j)
depth_at-drop zero j es = let e : 0 + j ≡ j = omega arith in ap (λ (n : ℕ). depth_at es n) (sym e)
depth_at-drop (suc k) j [] = refl
depth_at-drop (suc k) j (e ∷ es) =
    let f : suc k + j ≡ suc (k + j) = omega arith in
    depth_at-drop k j es ∙ ap (λ (n : ℕ). depth_at (e ∷ es) n) (sym f)

-- the depths of a list with more behind it
pub depth_at-append : (es fs : List Entry) (k : ℕ) → k < length es → depth_at (es ++ fs) k ≡ depth_at es k
depth_at-append es fs k within = ap (λ (o : Option Entry). option_map_or (λ e. e.depth) o 0) (slice_get-append es fs k within)

-- the depth of one put behind
pub depth_at-last : (es : List Entry) (e : Entry) → depth_at (es ++ e ∷ []) (length es) ≡ e.depth
depth_at-last [] e = refl
depth_at-last (x ∷ es) e = depth_at-last es e

-- where all are deeper, the one at each place is
all_deeper-each : (d : ℕ) (es : List Entry) → all_deeper d es ≡ true → (j : ℕ) → j < length es → d < depth_at es j
all_deeper-each d [] all j within = absurd (omega (arith, within))
all_deeper-each d (e ∷ es) all zero within = test_less d e.depth (both_hold (nat_lt d e.depth) (all_deeper d es) all).0
all_deeper-each d (e ∷ es) all (suc j) within =
    all_deeper-each d es (both_hold (nat_lt d e.depth) (all_deeper d es) all).1 j (omega (arith, within))

-- and where the one at each place is deeper, all are
all_deeper-from : (d : ℕ) (es : List Entry) → ((j : ℕ) → j < length es → d < depth_at es j) → all_deeper d es ≡ true
all_deeper-from d [] each = refl
all_deeper-from d (e ∷ es) each =
    ap₂ (λ (a b : Bool). cond a b false) (less_test d e.depth (each 0 (omega arith)))
    (all_deeper-from d es (λ j within. each (suc j) (omega (arith, within))))

-- where all are deeper, all are in the front that is
pub inner-all : (d : ℕ) (es : List Entry) → all_deeper d es ≡ true → inner d es ≡ es
inner-all d [] all = refl
inner-all d (e ∷ es) all =
    let both = both_hold (nat_lt d e.depth) (all_deeper d es) all in
    ap (λ (b : Bool). cond b (e ∷ inner d es) []) both.0 ∙ ap (λ (l : List Entry). e ∷ l) (inner-all d es both.1)

-- ---- what is open

-- the node at a place is open: its depth is, and all behind it are deeper
pub record IsOpen (t : Places) (k : ℕ) : Type 0 where
  pub within : k < length t.entries
  pub below : depth_at t.entries k < t.level
  pub deeper : (j : ℕ) → k < j → j < length t.entries → depth_at t.entries k < depth_at t.entries j

-- what is behind a node that is open
pub open-behind : (t : Places) (k : ℕ) → is_open_place t k ≡ true → all_deeper (depth_at t.entries k) (behind_place t k) ≡ true
open-behind t k is =
    (both_true (nat_lt (depth_at t.entries k) t.level) (all_deeper (depth_at t.entries k) (behind_place t k))
    (both_true (nat_lt k (length t.entries)) (nat_lt (depth_at t.entries k) t.level && all_deeper (depth_at t.entries k) (behind_place t k)) is).1).1

-- a node that is open is so at all places
pub open-each : (t : Places) (k : ℕ) → is_open_place t k ≡ true → IsOpen t k
open-each t k is =
    let both = both_true (nat_lt k (length t.entries)) (nat_lt (depth_at t.entries k) t.level && all_deeper (depth_at t.entries k) (behind_place t k)) is in
    record {
      within = test_less k (length t.entries) both.0;
      below =
          test_less (depth_at t.entries k) t.level
          (both_true (nat_lt (depth_at t.entries k) t.level) (all_deeper (depth_at t.entries k) (behind_place t k)) both.1).0;
      deeper = λ j behind within.
          let m = j - suc k in
          let e : suc k + m ≡ j = omega (arith, behind) in
          let here : m < length (behind_place t k) = omega (arith, length-drop (suc k) t.entries, within, behind) in
          let deep = all_deeper-each (depth_at t.entries k) (behind_place t k) (open-behind t k is) m here in
          omega (arith, deep, depth_at-drop (suc k) m t.entries, ap (λ (n : ℕ). depth_at t.entries n) e);
    }

-- no node from an open one on is less deep
pub open-most : (t : Places) (k j : ℕ) → IsOpen t k → k ≤ j → j < length t.entries → depth_at t.entries k ≤ depth_at t.entries j
open-most t k j is from within = grind (arith, is.deeper j)

-- a node that is so at all places is open
pub open-from : (t : Places) (k : ℕ) → IsOpen t k → is_open_place t k ≡ true
open-from t k is =
    ap₂ (λ (a b : Bool). a && b) (less_test k (length t.entries) is.within)
    (ap₂ (λ (a b : Bool). a && b) (less_test (depth_at t.entries k) t.level is.below)
    (all_deeper-from (depth_at t.entries k) (behind_place t k)
    (λ j within.
    let deep = is.deeper (suc k + j) (omega arith) (omega (arith, within, length-drop (suc k) t.entries)) in
    omega (arith, deep, depth_at-drop (suc k) j t.entries))))

-- a node as deep as the level is not open
pub closed-from : (t : Places) (k : ℕ) → t.level ≤ depth_at t.entries k → is_open_place t k ≡ false
closed-from t k most = tests_same (is_open_place t k) false (λ is. absurd (omega (arith, most, (open-each t k is).below))) (λ is. absurd (cc))

-- all behind a node that is open are in it
pub inside-open : (t : Places) (k : ℕ) → is_open_place t k ≡ true → inside t k ≡ behind_place t k
inside-open t k is = inner-all (depth_at t.entries k) (behind_place t k) (open-behind t k is)

-- ---- what a node stands in

-- of two places, the one that is less deep is another
pub less_other : (es : List Entry) (k n d : ℕ) → k ≤ n → depth_at es k < d → d ≤ depth_at es n → k < n
less_other es k n d within less most = grind arith

-- the last place that is less deep is this one
less_last : (es : List Entry) (k n d : ℕ) → k ≤ n → depth_at es n < d → (k < n → d ≤ depth_at es n) → n ≡ k
less_last es k n d within less far = grind arith

-- a place that is less deep comes first, by whether the last one is
outward-here : (b : Bool) (es : List Entry) (d k n : ℕ) → nat_lt (depth_at es n) d ≡ b → k ≤ n → depth_at es k < d
    → (k < n → d ≤ depth_at es n) → (k < n → first_place (outward es d n) ≡ Some k)
    → first_place (cond b (n ∷ outward es (depth_at es n) n) (outward es d n)) ≡ Some k
outward-here true es d k n is within less far past =
    ap (λ (m : ℕ). Some m) (less_last es k n d within (test_less (depth_at es n) d is) far)
outward-here false es d k n is within less far past = past (less_other es k n d within less (test_most (depth_at es n) d is))

-- The first node that is less deep, going back, is the one behind which none is.
pub outward-first : (es : List Entry) (d k n : ℕ) → k < n → depth_at es k < d
    → ((j : ℕ) → k < j → j < n → d ≤ depth_at es j) → first_place (outward es d n) ≡ Some k
outward-first es d k zero within less far = absurd (omega (arith, within))
outward-first es d k (suc n) within less far =
    outward-here (nat_lt (depth_at es n) d) es d k n refl (omega (arith, within)) less (λ here. far n here (omega arith))
    (λ here. outward-first es d k n here less (λ j behind before. far j behind (omega (arith, before))))

-- at no depth, there is none
pub outward-none : (es : List Entry) (n : ℕ) → outward es 0 n ≡ []
outward-none es zero = refl
outward-none es (suc n) =
    ap (λ (b : Bool). cond b (n ∷ outward es (depth_at es n) n) (outward es 0 n)) (most_test (depth_at es n) 0 (omega arith)) ∙ outward-none es n

-- what comes behind does not change it
pub outward-append : (es fs : List Entry) (d n : ℕ) → n ≤ length es → outward (es ++ fs) d n ≡ outward es d n
outward-append es fs d zero within = refl
outward-append es fs d (suc n) within =
    let same : depth_at (es ++ fs) n ≡ depth_at es n = depth_at-append es fs n (omega (arith, within)) in
    ap (λ (a : ℕ). cond (nat_lt a d) (n ∷ outward (es ++ fs) a n) (outward (es ++ fs) d n)) same
    ∙ ap₂ (λ (l m : List ℕ). cond (nat_lt (depth_at es n) d) (n ∷ l) m)
    (outward-append es fs (depth_at es n) n (omega (arith, within)))
    (outward-append es fs d n (omega (arith, within)))

-- the node at a place, one less deep than d, and behind it none less deep than d up to n
pub record StandsIn (es : List Entry) (d n k : ℕ) : Type 0 where
  pub before : k < n
  pub depth : suc (depth_at es k) ≡ d
  pub between : (j : ℕ) → k < j → j < n → d ≤ depth_at es j

-- what is so at the places before this one, and at this one
behind_more : (es : List Entry) (d n j : ℕ) → d ≤ depth_at es (suc n) → (j < suc n → d ≤ depth_at es j) → j < suc (suc n) → d ≤ depth_at es j
behind_more es d n j here before within = grind arith

-- one step further back, by whether the last one is less deep
stands-next : (b : Bool) (es : List Entry) (d n : ℕ) → nat_lt (depth_at es n) d ≡ b → depth_at es (suc n) ≤ suc (depth_at es n)
    → d ≤ depth_at es (suc n) → (d ≤ depth_at es n → (k : ℕ) × StandsIn es d (suc n) k) → (k : ℕ) × StandsIn es d (suc (suc n)) k
stands-next true es d n is step most past = (
  n,
  record {
    before = omega arith;
    depth = omega (arith, test_less (depth_at es n) d is, step, most);
    between = λ j behind before. let e : j ≡ suc n = omega (arith, behind, before) in rw e most;
  },
)
stands-next false es d n is step most past =
    let (k, there) = past (test_most (depth_at es n) d is) in (
      k,
      record {
        before = omega (arith, there.before);
        depth = there.depth;
        between = λ j behind before. behind_more es d n j most (there.between j behind) before;
      },
    )

-- Where depths go inward, each node but the first stands in one that is one less deep.
pub stands : (es : List Entry) → IsTree es → (d n : ℕ) → 0 < d → n < length es → d ≤ depth_at es n → (k : ℕ) × StandsIn es d (suc n) k
stands es tree d zero some within most = absurd (omega (arith, tree.first, most, some))
stands es tree d (suc n) some within most =
    stands-next (nat_lt (depth_at es n) d) es d n refl (tree.inward n within).1 most
    (λ deep. stands es tree d n some (omega (arith, within)) deep)

-- no node is deeper than there are nodes before it
pub depth_at-most : (es : List Entry) → IsTree es → (k : ℕ) → k < length es → depth_at es k ≤ k
depth_at-most es tree zero within = omega (arith, tree.first)
depth_at-most es tree (suc k) within = omega (arith, (tree.inward k within).1, depth_at-most es tree k (omega (arith, within)))
