-- More events only add nodes, and what has ended stays so.
use Rattle.std.proofs.Common.{◌≡◌, ℕ, zero, suc, ◌-◌, ◌<◌, ◌≤◌, Bool, true, false, ◌&&◌, nat_lt, cond, List, [], ◌∷◌, ◌++◌, length, drop, slice_get, Option, refl, ap, ap₂, sym, ◌∙◌, append_assoc, append-nil, arith}
use Rattle.std.proofs.lemmas.Bool.Decides.{nat_tests}
use Rattle.std.proofs.lemmas.List.{drop-append-le}
use Rattle.std.specs.Option.{option_map_or}
use Rattle.sx_tree.specs.Events.{Element}
use Rattle.sx_tree.specs.Growth.{PlacesGrow}
use Rattle.sx_tree.specs.Places.{Content, element, text, instruction, Entry, entry, Places, put_event, put_events, places_of, first_places}
use Rattle.sx_tree.specs.Tree.{TreeEvent, starts, ends, says, instructs, closes}
use Rattle.sx_tree.specs.TreeView.{depth_at, inner, all_deeper, behind_place, inside, is_open_place}

-- the first of these, if there is one, is no deeper than this
abbrev pub Begins : ℕ → List Entry → Type 0
Begins d [] = Unit {0}
Begins d (e ∷ es) = e.depth ≤ d

-- The second has all nodes of the first, and behind them others, the first of which is in an open node of the first; where
-- there is none, no node has begun.
pub record Extends (t u : Places) : Type 0 where
  pub more : List Entry
  pub entries : u.entries ≡ t.entries ++ more
  pub begins : Begins t.level more
  pub level : more ≡ [] → u.level ≤ t.level

-- nor is it deeper than what is deeper
begins-deeper : (d f : ℕ) (es : List Entry) → d ≤ f → Begins d es → Begins f es
begins-deeper d f [] within begins = tt
begins-deeper d f (e ∷ es) within begins = omega (arith, within, begins)

-- a list with a first is not empty
not_empty : (e : Entry) (es : List Entry) → e ∷ es ≡ [] → ⊥
not_empty e es is = cc

-- a node begins, and more follows
extends-node : (t u : Places) (c : Content) (level : ℕ) → Extends (record { entries = t.entries ++ entry c t.level ∷ []; level = level }) u → Extends t u
extends-node t u c level next = record {
  more = entry c t.level ∷ next.more;
  entries = next.entries ∙ append_assoc t.entries (entry c t.level ∷ []) next.more;
  begins = omega arith;
  level = λ is. absurd (not_empty (entry c t.level) next.more is);
}

-- a node ends, and more follows
extends-end : (t u : Places) → Extends (record { entries = t.entries; level = t.level - 1 }) u → Extends t u
extends-end t u next = record {
  more = next.more;
  entries = next.entries;
  begins = begins-deeper (t.level - 1) t.level next.more (omega arith) next.begins;
  level = λ is. omega (arith, next.level is);
}

-- Events in turn leave all nodes, and put others behind them.
pub extends : (t : Places) (q : List (TreeEvent Element)) → Extends t (put_events t q)
extends t [] = record { more = []; entries = sym (append-nil t.entries); begins = tt; level = λ is. omega arith }
extends t (starts e ∷ q) = extends-node t (put_events (put_event t (starts e)) q) (element e) (suc t.level) (extends (put_event t (starts e)) q)
extends t (ends ∷ q) = extends-end t (put_events (put_event t ends) q) (extends (put_event t ends) q)
extends t (says s ∷ q) = extends-node t (put_events (put_event t (says s)) q) (text s) t.level (extends (put_event t (says s)) q)
extends t (instructs target content ∷ q) =
    extends-node t (put_events (put_event t (instructs target content)) q) (instruction target content) t.level
    (extends (put_event t (instructs target content)) q)
extends t (closes ∷ q) = extends-end t (put_events (put_event t closes) q) (extends (put_event t closes) q)

-- events in two parts
put_events-append : (t : Places) (p q : List (TreeEvent Element)) → put_events t (p ++ q) ≡ put_events (put_events t p) q
put_events-append t [] q = refl
put_events-append t (h ∷ p) q = put_events-append (put_event t h) p q

-- The nodes of more events.
pub places_of-extends : (p q : List (TreeEvent Element)) → Extends (places_of p) (places_of (p ++ q))
places_of-extends p q = rw (put_events-append first_places p q) (extends (places_of p) q)

-- ---- lists with more behind them

-- what stands at a place stays there
pub slice_get-append : {X : Type 0} (xs ys : List X) (k : ℕ) → k < length xs → slice_get (xs ++ ys) k ≡ slice_get xs k
slice_get-append [] ys k within = absurd (omega (arith, within))
slice_get-append (x ∷ xs) ys zero within = refl
slice_get-append (x ∷ xs) ys (suc k) within = slice_get-append xs ys k (omega (arith, within))

-- the same with one more in front, by whether it is deeper
inner-first : (b : Bool) (d : ℕ) (e : Entry) (es fs more : List Entry) → fs ≡ es ++ more → (rest : List Entry) × (cond b (e ∷ fs) [] ≡ cond b (e ∷ es) [] ++ rest)
inner-first true d e es fs more is = (more, ap (λ (l : List Entry). e ∷ l) is)
inner-first false d e es fs more is = ([], refl)

-- the front that is deeper goes on, or stays
pub inner-append : (d : ℕ) (es fs : List Entry) → (more : List Entry) × (inner d (es ++ fs) ≡ inner d es ++ more)
inner-append d [] fs = (inner d fs, refl)
inner-append d (e ∷ es) fs =
    let (more, is) = inner-append d es fs in
    inner-first (nat_lt d e.depth) d e (inner d es) (inner d (es ++ fs)) more is

-- what is not deeper fails the test
no_deeper : (d f : ℕ) → f ≤ d → nat_lt d f ≡ false
no_deeper d f within = grind (arith, nat_tests)

-- where not all are deeper, or the next is not, it stays
abbrev pub Ends : ℕ → List Entry → List Entry → Type 0
Ends d es fs = all_deeper d es ≡ true → Begins d fs

-- the same with one more in front, by whether it is deeper
inner-next : (b : Bool) (d : ℕ) (e : Entry) (es fs : List Entry) → (cond b (all_deeper d es) false ≡ true → Begins d fs)
    → (Ends d es fs → inner d (es ++ fs) ≡ inner d es) → cond b (e ∷ inner d (es ++ fs)) [] ≡ cond b (e ∷ inner d es) []
inner-next true d e es fs end same = ap (λ (l : List Entry). e ∷ l) (same end)
inner-next false d e es fs end same = refl

-- The front that is deeper stays where it has ended.
pub inner-same : (d : ℕ) (es fs : List Entry) → Ends d es fs → inner d (es ++ fs) ≡ inner d es
inner-same d [] [] end = refl
inner-same d [] (f ∷ fs) end = ap (λ (b : Bool). cond b (f ∷ inner d fs) []) (no_deeper d f.depth (end refl))
inner-same d (e ∷ es) fs end = inner-next (nat_lt d e.depth) d e es fs end (inner-same d es fs)

-- the same with one more in front, by whether it is deeper
all_deeper-next : (b x y : Bool) → (x ≡ false → y ≡ false) → cond b x false ≡ false → cond b y false ≡ false
all_deeper-next true x y same is = same is
all_deeper-next false x y same is = refl

-- where not all are deeper, more does not change it
all_deeper-append : (d : ℕ) (es fs : List Entry) → all_deeper d es ≡ false → all_deeper d (es ++ fs) ≡ false
all_deeper-append d [] fs is = absurd (cc)
all_deeper-append d (e ∷ es) fs is = all_deeper-next (nat_lt d e.depth) (all_deeper d es) (all_deeper d (es ++ fs)) (all_deeper-append d es fs) is

-- nor are all where one comes that is not
all_deeper-comes : (d : ℕ) (es : List Entry) (f : Entry) (fs : List Entry) → f.depth ≤ d → all_deeper d (es ++ f ∷ fs) ≡ false
all_deeper-comes d [] f fs within = ap (λ (b : Bool). cond b (all_deeper d fs) false) (no_deeper d f.depth within)
all_deeper-comes d (e ∷ es) f fs within =
    all_deeper-next (nat_lt d e.depth) false (all_deeper d (es ++ f ∷ fs)) (λ _. all_deeper-comes d es f fs within) (shut (nat_lt d e.depth))
  where
    shut : (b : Bool) → cond b false false ≡ false
    shut true = refl
    shut false = refl

-- ---- one place

-- a node that is not open is the last of no depth that is open
closed_level : (d level : ℕ) (b : Bool) → (nat_lt d level && b) ≡ false → b ≡ true → level ≤ d
closed_level d level b is all = grind (arith, nat_tests)

-- nothing is open at a depth that is not
closed-level : (d level : ℕ) → level ≤ d → (b : Bool) → (nat_lt d level && b) ≡ false
closed-level d level within b = ap (λ (c : Bool). c && b) (no_deeper d level within)

-- nor where not all behind it are deeper
closed-deeper : (a b : Bool) → b ≡ false → (a && b) ≡ false
closed-deeper true b is = is
closed-deeper false b is = refl

-- not open, once more has come
stays_closed : (d old_level new_level : ℕ) (es more : List Entry) (b : Bool) → all_deeper d es ≡ b → (nat_lt d old_level && b) ≡ false
    → Begins old_level more → (more ≡ [] → new_level ≤ old_level) → (nat_lt d new_level && all_deeper d (es ++ more)) ≡ false
stays_closed d old_level new_level es more false deep is begins level =
    closed-deeper (nat_lt d new_level) (all_deeper d (es ++ more)) (all_deeper-append d es more deep)
stays_closed d old_level new_level es [] true deep is begins level =
    closed-level d new_level (omega (arith, level refl, closed_level d old_level true is refl)) (all_deeper d (es ++ []))
stays_closed d old_level new_level es (f ∷ fs) true deep is begins level =
    closed-deeper (nat_lt d new_level) (all_deeper d (es ++ f ∷ fs))
    (all_deeper-comes d es f fs (omega (arith, begins, closed_level d old_level true is refl)))

module _ (t u : Places) (x : Extends t u) (k : ℕ) (within : k < length t.entries) where
  -- the node is the same
  pub entry-same : slice_get u.entries k ≡ slice_get t.entries k
  entry-same = ap (λ (es : List Entry). slice_get es k) x.entries ∙ slice_get-append t.entries x.more k within

  -- and as deep
  pub depth-same : depth_at u.entries k ≡ depth_at t.entries k
  depth-same = ap (λ (o : Option Entry). option_map_or (λ e. e.depth) o 0) entry-same

  -- behind it are more
  pub behind-more : behind_place u k ≡ behind_place t k ++ x.more
  behind-more = ap (λ (es : List Entry). drop (suc k) es) x.entries ∙ drop-append-le (suc k) t.entries x.more (omega (arith, within))

  -- what is in it, from what was behind it and what came
  inside-now : inside u k ≡ inner (depth_at t.entries k) (behind_place t k ++ x.more)
  inside-now = ap₂ (λ (d : ℕ) (es : List Entry). inner d es) depth-same behind-more

  -- what is in a node goes on
  pub inside-more : (more : List Entry) × (inside u k ≡ inside t k ++ more)
  inside-more = let (more, is) = inner-append (depth_at t.entries k) (behind_place t k) x.more in (more, inside-now ∙ is)

  -- it is open where it is the last of a depth that is open
  open_here : is_open_place t k ≡ false → (nat_lt (depth_at t.entries k) t.level && all_deeper (depth_at t.entries k) (behind_place t k)) ≡ false
  open_here is =
      let here : nat_lt k (length t.entries) ≡ true = grind (arith, nat_tests, within) in
      ap (λ (b : Bool). b && (nat_lt (depth_at t.entries k) t.level && all_deeper (depth_at t.entries k) (behind_place t k))) (sym here) ∙ is

  -- and where it has ended, it stays as it is
  pub inside-same : is_open_place t k ≡ false → inside u k ≡ inside t k
  inside-same is =
      inside-now
      ∙ inner-same (depth_at t.entries k) (behind_place t k) x.more
      (λ all. begins-deeper t.level (depth_at t.entries k) x.more
      (closed_level (depth_at t.entries k) t.level (all_deeper (depth_at t.entries k) (behind_place t k)) (open_here is) all) x.begins)

  -- nor is it open again
  pub closed-same : is_open_place t k ≡ false → is_open_place u k ≡ false
  closed-same is =
      closed-deeper (nat_lt k (length u.entries)) (nat_lt (depth_at u.entries k) u.level && all_deeper (depth_at u.entries k) (behind_place u k))
      (ap₂ (λ (d : ℕ) (es : List Entry). nat_lt d u.level && all_deeper d es) depth-same behind-more
      ∙ stays_closed (depth_at t.entries k) t.level u.level (behind_place t k) x.more (all_deeper (depth_at t.entries k) (behind_place t k)) refl (open_here is) x.begins x.level)

-- More nodes, and nothing that has ended is open.
pub places_of-grow : (p q : List (TreeEvent Element)) → PlacesGrow (places_of p) (places_of (p ++ q))
places_of-grow p q =
    let x = places_of-extends p q in
    record { more = x.more; entries = x.entries; ended = λ k within is. closed-same (places_of p) (places_of (p ++ q)) x k within is }
