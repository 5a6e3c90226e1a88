-- Going back over all places but those of ancestors.
use Rattle.std.proofs.Common.{◌≡◌, ℕ, suc, min, ◌<◌, Bool, true, false, ◌||◌, nat_lt, nat_eq, cond, List, [], ◌∷◌, ◌++◌, length, Option, Some, None, refl, ap, ap₂, sym, ◌∙◌, append-nil, arith}
use Rattle.std.specs.Option.{option_eq}
use Rattle.sx_axes.proofs.Chains.{Lies, rest_of, walks-outer}
use Rattle.sx_axes.proofs.Numbers.{less-of, at-least, is-itself, is-not, is-not_above, less-other, same-number}
use Rattle.sx_axes.proofs.Parents.{IsNearest, nearest}
use Rattle.sx_axes.proofs.Spans.{before-all, before-next, before-none, depth-past, reversed-last}
use Rattle.sx_axes.proofs.Within.{AllBelow, below-outward}
use Rattle.sx_axes.specs.Axes.{places_before, places_without, is_among, reversed, all_places, preceding_places}
use Rattle.sx_tree.specs.Places.{Places}
use Rattle.sx_tree.specs.TreeView.{depth_at, first_place, outer_places}

-- a place, if there is one, is before this
abbrev pub Below : Option ℕ → ℕ → Type 0
Below None n = Unit {0}
Below (Some k) n = k < n

-- those before a place, the last one first, but a place and what it stands in
abbrev pub remaining : Places → Option ℕ → ℕ → List ℕ
remaining t o n = reversed (places_without (rest_of outer_places t o) (places_before n (all_places t)))

-- ---- what is left out

-- what is above all of them is not among them
not-among : (n : ℕ) (os : List ℕ) → AllBelow n os → is_among n os ≡ false
not-among n [] below = refl
not-among n (k ∷ os) below = ap₂ (λ (b c : Bool). b || c) (is-not k n below.0) (not-among n os below.1)

-- what is above all of them leaves none out
without-above : (n : ℕ) (os ks : List ℕ) → AllBelow n ks → places_without (n ∷ os) ks ≡ places_without os ks
without-above n os [] below = refl
without-above n os (k ∷ ks) below =
    ap₂ (λ (b : Bool) (js : List ℕ). cond (b || is_among k os) js (k ∷ js)) (is-not_above n k below.0) (without-above n os ks below.1)

-- one more in front, if it is kept
without-first : (b : Bool) (k : ℕ) (ks js ls : List ℕ) → ls ≡ ks ++ js → cond b ls (k ∷ ls) ≡ cond b ks (k ∷ ks) ++ js
without-first true k ks js ls is = is
without-first false k ks js ls is = ap (λ (l : List ℕ). k ∷ l) is

-- of places in two parts, first what is kept of the first
without-append : (os ks js : List ℕ) → places_without os (ks ++ js) ≡ places_without os ks ++ places_without os js
without-append os [] js = refl
without-append os (k ∷ ks) js =
    without-first (is_among k os) k (places_without os ks) (places_without os js) (places_without os (ks ++ js)) (without-append os ks js)

-- those before a place are before it
before-below_first : (b : Bool) (n k : ℕ) (ks : List ℕ) → nat_lt k n ≡ b → AllBelow n ks → AllBelow n (cond b (k ∷ ks) ks)
before-below_first true n k ks is below = (less-of k n is, below)
before-below_first false n k ks is below = below

-- so are all of those
before-below : (n : ℕ) (ks : List ℕ) → AllBelow n (places_before n ks)
before-below n [] = tt
before-below n (k ∷ ks) = before-below_first (nat_lt k n) n k (places_before n ks) refl (before-below n ks)

-- a place before this and what it stands in are before this
rest-below : (t : Places) (o : Option ℕ) (n : ℕ) → Below o n → AllBelow n (rest_of outer_places t o)
rest-below t None n below = tt
rest-below t (Some k) n below = (below, below-outward n t.entries (depth_at t.entries k) k (omega (arith, below)))

-- ---- a step back

-- all before the next place are those before this one, and this one, if it is not left out
remaining-next : (t : Places) (os : List ℕ) (n : ℕ) → n < length t.entries
    → reversed (places_without os (places_before (suc n) (all_places t)))
    ≡ reversed (places_without os (places_before n (all_places t)) ++ cond (is_among n os) [] (n ∷ []))
remaining-next t os n within =
    ap (λ (ks : List ℕ). reversed (places_without os ks)) (before-next t n within)
    ∙ ap reversed (without-append os (places_before n (all_places t)) (n ∷ []))

-- the place that is met is that of an ancestor: it is left out, and its parent is next
pub remaining-outer : (t : Places) (n : ℕ) → n < length t.entries
    → remaining t (Some n) (suc n) ≡ remaining t (first_place (outer_places t n)) n
remaining-outer t n within =
    let ks = places_before n (all_places t) in
    let os = outer_places t n in
    remaining-next t (n ∷ os) n within
    ∙ ap (λ (b : Bool). reversed (places_without (n ∷ os) ks ++ cond (b || is_among n os) [] (n ∷ []))) (is-itself n)
    ∙ ap reversed (append-nil (places_without (n ∷ os) ks))
    ∙ ap reversed (without-above n os ks (before-below n (all_places t)))
    ∙ ap (λ (ps : List ℕ). reversed (places_without ps ks)) ((walks-outer t n).listed)

-- the place that is met is behind all that are left out: it is kept
pub remaining-here : (t : Places) (o : Option ℕ) (n : ℕ) → n < length t.entries → Below o n
    → remaining t o (suc n) ≡ n ∷ remaining t o n
remaining-here t o n within below =
    let ks = places_before n (all_places t) in
    let os = rest_of outer_places t o in
    remaining-next t os n within
    ∙ ap (λ (b : Bool). reversed (places_without os ks ++ cond b [] (n ∷ []))) (not-among n os (rest-below t o n below))
    ∙ reversed-last (places_without os ks) n

-- a place that is not this is before it
before-other : (b : Bool) (k n : ℕ) → nat_eq k n ≡ b → k < suc n → (Some k ≡ Some n → ⊥) → k < n
before-other true k n is before other = absurd (other (ap Some (same-number k n is)))
before-other false k n is before other = less-other k n is before

pub below-other : (o : Option ℕ) (n : ℕ) → Below o (suc n) → (o ≡ Some n → ⊥) → Below o n
below-other None n below other = tt
below-other (Some k) n below other = before-other (nat_eq k n) k n refl below other

-- the parent is before the node
pub below-parent : (t : Places) (k : ℕ) → Below (first_place (outer_places t k)) k
below-parent t k = by (first_place (outer_places t k)) ((walks-outer t k).lies)
  where
    -- as it lies
    by : (o : Option ℕ) → Lies o 0 k → Below o k
    by None lies = tt
    by (Some p) lies = lies.1

-- a place that is found equal
pub place-same : (o : Option ℕ) (n : ℕ) → option_eq nat_eq o (Some n) ≡ true → o ≡ Some n
place-same None n is = absurd (cc)
place-same (Some k) n is = ap Some (same-number k n is)

-- and one that is not
pub place-other : (o : Option ℕ) (n : ℕ) → option_eq nat_eq o (Some n) ≡ false → o ≡ Some n → ⊥
place-other o n not same = by (ap (λ (p : Option ℕ). option_eq nat_eq p (Some n)) same ∙ is-itself n)
  where
    -- it is both
    by : option_eq nat_eq o (Some n) ≡ true → ⊥
    by is = cc

-- one step back over an ancestor
pub back-outer : (t : Places) (o next : Option ℕ) (n m : ℕ) → suc m ≡ n → m < length t.entries → o ≡ Some m
    → next ≡ first_place (outer_places t m)
    → remaining t next m ≡ remaining t o n
back-outer t o next n m is within at goes =
    ap (λ (p : Option ℕ). remaining t p m) goes ∙ sym (remaining-outer t m within) ∙ ap₂ (remaining t) (sym at) is

-- one step back over another node
pub back-here : (t : Places) (o : Option ℕ) (n m : ℕ) → suc m ≡ n → m < length t.entries → Below o m
    → remaining t o n ≡ m ∷ remaining t o m
back-here t o n m is within below = ap (remaining t o) (sym is) ∙ remaining-here t o m within below

-- ---- where it begins

-- by whether it is a node of the tree: the parent is before all that is before the node
begins-below_by : (b : Bool) (t : Places) (k : ℕ) (o : Option ℕ) → nat_lt k (length t.entries) ≡ b → Below o k
    → IsNearest t.entries (depth_at t.entries k) k o → Below o (min k (length t.entries))
begins-below_by b t k None is below near = tt
begins-below_by true t k (Some p) is below near = let less = less-of k (length t.entries) is in omega (arith, less, below)
begins-below_by false t k (Some p) is below near =
    let past = at-least k (length t.entries) is in
    let flat = depth-past t.entries k past in absurd (omega (arith, flat, near.less))

-- without a test
pub begins-below : (t : Places) (k : ℕ) → Below (first_place (outer_places t k)) (min k (length t.entries))
begins-below t k =
    begins-below_by (nat_lt k (length t.entries)) t k (first_place (outer_places t k)) refl (below-parent t k)
    (nearest t.entries (depth_at t.entries k) k)

-- no place is past the last one
begins-before : (b : Bool) (t : Places) (k : ℕ) → nat_lt k (length t.entries) ≡ b
    → places_before (min k (length t.entries)) (all_places t) ≡ places_before k (all_places t)
begins-before true t k is =
    let less = less-of k (length t.entries) is in
    let same : min k (length t.entries) ≡ k = omega (arith, less) in ap (λ (n : ℕ). places_before n (all_places t)) same
begins-before false t k is =
    let past = at-least k (length t.entries) is in
    before-all t (min k (length t.entries)) (omega (arith, past)) ∙ sym (before-all t k past)

-- all before the node but its ancestors are remaining
pub begins-remaining : (t : Places) (k : ℕ) → remaining t (first_place (outer_places t k)) (min k (length t.entries)) ≡ preceding_places t k
begins-remaining t k =
    ap₂ (λ (os ks : List ℕ). reversed (places_without os ks)) (sym (walks-outer t k).listed)
    (begins-before (nat_lt k (length t.entries)) t k refl)

-- before the first place nothing is remaining
pub ends-remaining : (t : Places) (o : Option ℕ) → remaining t o 0 ≡ []
ends-remaining t o =
    ap (λ (ks : List ℕ). reversed (places_without (rest_of outer_places t o) ks)) (before-none (λ e. true) 0 0 t.entries (omega arith))
