-- Lists in document order.
use Rattle.std.proofs.Common.{◌≡◌, ℕ, zero, suc, Bool, true, false, ◌||◌, ◌&&◌, nat_lt, nat_eq, cond, List, [], ◌∷◌, ◌⊎◌, inl, inr, refl, ap, ap₂, sym, ◌∙◌, subst, arith}
use Rattle.std.proofs.lemmas.Bool.Decides.{nat_tests}
use Rattle.std.proofs.lemmas.Cmp.{nat_cmp_total, on_total, then_total}
use Rattle.std.proofs.lemmas.List.Kept.{Contains-dedup, Contains-from_dedup, IsStrictlySortedBy-dedup}
use Rattle.std.proofs.lemmas.List.Sorted.{Contains-permutation, IsPermutation-sym}
use Rattle.std.specs.Cmp.{IsEquivalence, IsTotalOrder}
use Rattle.std.specs.List.{AllByRecursion, Contains, dedup}
use Rattle.std.specs.List.Sorted.{IsPermutation, IsSorted, IsStrictlySortedBy}
use Rattle.std.specs.Ordering.{eq_by_cmp, is_eq, nat_cmp, ordering_then}
use Rattle.std.specs.declared.cmp.Ordering.{Ordering}
use Rattle.std.specs.declared.cmp.Ordering.TheVariants.{Less, Equal, Greater}
use Rattle.sx_axes.specs.Order.{place_of, turn_of, comes_before, put_in_order, ordered, AllBehind, IsInOrder, HasSameNodes}
use Rattle.sx_tree.specs.declared.nodes.Node.{Node}
use Rattle.sx_tree.specs.declared.nodes.Node.TheVariants as node

-- ---- the order

-- by two numbers, the first first
abbrev before_by : ℕ → ℕ → ℕ → ℕ → Bool
before_by a b c d = nat_lt a c || (nat_eq a c && nat_lt b d)

-- it is transitive
before-trans_by : (a b c d e f : ℕ) → before_by a b c d ≡ true → before_by c d e f ≡ true → before_by a b e f ≡ true
before-trans_by a b c d e f first second = grind (arith, nat_tests)

-- nothing is before itself
before-itself_by : (a b : ℕ) → before_by a b a b ≡ false
before-itself_by a b = grind (arith, nat_tests)

-- of two that are not before each other, the numbers are the same
before-total_first : (a b c d : ℕ) → before_by a b c d ≡ false → before_by c d a b ≡ false → a ≡ c
before-total_first a b c d first second = grind (arith, nat_tests)

-- both of them
before-total_second : (a b c d : ℕ) → before_by a b c d ≡ false → before_by c d a b ≡ false → b ≡ d
before-total_second a b c d first second = grind (arith, nat_tests)

-- so are nodes
pub before-trans : (m n o : Node) → comes_before m n ≡ true → comes_before n o ≡ true → comes_before m o ≡ true
before-trans m n o first second = before-trans_by (place_of m) (turn_of m) (place_of n) (turn_of n) (place_of o) (turn_of o) first second

-- nor is a node
pub before-itself : (n : Node) → comes_before n n ≡ false
before-itself n = before-itself_by (place_of n) (turn_of n)

-- a node is known by its place and its turn
same-node : (m n : Node) → place_of m ≡ place_of n → turn_of m ≡ turn_of n → m ≡ n
same-node (node.At k) (node.At j) place turn = ap node.At place
same-node (node.At k) (node.Attr j i) place turn = absurd (omega (arith, turn))
same-node (node.Attr k i) (node.At j) place turn = absurd (omega (arith, turn))
same-node (node.Attr k i) (node.Attr j h) place turn = ap₂ node.Attr place (let same : i ≡ h = omega (arith, turn) in same)

-- nodes that are not before each other are one
pub before-total : (m n : Node) → comes_before m n ≡ false → comes_before n m ≡ false → m ≡ n
before-total m n first second =
    same-node m n (before-total_first (place_of m) (turn_of m) (place_of n) (turn_of n) first second)
    (before-total_second (place_of m) (turn_of m) (place_of n) (turn_of n) first second)

-- ---- members

-- a node is among these
abbrev pub Among : List Node → Node → Type 0
Among [] n = ⊥
Among (m ∷ ms) n = (n ≡ m) ⊎ Among ms n

-- what a list contains is among its nodes
pub among-contains : (ns : List Node) (n : Node) → Contains ns n → Among ns n
among-contains [] n (k, within, is) = absurd (omega (arith, within))
among-contains (m ∷ ms) n (zero, within, is) = inl (sym is)
among-contains (m ∷ ms) n (suc k, within, is) = inr (among-contains ms n (k, omega (arith, within), is))

-- a longer list contains it too
contains-later : (m : Node) (ms : List Node) (n : Node) → Contains ms n → Contains (m ∷ ms) n
contains-later m ms n (k, within, is) = (suc k, omega (arith, within), is)

-- and the other way round
pub contains-among : (ns : List Node) (n : Node) → Among ns n → Contains ns n
contains-among [] n among = absurd among
contains-among (m ∷ ms) n (inl is) = (0, omega arith, sym is)
contains-among (m ∷ ms) n (inr among) = contains-later m ms n (contains-among ms n among)

-- ---- putting a node where it belongs

-- what is behind a node is behind what is before it
behind-before : (m n : Node) (ns : List Node) → comes_before m n ≡ true → AllBehind n ns → AllBehind m ns
behind-before m n [] before behind = tt
behind-before m n (o ∷ os) before behind = (before-trans m n o before behind.0, behind-before m n os before behind.1)

-- one of these is behind the node
pub behind-among : (m n : Node) (ns : List Node) → AllBehind m ns → Among ns n → comes_before m n ≡ true
behind-among m n [] behind among = absurd among
behind-among m n (o ∷ os) behind (inl is) = subst (λ (p : Node). comes_before m p ≡ true) (sym is) behind.0
behind-among m n (o ∷ os) behind (inr among) = behind-among m n os behind.1 among

-- a list with the node where it belongs, by whether the node is before the first one, and that before the node
put-behind_by : (b c : Bool) (o n m : Node) (ms : List Node) → comes_before o n ≡ true → AllBehind o (m ∷ ms)
    → AllBehind o (put_in_order n ms)
    → AllBehind o (cond b (n ∷ m ∷ ms) (cond c (m ∷ put_in_order n ms) (m ∷ ms)))
put-behind_by true c o n m ms before behind later = (before, behind)
put-behind_by false true o n m ms before behind later = (behind.0, later)
put-behind_by false false o n m ms before behind later = behind

-- a list behind a node, with one more behind it, stays behind it
put-behind : (o n : Node) (ns : List Node) → comes_before o n ≡ true → AllBehind o ns → AllBehind o (put_in_order n ns)
put-behind o n [] before behind = (before, tt)
put-behind o n (m ∷ ms) before behind =
    put-behind_by (comes_before n m) (comes_before m n) o n m ms before behind (put-behind o n ms before behind.1)

-- by the same tests: a list in order with one more stays in order
put-in_order_by : (b c : Bool) (n m : Node) (ms : List Node) → comes_before n m ≡ b → comes_before m n ≡ c → IsInOrder (m ∷ ms)
    → IsInOrder (put_in_order n ms) → IsInOrder (cond b (n ∷ m ∷ ms) (cond c (m ∷ put_in_order n ms) (m ∷ ms)))
put-in_order_by true c n m ms first second is later = ((first, behind-before n m ms first is.0), is)
put-in_order_by false true n m ms first second is later = (put-behind m n ms second is.0, later)
put-in_order_by false false n m ms first second is later = is

-- so without them
put-in_order : (n : Node) (ns : List Node) → IsInOrder ns → IsInOrder (put_in_order n ns)
put-in_order n [] is = (tt, tt)
put-in_order n (m ∷ ms) is =
    put-in_order_by (comes_before n m) (comes_before m n) n m ms refl refl is (put-in_order n ms is.1)

-- What is put in order is in order.
pub ordered-in_order : (ns : List Node) → IsInOrder (ordered ns)
ordered-in_order [] = tt
ordered-in_order (n ∷ ns) = put-in_order n (ordered ns) (ordered-in_order ns)

-- what is among the others or is the node is among them with the node
put-among_by : (b c : Bool) (n m : Node) (ms : List Node) (o : Node) → comes_before n m ≡ b → comes_before m n ≡ c
    → Among (n ∷ m ∷ ms) o
    → (Among (n ∷ ms) o → Among (put_in_order n ms) o) → Among (cond b (n ∷ m ∷ ms) (cond c (m ∷ put_in_order n ms) (m ∷ ms))) o
put-among_by true c n m ms o first second among later = among
put-among_by false true n m ms o first second (inl is) later = inr (later (inl is))
put-among_by false true n m ms o first second (inr (inl is)) later = inl is
put-among_by false true n m ms o first second (inr (inr among)) later = inr (later (inr among))
put-among_by false false n m ms o first second (inl is) later = inl (is ∙ before-total n m first second)
put-among_by false false n m ms o first second (inr among) later = among

-- so without tests
put-among : (n : Node) (ns : List Node) (o : Node) → Among (n ∷ ns) o → Among (put_in_order n ns) o
put-among n [] o among = among
put-among n (m ∷ ms) o among =
    put-among_by (comes_before n m) (comes_before m n) n m ms o refl refl among (put-among n ms o)

-- and no others
among-put_by : (b c : Bool) (n m : Node) (ms : List Node) (o : Node)
    → Among (cond b (n ∷ m ∷ ms) (cond c (m ∷ put_in_order n ms) (m ∷ ms))) o
    → (Among (put_in_order n ms) o → Among (n ∷ ms) o) → Among (n ∷ m ∷ ms) o
among-put_by true c n m ms o among later = among
among-put_by false true n m ms o (inl is) later = inr (inl is)
among-put_by false true n m ms o (inr among) later = past (later among)
  where
    -- behind the first
    past : Among (n ∷ ms) o → Among (n ∷ m ∷ ms) o
    past (inl is) = inl is
    past (inr among) = inr (inr among)
among-put_by false false n m ms o among later = inr among

-- so without tests
among-put : (n : Node) (ns : List Node) (o : Node) → Among (put_in_order n ns) o → Among (n ∷ ns) o
among-put n [] o among = among
among-put n (m ∷ ms) o among = among-put_by (comes_before n m) (comes_before m n) n m ms o among (among-put n ms o)

-- each of the nodes is among those in order
ordered-among : (ns : List Node) (o : Node) → Among ns o → Among (ordered ns) o
ordered-among [] o among = among
ordered-among (n ∷ ns) o (inl is) = put-among n (ordered ns) o (inl is)
ordered-among (n ∷ ns) o (inr among) = put-among n (ordered ns) o (inr (ordered-among ns o among))

-- behind the same first node
later-among : (n : Node) (ms ns : List Node) (o : Node) → (Among ms o → Among ns o) → Among (n ∷ ms) o → Among (n ∷ ns) o
later-among n ms ns o goes (inl is) = inl is
later-among n ms ns o goes (inr among) = inr (goes among)

-- and each of those in order is one of the nodes
among-ordered : (ns : List Node) (o : Node) → Among (ordered ns) o → Among ns o
among-ordered [] o among = among
among-ordered (n ∷ ns) o among = later-among n (ordered ns) ns o (among-ordered ns o) (among-put n (ordered ns) o among)

-- It is the same nodes.
pub ordered-same : (ns : List Node) → HasSameNodes (ordered ns) ns
ordered-same ns o = (
  λ there. contains-among ns o (among-ordered ns o (among-contains (ordered ns) o there)),
  λ there. contains-among (ordered ns) o (ordered-among ns o (among-contains ns o there)),
)

-- ---- no two ways

-- a node is not both before and behind another
not-both : (m n : Node) → comes_before m n ≡ true → comes_before n m ≡ true → ⊥
not-both m n first second = let there = before-trans m n m first second in let not = before-itself m in cc

-- the first of two lists in order with the same nodes is the same
same-first : (m n : Node) (ms ns : List Node) → AllBehind m ms → AllBehind n ns → Among (n ∷ ns) m → Among (m ∷ ms) n → m ≡ n
same-first m n ms ns behind_m behind_n (inl is) there = is
same-first m n ms ns behind_m behind_n (inr among) (inl is) = sym is
same-first m n ms ns behind_m behind_n (inr among) (inr there) =
    absurd (not-both m n (behind-among m n ms behind_m there) (behind-among n m ns behind_n among))

-- what is behind the first of both is among the others of both
same-later : (m n : Node) (ms ns : List Node) (o : Node) → m ≡ n → AllBehind m ms → Among ms o → Among (n ∷ ns) o → Among ns o
same-later m n ms ns o same behind among (inl is) =
    absurd (let there = behind-among m o ms behind among in
    let at : o ≡ m = is ∙ sym same in
    let itself = subst (λ (p : Node). comes_before m p ≡ true) at there in
    let not = before-itself m in cc)
same-later m n ms ns o same behind among (inr there) = there

-- Two lists in order that have the same nodes are the same.
pub same-order : (ms ns : List Node) → IsInOrder ms → IsInOrder ns → ((o : Node) → Among ms o → Among ns o)
    → ((o : Node) → Among ns o → Among ms o) → ms ≡ ns
same-order [] [] is_m is_n there back = refl
same-order [] (n ∷ ns) is_m is_n there back = absurd (back n (inl refl))
same-order (m ∷ ms) [] is_m is_n there back = absurd (there m (inl refl))
same-order (m ∷ ms) (n ∷ ns) is_m is_n there back =
    let first = same-first m n ms ns is_m.0 is_n.0 (there m (inl refl)) (back n (inl refl)) in
    ap₂ (λ (o : Node) (os : List Node). o ∷ os) first
    (same-order ms ns is_m.1 is_n.1
    (λ o among. same-later m n ms ns o first is_m.0 among (there o (inr among)))
    (λ o among. same-later n m ns ms o (sym first) is_n.0 among (back o (inr among))))

-- ---- what is sorted

-- two nodes by where they stand
abbrev pub compared : Node → Node → Ordering
compared m n = ordering_then (nat_cmp (place_of m) (place_of n)) (nat_cmp (turn_of m) (turn_of n))

-- two nodes stand at one place
abbrev pub stands_with : Node → Node → Bool
stands_with m n = nat_eq (place_of m) (place_of n) && nat_eq (turn_of m) (turn_of n)

compared-total : IsTotalOrder compared
compared-total = then_total (on_total place_of nat_cmp_total) (on_total turn_of nat_cmp_total)

-- by two numbers: less is before
less-before_by : (b c d e : Bool) → ordering_then (cond b Less (cond c Equal Greater)) (cond d Less (cond e Equal Greater)) ≡ Less
    → (b || (c && d)) ≡ true
less-before_by true c d e is = refl
less-before_by false true true e is = refl
less-before_by false true false true is = absurd (cc)
less-before_by false true false false is = absurd (cc)
less-before_by false false d e is = absurd (cc)

-- so are nodes
less-before : (m n : Node) → compared m n ≡ Less → comes_before m n ≡ true
less-before m n is =
    less-before_by (nat_lt (place_of m) (place_of n)) (nat_eq (place_of m) (place_of n)) (nat_lt (turn_of m) (turn_of n))
    (nat_eq (turn_of m) (turn_of n)) is

-- by two numbers: equal is the same
ties_by : (a b c d : ℕ) → (nat_eq a c && nat_eq b d) ≡ is_eq (ordering_then (nat_cmp a c) (nat_cmp b d))
ties_by a b c d = grind (arith, nat_tests)

-- so are nodes
stands-ties : (m n : Node) → stands_with m n ≡ eq_by_cmp compared m n
stands-ties m n = ties_by (place_of m) (turn_of m) (place_of n) (turn_of n)

-- nodes that stand at one place are one
stands-same_by : (a b c d : ℕ) → (nat_eq a c && nat_eq b d) ≡ true → (a ≡ c) × (b ≡ d)
stands-same_by a b c d is = (grind (arith, nat_tests), grind (arith, nat_tests))

-- so are nodes
stands-same : (m n : Node) → stands_with m n ≡ true → m ≡ n
stands-same m n is =
    let both = stands-same_by (place_of m) (turn_of m) (place_of n) (turn_of n) is in same-node m n both.0 both.1

-- numbers are themselves
stands-itself_by : (a b : ℕ) → (nat_eq a a && nat_eq b b) ≡ true
stands-itself_by a b = grind (arith, nat_tests)

-- and the same both ways
stands-back_by : (a b c d : ℕ) → (nat_eq a c && nat_eq b d) ≡ (nat_eq c a && nat_eq d b)
stands-back_by a b c d = grind (arith, nat_tests)

stands-equal : IsEquivalence stands_with
stands-equal = record {
  refl = λ n. stands-itself_by (place_of n) (turn_of n);
  symm = λ m n. stands-back_by (place_of m) (turn_of m) (place_of n) (turn_of n);
  congr = λ m n o is. ap (λ (p : Node). stands_with p o) (stands-same m n is);
}

-- what is strictly sorted is in order
behind-sorted : (n : Node) (ms : List Node) → AllByRecursion (λ m. compared n m ≡ Less) ms → AllBehind n ms
behind-sorted n [] all = tt
behind-sorted n (m ∷ ms) all = (less-before n m all.0, behind-sorted n ms all.1)

-- so is a whole list
sorted-in_order : (ns : List Node) → IsStrictlySortedBy compared ns → IsInOrder ns
unfolding IsStrictlySortedBy
sorted-in_order [] is = tt
sorted-in_order (n ∷ ns) is = (behind-sorted n ns is.0, sorted-in_order ns is.1)

-- The nodes sorted by where they stand, and each once, are the nodes in order.
pub sorted-ordered : (ns xs : List Node) → IsPermutation ns xs → IsSorted compared xs → dedup stands_with xs ≡ ordered ns
sorted-ordered ns xs moved sorted =
    same-order (dedup stands_with xs) (ordered ns)
    (sorted-in_order (dedup stands_with xs) (IsStrictlySortedBy-dedup compared-total stands-ties xs sorted)) (ordered-in_order ns)
    (λ o among. ordered-among ns o (among-contains ns o (Contains-permutation xs ns o (IsPermutation-sym ns xs moved)
    (Contains-from_dedup stands_with xs o (contains-among (dedup stands_with xs) o among)))))
    (λ o among. among-contains (dedup stands_with xs) o (Contains-dedup stands-equal stands-same xs o
    (Contains-permutation ns xs o moved (contains-among ns o (among-ordered ns o among)))))
