-- Fixing all attributes anew, one by one.
use Rattle.std.proofs.Common.{◌≡◌, ℕ, zero, suc, ◌+◌, ◌<◌, ◌≤◌, Bool, true, false, List, [], ◌∷◌, ◌++◌, length, take, drop, Some, refl, ap, ap₂, sym, ◌∙◌, arith}
use Rattle.std.specs.Prelude.{slice_get, bytes_eq, ◌||◌}
use Rattle.std.proofs.Math.Bool.{or-false}
use Rattle.std.proofs.lemmas.List.{take_all}
use Rattle.sx_lines.specs.declared.events.Pair.{Pair}
use Rattle.sx_named.specs.Named.{Name, Attribute}
use Rattle.sx_build.specs.FixUp.{Binding, Fixed, is_text_among, attribute_prefixes}
use Rattle.sx_build.specs.Build.{printed_name, declaration_pairs, attribute_pairs}
use Rattle.sx_build.specs.Kept.{attributes_with, name_prefixes, fixed_at, fixed_anew, fixed_pairs}
use Rattle.sx_build.proofs.Fixing.{used_after, joined, fix-append, fix_one-used}

-- ---- attributes by their names and values

-- the attribute at a place
pub record IsThere (names : List Name) (tail : List Pair) (at : ℕ) : Type 0 where
  pub name : Name
  pub pair : Pair
  pub name_there : slice_get names at ≡ Some name
  pub pair_there : slice_get tail at ≡ Some pair
  pub more : take (suc at) (attributes_with names tail) ≡ take at (attributes_with names tail) ++ record { name = name; value = pair.value } ∷ []
  pub before : attribute_prefixes (take at (attributes_with names tail)) ≡ name_prefixes (take at names)

is_there : (names : List Name) (tail : List Pair) (at : ℕ) → at < length names → length names ≤ length tail → IsThere names tail at
is_there [] tail at within enough = absurd (omega arith)
is_there (n ∷ ns) [] at within enough = absurd (omega arith)
is_there (n ∷ ns) (p ∷ ps) zero within enough = record { name = n; pair = p; name_there = refl; pair_there = refl; more = refl; before = refl }
is_there (n ∷ ns) (p ∷ ps) (suc at) within enough =
    let next = is_there ns ps at (omega arith) (omega arith) in
    let a : Attribute = record { name = n; value = p.value } in
    record {
      name = next.name;
      pair = next.pair;
      name_there = next.name_there;
      pair_there = next.pair_there;
      more = ap (λ (rest : List Attribute). a ∷ rest) next.more;
      before = ap (λ (ts : List (List ℕ)). n.prefix ∷ ts) next.before;
    }

-- ---- prefixes before an attribute

or_swap : (x y z : Bool) → ((x || y) || z) ≡ (y || (x || z))
or_swap true true z = refl
or_swap true false z = refl
or_swap false y z = refl

used_is : (used : List (List ℕ)) (attributes : List Attribute) (prefix : List ℕ)
    → is_text_among (used_after used attributes) prefix ≡ (is_text_among used prefix || is_text_among (attribute_prefixes attributes) prefix)
used_is used [] prefix = sym (or-false (is_text_among used prefix))
used_is used (a ∷ rest) prefix =
    used_is (a.name.prefix ∷ used) rest prefix
    ∙ or_swap (bytes_eq a.name.prefix prefix) (is_text_among used prefix) (is_text_among (attribute_prefixes rest) prefix)

used_in_order : (prefix : List ℕ) (attributes : List Attribute) (p : List ℕ) → is_text_among (used_after (prefix ∷ []) attributes) p ≡ is_text_among (prefix ∷ attribute_prefixes attributes) p
used_in_order prefix attributes p =
    used_is (prefix ∷ []) attributes p
    ∙ ap (λ (t : Bool). t || is_text_among (attribute_prefixes attributes) p) (or-false (bytes_eq prefix p))

-- ---- one attribute more

pub pairs-append : (xs ys : List Attribute) → attribute_pairs (xs ++ ys) ≡ attribute_pairs xs ++ attribute_pairs ys
pairs-append [] ys = refl
pairs-append (x ∷ xs) ys = ap (λ (ps : List Pair). let p : Pair = record { name = printed_name x.name; value = x.value } in p ∷ ps) (pairs-append xs ys)

module _ (bound : List Binding) (prefix : List ℕ) (names : List Name) (own : List Binding) where
  abbrev fixed : List Attribute → Fixed
  fixed attributes = fixed_anew bound prefix names own attributes

  -- an attribute by itself, behind these
  abbrev fixed_behind : List Attribute → ℕ → Attribute → Fixed
  fixed_behind before at a = fixed_at bound prefix names (fixed before).declared at a

  pub fixed_more : (before : List Attribute) (at : ℕ) (a : Attribute) → attribute_prefixes before ≡ name_prefixes (take at names)
      → fixed (before ++ a ∷ []) ≡ joined (fixed before) (fixed_behind before at a)
  fixed_more before at a same =
      fix-append bound (prefix ∷ name_prefixes names) own (prefix ∷ []) before (a ∷ [])
      ∙ ap (joined (fixed before))
      (fix_one-used bound (prefix ∷ name_prefixes names) (fixed before).declared (used_after (prefix ∷ []) before) (prefix ∷ name_prefixes (take at names)) a
      (used_in_order prefix before a.name.prefix ∙ ap (λ (ts : List (List ℕ)). is_text_among (prefix ∷ ts) a.name.prefix) same))

  -- the pairs of a start with one attribute more
  pub pairs_more : (f g : Fixed) → fixed_pairs (joined f g) ≡ declaration_pairs g.declared ++ (attribute_pairs f.attributes ++ attribute_pairs g.attributes)
  pairs_more f g = ap (λ (ps : List Pair). declaration_pairs g.declared ++ ps) (pairs-append f.attributes g.attributes)

  module _ (tail : List Pair) (at : ℕ) (within : at < length names) (enough : length names ≤ length tail) where
    abbrev attributes : List Attribute
    attributes = attributes_with names tail

    pub next_fixed : (declared declared' : List Binding) (pairs pairs' : List Pair) (value : List ℕ)
        → ((p : Pair) → slice_get tail at ≡ Some p → value ≡ p.value)
        → ((name : Name) → slice_get names at ≡ Some name → declared' ≡ (fixed_at bound prefix names declared at (record { name = name; value = value })).declared)
        → ((name : Name) (tail : List Pair) → slice_get names at ≡ Some name → pairs ≡ declaration_pairs declared ++ tail
        → let f = fixed_at bound prefix names declared at (record { name = name; value = value }) in
        pairs' ≡ declaration_pairs f.declared ++ (tail ++ attribute_pairs f.attributes))
        → (declared ≡ (fixed (take at attributes)).declared) × (pairs ≡ fixed_pairs (fixed (take at attributes)))
        → (declared' ≡ (fixed (take (at + 1) attributes)).declared) × (pairs' ≡ fixed_pairs (fixed (take (at + 1) attributes)))
    next_fixed declared declared' pairs pairs' value valued declares places so_far =
        let there = is_there names tail at within enough in
        let before = take at attributes in
        let a : Attribute = record { name = there.name; value = there.pair.value } in
        let one : at + 1 ≡ suc at = omega arith in
        let is : fixed (take (at + 1) attributes) ≡ joined (fixed before) (fixed_behind before at a) =
        ap (λ (n : ℕ). fixed (take n attributes)) one ∙ ap fixed there.more ∙ fixed_more before at a there.before in
        let here : fixed_at bound prefix names declared at (record { name = there.name; value = value }) ≡ fixed_behind before at a =
        ap₂ (λ (ds : List Binding) (v : List ℕ). let b : Attribute = record { name = there.name; value = v } in fixed_at bound prefix names ds at b)
        so_far.0 (valued there.pair there.pair_there) in
        let split : pairs ≡ declaration_pairs declared ++ attribute_pairs (fixed before).attributes =
        so_far.1 ∙ ap (λ (ds : List Binding). declaration_pairs ds ++ attribute_pairs (fixed before).attributes) (sym so_far.0) in (
          declares there.name there.name_there ∙ ap (λ (f : Fixed). f.declared) here ∙ ap (λ (f : Fixed). f.declared) (sym is),
          places there.name (attribute_pairs (fixed before).attributes) there.name_there split
              ∙ ap (λ (f : Fixed). declaration_pairs f.declared ++ (attribute_pairs (fixed before).attributes ++ attribute_pairs f.attributes)) here
              ∙ sym (pairs_more (fixed before) (fixed_behind before at a))
              ∙ ap fixed_pairs (sym is),
        )

-- ---- all of them

length-attributes : (names : List Name) (tail : List Pair) → length (attributes_with names tail) ≤ length names
length-attributes [] tail = omega arith
length-attributes (n ∷ ns) [] = omega arith
length-attributes (n ∷ ns) (p ∷ ps) = omega (arith, length-attributes ns ps)

pub all_fixed : (bound : List Binding) (prefix : List ℕ) (names : List Name) (own own' : List Binding) (tail tail' : List Pair) (at : ℕ) (declared : List Binding)
    (pairs : List Pair) → own ≡ own' → tail ≡ tail' → length names ≤ at
    → (let f = fixed_anew bound prefix names own (take at (attributes_with names tail)) in (declared ≡ f.declared) × (pairs ≡ fixed_pairs f))
    → (let f = fixed_anew bound prefix names own' (attributes_with names tail') in (declared ≡ f.declared) × (pairs ≡ fixed_pairs f))
all_fixed bound prefix names own own' tail tail' at declared pairs same_own same_tail enough is =
    let all : take at (attributes_with names tail) ≡ attributes_with names tail' =
    take_all at (attributes_with names tail) (omega (arith, length-attributes names tail)) ∙ ap (attributes_with names) same_tail in
    let same : fixed_anew bound prefix names own (take at (attributes_with names tail)) ≡ fixed_anew bound prefix names own' (attributes_with names tail') =
    ap₂ (fixed_anew bound prefix names) same_own all in
    (is.0 ∙ ap (λ (f : Fixed). f.declared) same, is.1 ∙ ap fixed_pairs same)

-- a pair behind others
pub pair_behind : (pairs : List Pair) (skip at : ℕ) (p : Pair) → slice_get (drop skip pairs) at ≡ Some p → slice_get pairs (skip + at) ≡ Some p
pair_behind pairs zero at p is =
    let same : 0 + at ≡ at = omega arith in
    ap (slice_get pairs) same ∙ is
pair_behind [] (suc skip) at p is = absurd (cc)
pair_behind (q ∷ pairs) (suc skip) at p is =
    let same : suc skip + at ≡ suc (skip + at) = omega arith in
    ap (slice_get (q ∷ pairs)) same ∙ pair_behind pairs skip at p is
