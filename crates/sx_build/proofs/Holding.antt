-- What a withheld start stands for, with one attribute more.
use Rattle.std.proofs.Common.{◌≡◌, ℕ, zero, suc, ◌+◌, ◌^◌, ◌<◌, ◌≤◌, ◌⊎◌, inl, inr, Bool, true, false, not, List, [], ◌∷◌, ◌++◌, length, take, drop, set, map, get_or, slice_get, Some, refl, ap, ap₂, sym, subst, ◌∙◌, arith, append_assoc, length-append, length-set}
use Rattle.std.specs.Prelude.{◌&&◌}
use Rattle.std.specs.Prelude.{reverse}
use Rattle.sx_build.specs.InForce.{in_force}
use Rattle.std.proofs.lemmas.List.{length-reverse, length-map, map-append, take_at, take-append-le, take-set-le, drop_at, drop-set-add, map-set}
use Rattle.std.proofs.lemmas.Option.{slice_get-get_or}
use Rattle.sx_lines.specs.declared.events.Pair.{Pair}
use Rattle.sx_named.specs.Named.{Name, Attribute}
use Rattle.sx_build.specs.Content.{Held, with_attribute}
use Rattle.sx_build.specs.FixUp.{Binding, Fixed, first_bound, is_text_among, prefixes, attribute_prefixes, declared_for, fix_attributes, fix_up}
use Rattle.sx_build.specs.Build.{declaration_pairs, attribute_pairs}
use Rattle.sx_build.specs.Kept.{names_of_attributes, AreNamed, name_prefixes, attributes_with, with_one, fixed_at, fixed_anew, fixed_pairs, HoldsAs}
use Rattle.sx_build.specs.declared.withheld.Withheld.{Withheld}
use Rattle.sx_build.specs.Withheld.{HoldsStart}
use Rattle.sx_build.proofs.Pairs.{declarations-append, length-declarations}
use Rattle.sx_build.proofs.Fixing.{joined, declared_grows, values_stay, IsOther, fix_more}
use Rattle.sx_build.proofs.Anew.{fixed_more, pairs_more, pair_behind}

-- ---- the contract of fixing anew

abbrev pub FixedAnew : List Binding → Withheld → Withheld → Type 0
FixedAnew bound v w =
    take v.own v.pairs.items ≡ declaration_pairs (take v.own v.declared.items) → length v.names.items ≤ length (drop (length v.declared.items) v.pairs.items)
    → let g = fixed_anew bound v.prefix v.names.items (take v.own v.declared.items) (attributes_with v.names.items (drop (length v.declared.items) v.pairs.items)) in
    (w.declared.items ≡ g.declared) × (w.pairs.items ≡ fixed_pairs g)

-- what is said of a start with other declarations and pairs
pub kept_holds : (bound : List Binding) (h : Held) (v w : Withheld) → w ≡ record v { declared = w.declared; pairs = w.pairs }
    → HoldsAs bound h v.name v.prefix v.own w.declared.items w.pairs.items v.names.items → HoldsStart bound h w
kept_holds bound h v w kept s =
    subst (λ (x : Withheld). HoldsAs bound h x.name x.prefix x.own w.declared.items w.pairs.items x.names.items) (sym kept) s

-- what is in force and on an element is little against the numbered prefixes
pub few : (declared outer : List Binding) (names : List Name) (prefix : List ℕ) → length declared < 2 ^ 64 → length outer < 2 ^ 64 → length names < 2 ^ 64
    → length declared + length (in_force outer) + length (prefix ∷ name_prefixes names) < 10 ^ 64
few declared outer names prefix small_declared small_outer small_names =
    omega (arith, length-append (reverse outer) first_bound, length-reverse outer, length-map names (λ (n : Name). n.prefix), small_declared, small_outer, small_names)

-- ---- names and values

pub named : (names : List Name) (attributes : List Attribute) → names ≡ names_of_attributes attributes → AreNamed names attributes
named [] [] are = tt
named [] (a ∷ rest) are = absurd (cc)
named (n ∷ ns) attributes are = are

prefixes_of : (attributes : List Attribute) → name_prefixes (names_of_attributes attributes) ≡ attribute_prefixes attributes
prefixes_of [] = refl
prefixes_of (a ∷ rest) = ap (λ (ts : List (List ℕ)). a.name.prefix ∷ ts) (prefixes_of rest)

length-names : (attributes : List Attribute) → length (names_of_attributes attributes) ≡ length attributes
length-names attributes = length-map attributes (λ (a : Attribute). a.name)

length-attribute_pairs : (attributes : List Attribute) → length (attribute_pairs attributes) ≡ length attributes
length-attribute_pairs [] = refl
length-attribute_pairs (a ∷ rest) = ap suc (length-attribute_pairs rest)

values : List Pair → List (List ℕ)
values ps = map (λ (p : Pair). p.value) ps

-- attributes are what their names and their values say
same_attributes : (attributes : List Attribute) (tail : List Pair) → map (λ (p : Pair). p.value) tail ≡ map (λ (a : Attribute). a.value) attributes
    → attributes_with (names_of_attributes attributes) tail ≡ attributes
same_attributes [] tail are = refl
same_attributes (a ∷ rest) [] are = absurd (cc)
same_attributes (a ∷ rest) (p ∷ ps) are =
    let first : p.value ≡ a.value = cc in
    let others : map (λ (q : Pair). q.value) ps ≡ map (λ (b : Attribute). b.value) rest = cc in
    ap₂ (λ (v : List ℕ) (as' : List Attribute). let b : Attribute = record { name = a.name; value = v } in b ∷ as') first (same_attributes rest ps others)

set_attributes : (names : List Name) (tail : List Pair) (at : ℕ) (name : Name) (q : Pair)
    → attributes_with (set names at name) (set tail at q) ≡ set (attributes_with names tail) at (record { name = name; value = q.value })
set_attributes [] tail at name q = refl
set_attributes (n ∷ ns) [] zero name q = refl
set_attributes (n ∷ ns) [] (suc at) name q = refl
set_attributes (n ∷ ns) (p ∷ ps) zero name q = refl
set_attributes (n ∷ ns) (p ∷ ps) (suc at) name q =
    ap (λ (rest : List Attribute). let a : Attribute = record { name = n; value = p.value } in a ∷ rest) (set_attributes ns ps at name q)

more_attributes : (names : List Name) (tail : List Pair) (name : Name) (q : Pair) → length names ≡ length tail
    → attributes_with (names ++ name ∷ []) (tail ++ q ∷ []) ≡ attributes_with names tail ++ record { name = name; value = q.value } ∷ []
more_attributes [] [] name q same = refl
more_attributes [] (p ∷ ps) name q same = absurd (cc)
more_attributes (n ∷ ns) [] name q same = absurd (cc)
more_attributes (n ∷ ns) (p ∷ ps) name q same =
    let rest : length ns ≡ length ps = omega arith in
    ap (λ (as' : List Attribute). let a : Attribute = record { name = n; value = p.value } in a ∷ as') (more_attributes ns ps name q rest)

last_there : (names : List Name) (name : Name) → slice_get (names ++ name ∷ []) (length names) ≡ Some name
last_there [] name = refl
last_there (n ∷ ns) name = last_there ns name

-- ---- a start that was fixed up

-- what is fixed anew is the fix-up
anew_is : (bound : List Binding) (prefix : List ℕ) (names : List Name) (name : Name) (attributes : List Attribute) → prefix ≡ name.prefix → names ≡ names_of_attributes attributes
    → fixed_anew bound prefix names (declared_for bound name) attributes ≡ fix_up bound name attributes
anew_is bound prefix names name attributes same are =
    ap₂ (λ (x : List ℕ) (ts : List (List ℕ)). fix_attributes bound (x ∷ ts) (declared_for bound name) (x ∷ []) attributes) same
    (ap name_prefixes are ∙ prefixes_of attributes)

module _ (bound : List Binding) (h : Held) (printed prefix : List ℕ) (own : ℕ) (declared : List Binding) (pairs : List Pair) (names : List Name)
    (s : HoldsAs bound h printed prefix own declared pairs names) where
  abbrev f : Fixed
  f = fix_up bound h.name h.attributes

  abbrev tail : List Pair
  tail = attribute_pairs f.attributes

  abbrev first : List Binding
  first = declared_for bound h.name

  abbrev grown : (more : List Binding) × (f.declared ≡ first ++ more)
  grown = declared_grows bound (h.name.prefix ∷ attribute_prefixes h.attributes) first (h.name.prefix ∷ []) h.attributes

  own_is_first : take own declared ≡ first
  own_is_first =
      ap (take own) (s.declared_is ∙ grown.1) ∙ take_at first grown.0 own (sym s.own_is)

  own_within : own ≤ length declared
  own_within = omega (arith, s.own_is, ap length s.declared_is, ap length grown.1, length-append first grown.0)

  pub split : pairs ≡ declaration_pairs declared ++ tail
  split = s.pairs_are ∙ ap (λ (ds : List Binding). declaration_pairs ds ++ tail) (sym s.declared_is)

  pub own_pairs : take own pairs ≡ declaration_pairs (take own declared)
  own_pairs =
      let whole : pairs ≡ declaration_pairs first ++ (declaration_pairs grown.0 ++ tail) =
      s.pairs_are
      ∙ ap (λ (ds : List Binding). declaration_pairs ds ++ tail) grown.1
      ∙ ap (λ (ps : List Pair). ps ++ tail) (declarations-append first grown.0)
      ∙ append_assoc (declaration_pairs first) (declaration_pairs grown.0) tail in
      ap (take own) whole
      ∙ take_at (declaration_pairs first) (declaration_pairs grown.0 ++ tail) own (length-declarations first ∙ sym s.own_is)
      ∙ ap declaration_pairs (sym own_is_first)

  pub tail_is : drop (length declared) pairs ≡ tail
  tail_is = ap (drop (length declared)) split ∙ drop_at (declaration_pairs declared) tail (length declared) (length-declarations declared)

  pub tail_values : map (λ (p : Pair). p.value) tail ≡ map (λ (a : Attribute). a.value) h.attributes
  tail_values = values_stay bound (h.name.prefix ∷ attribute_prefixes h.attributes) first (h.name.prefix ∷ []) h.attributes

  pub length-tail : length tail ≡ length h.attributes
  length-tail =
      sym (length-map tail (λ (p : Pair). p.value)) ∙ ap length tail_values ∙ length-map h.attributes (λ (a : Attribute). a.value)

  -- ---- all attributes were fixed anew

  pub fixed_holds : (names' : List Name) (attributes' : List Attribute) (pairs' pairs'' : List Pair) (declared'' : List Binding)
      → names' ≡ names_of_attributes attributes' → take own pairs' ≡ take own pairs
      → attributes_with names' (drop (length declared) pairs') ≡ attributes' → length names' ≤ length (drop (length declared) pairs')
      → (take own pairs' ≡ declaration_pairs (take own declared) → length names' ≤ length (drop (length declared) pairs')
      → let g = fixed_anew bound prefix names' (take own declared) (attributes_with names' (drop (length declared) pairs')) in
      (declared'' ≡ g.declared) × (pairs'' ≡ fixed_pairs g))
      → HoldsAs bound (record { name = h.name; attributes = attributes' }) printed prefix own declared'' pairs'' names'
  fixed_holds names' attributes' pairs' pairs'' declared'' are same_own with_values enough fixed =
      let is = fixed (same_own ∙ own_pairs) enough in
      let same : fixed_anew bound prefix names' (take own declared) (attributes_with names' (drop (length declared) pairs')) ≡ fix_up bound h.name attributes' =
      ap₂ (fixed_anew bound prefix names') own_is_first with_values ∙ anew_is bound prefix names' h.name attributes' s.prefix_is are in
      record {
        printed_is = s.printed_is;
        prefix_is = s.prefix_is;
        own_is = s.own_is;
        declared_is = is.0 ∙ ap (λ (g : Fixed). g.declared) same;
        pairs_are = is.1 ∙ ap fixed_pairs same;
        names_are = named names' attributes' are;
      }

  -- ---- an attribute takes the place of another one

  pub replaced_holds : (at skip : ℕ) (name : Name) (value : List ℕ) (names' : List Name) (pairs' pairs'' : List Pair) (declared'' : List Binding)
      → names ≡ names_of_attributes h.attributes → at < length names → skip ≡ length declared
      → with_attribute h.attributes (record { name = name; value = value }) ≡ set h.attributes at (record { name = name; value = value })
      → names' ≡ set names at name
      → ((p : Pair) → slice_get pairs (skip + at) ≡ Some p → pairs' ≡ set pairs (skip + at) (record { name = p.name; value = value }))
      → (take own pairs' ≡ declaration_pairs (take own declared) → length names' ≤ length (drop (length declared) pairs')
      → let g = fixed_anew bound prefix names' (take own declared) (attributes_with names' (drop (length declared) pairs')) in
      (declared'' ≡ g.declared) × (pairs'' ≡ fixed_pairs g))
      → HoldsAs bound (with_one h (record { name = name; value = value })) printed prefix own declared'' pairs'' names'
  replaced_holds at skip name value names' pairs' pairs'' declared'' are within is_skip in_place is_names was_set fixed =
      let a : Attribute = record { name = name; value = value } in
      let d : Pair = record { name = []; value = [] } in
      let p = get_or tail at d in
      let q : Pair = record { name = p.name; value = value } in
      let count : length names ≡ length tail = ap length are ∙ length-names h.attributes ∙ sym length-tail in
      let there : slice_get (drop skip pairs) at ≡ Some p =
      ap (λ (n : ℕ). slice_get (drop n pairs) at) is_skip ∙ ap (λ (ps : List Pair). slice_get ps at) tail_is ∙ slice_get-get_or tail at d (omega arith) in
      let new : pairs' ≡ set pairs (skip + at) q = was_set p (pair_behind pairs skip at p there) in
      let new_tail : drop (length declared) pairs' ≡ set tail at q =
      ap (drop (length declared)) (new ∙ ap (λ (n : ℕ). set pairs (n + at) q) is_skip)
      ∙ drop-set-add (length declared) pairs at q
      ∙ ap (λ (ps : List Pair). set ps at q) tail_is in
      let same_own : take own pairs' ≡ take own pairs =
      ap (take own) new ∙ take-set-le own pairs (skip + at) q (omega (arith, is_skip, own_within)) in
      let all : attributes_with names' (drop (length declared) pairs') ≡ with_attribute h.attributes a =
      ap₂ attributes_with is_names new_tail
      ∙ set_attributes names tail at name q
      ∙ ap (λ (x : List Attribute). set x at a) (ap (λ (ns : List Name). attributes_with ns tail) are ∙ same_attributes h.attributes tail tail_values)
      ∙ sym in_place in
      let new_names : names' ≡ names_of_attributes (with_attribute h.attributes a) =
      is_names ∙ ap (λ (ns : List Name). set ns at name) are
      ∙ sym (map-set (λ (b : Attribute). b.name) h.attributes at a)
      ∙ ap names_of_attributes (sym in_place) in
      fixed_holds names' (with_attribute h.attributes a) pairs' pairs'' declared'' new_names same_own all
      (omega (arith, ap length is_names, length-set names at name, ap length new_tail, length-set tail at q, count)) fixed

  -- ---- an attribute goes behind the others

  tail_count : names ≡ names_of_attributes h.attributes → length names ≡ length tail
  tail_count are = ap length are ∙ length-names h.attributes ∙ sym length-tail

  new_names : (name : Name) (value : List ℕ) → names ≡ names_of_attributes h.attributes
      → names ++ name ∷ [] ≡ names_of_attributes (h.attributes ++ record { name = name; value = value } ∷ [])
  new_names name value are =
      ap (λ (ns : List Name). ns ++ name ∷ []) are
      ∙ sym (map-append (λ (b : Attribute). b.name) h.attributes (record { name = name; value = value } ∷ []))

  -- all are fixed anew
  pub appended_holds : (name : Name) (printed' value : List ℕ) (names' : List Name) (pairs' pairs'' : List Pair) (declared'' : List Binding)
      → names ≡ names_of_attributes h.attributes
      → with_attribute h.attributes (record { name = name; value = value }) ≡ h.attributes ++ record { name = name; value = value } ∷ []
      → names' ≡ names ++ name ∷ [] → pairs' ≡ pairs ++ record { name = printed'; value = value } ∷ []
      → (take own pairs' ≡ declaration_pairs (take own declared) → length names' ≤ length (drop (length declared) pairs')
      → let g = fixed_anew bound prefix names' (take own declared) (attributes_with names' (drop (length declared) pairs')) in
      (declared'' ≡ g.declared) × (pairs'' ≡ fixed_pairs g))
      → HoldsAs bound (with_one h (record { name = name; value = value })) printed prefix own declared'' pairs'' names'
  appended_holds name printed' value names' pairs' pairs'' declared'' are behind is_names is_pairs fixed =
      let a : Attribute = record { name = name; value = value } in
      let q : Pair = record { name = printed'; value = value } in
      let front = declaration_pairs declared in
      let whole : pairs' ≡ front ++ (tail ++ q ∷ []) =
      is_pairs ∙ ap (λ (ps : List Pair). ps ++ q ∷ []) split ∙ append_assoc front tail (q ∷ []) in
      let new_tail : drop (length declared) pairs' ≡ tail ++ q ∷ [] =
      ap (drop (length declared)) whole ∙ drop_at front (tail ++ q ∷ []) (length declared) (length-declarations declared) in
      let same_own : take own pairs' ≡ take own pairs =
      ap (take own) is_pairs ∙ take-append-le own pairs (q ∷ []) (omega (arith, own_within, ap length split, length-append front tail, length-declarations declared)) in
      let all : attributes_with names' (drop (length declared) pairs') ≡ with_attribute h.attributes a =
      ap₂ attributes_with is_names new_tail
      ∙ more_attributes names tail name q (tail_count are)
      ∙ ap (λ (x : List Attribute). x ++ a ∷ []) (ap (λ (ns : List Name). attributes_with ns tail) are ∙ same_attributes h.attributes tail tail_values)
      ∙ sym behind in
      fixed_holds names' (with_attribute h.attributes a) pairs' pairs'' declared'' (is_names ∙ new_names name value are ∙ ap names_of_attributes (sym behind)) same_own all
      (omega (arith, ap length is_names, length-append names (name ∷ []), ap length new_tail, length-append tail (q ∷ []), tail_count are)) fixed

  -- it is fixed by itself
  by_itself : (name : Name) (value : List ℕ) → names ≡ names_of_attributes h.attributes
      → IsOther (prefix ∷ name_prefixes names) f name.prefix → length declared + length bound + length (prefix ∷ name_prefixes names) < 10 ^ 64
      → let a : Attribute = record { name = name; value = value } in
      let names' = names ++ name ∷ [] in
      fix_up bound h.name (h.attributes ++ a ∷ []) ≡ joined f (fixed_at bound prefix names' declared (length names) a)
  by_itself name value are other small =
      let a : Attribute = record { name = name; value = value } in
      let names' = names ++ name ∷ [] in
      let present = prefix ∷ name_prefixes names in
      let all : prefix ∷ name_prefixes names' ≡ present ++ name.prefix ∷ [] =
      ap (λ (ts : List (List ℕ)). prefix ∷ ts) (map-append (λ (n : Name). n.prefix) names (name ∷ [])) in
      let was : fixed_anew bound prefix names first h.attributes ≡ f = anew_is bound prefix names h.name h.attributes s.prefix_is are in
      let before : fixed_anew bound prefix names' first h.attributes ≡ f =
      ap (λ (ts : List (List ℕ)). fix_attributes bound ts first (prefix ∷ []) h.attributes) all
      ∙ fix_more bound present name.prefix first (prefix ∷ []) h.attributes
      (subst (λ (g : Fixed). IsOther present g name.prefix) (sym was) other)
      (omega (arith, small, ap length s.declared_is, ap (λ (g : Fixed). length g.declared) was))
      ∙ was in
      let count : length h.attributes ≡ length names = sym (ap length are ∙ length-names h.attributes) in
      let used : attribute_prefixes h.attributes ≡ name_prefixes (take (length names) names') =
      sym (prefixes_of h.attributes) ∙ ap name_prefixes (sym are) ∙ ap name_prefixes (sym (take_at names (name ∷ []) (length names) refl)) in
      sym (anew_is bound prefix names' h.name (h.attributes ++ a ∷ []) s.prefix_is (new_names name value are))
      ∙ fixed_more bound prefix names' first h.attributes (length names) a used
      ∙ ap (λ (g : Fixed). joined g (fixed_at bound prefix names' g.declared (length names) a)) before
      ∙ ap (λ (ds : List Binding). joined f (fixed_at bound prefix names' ds (length names) a)) (sym s.declared_is)

  pub placed_holds : (name : Name) (value : List ℕ) (names' : List Name) (at : ℕ) (pairs'' : List Pair) (declared'' : List Binding)
      → names ≡ names_of_attributes h.attributes
      → with_attribute h.attributes (record { name = name; value = value }) ≡ h.attributes ++ record { name = name; value = value } ∷ []
      → names' ≡ names ++ name ∷ [] → at ≡ length names
      → false ≡ (is_text_among (prefixes declared) name.prefix && not (is_text_among (prefix ∷ name_prefixes names) name.prefix))
      → length declared + length bound + length (prefix ∷ name_prefixes names) < 10 ^ 64
      → ((n : Name) → slice_get names' at ≡ Some n → declared'' ≡ (fixed_at bound prefix names' declared at (record { name = n; value = value })).declared)
      → ((n : Name) (ps : List Pair) → slice_get names' at ≡ Some n → pairs ≡ declaration_pairs declared ++ ps
      → let g = fixed_at bound prefix names' declared at (record { name = n; value = value }) in
      pairs'' ≡ declaration_pairs g.declared ++ (ps ++ attribute_pairs g.attributes))
      → HoldsAs bound (with_one h (record { name = name; value = value })) printed prefix own declared'' pairs'' names'
  placed_holds name value names' at pairs'' declared'' are behind is_names is_at not_given small declares places =
      let a : Attribute = record { name = name; value = value } in
      let there : slice_get names' at ≡ Some name =
      ap₂ slice_get is_names is_at ∙ last_there names name in
      let here : fixed_at bound prefix names' declared at a ≡ fixed_at bound prefix (names ++ name ∷ []) declared (length names) a =
      ap₂ (λ (ns : List Name) (n : ℕ). fixed_at bound prefix ns declared n a) is_names is_at in
      let is : joined f (fixed_at bound prefix names' declared at a) ≡ fix_up bound h.name (with_attribute h.attributes a) =
      ap (joined f) here
      ∙ sym (by_itself name value are (other not_given) small)
      ∙ ap (fix_up bound h.name) (sym behind) in
      record {
        printed_is = s.printed_is;
        prefix_is = s.prefix_is;
        own_is = s.own_is;
        declared_is = declares name there ∙ ap (λ (g : Fixed). g.declared) is;
        pairs_are = places name tail there split
            ∙ sym (pairs_more bound prefix names' declared f (fixed_at bound prefix names' declared at a))
            ∙ ap fixed_pairs is;
        names_are = named names' (with_attribute h.attributes a) (is_names ∙ new_names name value are ∙ ap names_of_attributes (sym behind));
      }
    where
      by : (d u : Bool) → false ≡ (d && not u) → (u ≡ true) ⊎ (d ≡ false)
      by false u isnt = inr refl
      by true true isnt = inl refl
      by true false isnt = absurd (cc)

      other : false ≡ (is_text_among (prefixes declared) name.prefix && not (is_text_among (prefix ∷ name_prefixes names) name.prefix))
          → IsOther (prefix ∷ name_prefixes names) f name.prefix
      other isnt =
          subst (λ (ds : List Binding). (is_text_among (prefix ∷ name_prefixes names) name.prefix ≡ true) ⊎ (is_text_among (prefixes ds) name.prefix ≡ false)) s.declared_is
          (by (is_text_among (prefixes declared) name.prefix) (is_text_among (prefix ∷ name_prefixes names) name.prefix) isnt)
