-- A withheld start of which no names are kept: its attributes have no prefixes and no namespaces.
use Rattle.std.proofs.Common.{◌≡◌, ℕ, zero, suc, ◌+◌, ◌<◌, true, List, [], ◌∷◌, ◌++◌, length, set, drop, slice_get, Some, None, refl, ap, ap₂, sym, subst, ◌∙◌, arith, append_assoc}
use Rattle.std.specs.Prelude.{bytes_eq, ◌==◌}
use Rattle.std.specs.List.{position_from}
use Rattle.std.proofs.lemmas.Bool.{eqb-true}
use Rattle.std.proofs.lemmas.List.{nil_from_length, set-append_right}
use Rattle.sx_lines.specs.declared.events.Pair.{Pair}
use Rattle.sx_named.specs.Named.{Name, Attribute}
use Rattle.sx_build.specs.Content.{Held, with_attribute}
use Rattle.sx_build.specs.FixUp.{Binding, Fixed, attribute_prefixes, declared_for, fix_up}
use Rattle.sx_build.specs.Build.{printed_name, declaration_pairs, attribute_pairs}
use Rattle.sx_build.specs.Kept.{names_of_attributes, plain_name, plain_names, ArePlain, AreNamed, with_one, fixed_pairs, HoldsAs}
use Rattle.sx_build.proofs.Pairs.{length-declarations}
use Rattle.sx_build.proofs.Fixing.{fix_plain}
use Rattle.sx_build.proofs.Anew.{pairs-append, pair_behind}
use Rattle.sx_build.proofs.Holding.{split, tail_is, named}
use Rattle.sx_build.proofs.Positions.{plain_place, plain_behind, found_name}

-- ---- plain attributes

abbrev plain_attribute : List ℕ → List ℕ → Attribute
plain_attribute local value = record { name = plain_name local; value = value }

plain_set : (attributes : List Attribute) (at : ℕ) (local value : List ℕ) → ArePlain attributes → ArePlain (set attributes at (plain_attribute local value))
plain_set [] at local value plain = tt
plain_set (a ∷ rest) zero local value plain = (refl, plain.1)
plain_set (a ∷ rest) (suc at) local value plain = (plain.0, plain_set rest at local value plain.1)

plain_more : (attributes : List Attribute) (local value : List ℕ) → ArePlain attributes → ArePlain (attributes ++ plain_attribute local value ∷ [])
plain_more [] local value plain = (refl, tt)
plain_more (a ∷ rest) local value plain = (plain.0, plain_more rest local value plain.1)

names_plain : (attributes : List Attribute) → ArePlain attributes → plain_names (attribute_pairs attributes) ≡ names_of_attributes attributes
names_plain [] plain = refl
names_plain (a ∷ rest) plain =
    ap₂ (λ (n : Name) (ns : List Name). n ∷ ns) (ap (λ (n : Name). plain_name (printed_name n)) plain.0 ∙ sym plain.0) (names_plain rest plain.1)

pairs_set : (attributes : List Attribute) (at : ℕ) (a : Attribute)
    → attribute_pairs (set attributes at a) ≡ set (attribute_pairs attributes) at (record { name = printed_name a.name; value = a.value })
pairs_set [] at a = refl
pairs_set (b ∷ rest) zero a = refl
pairs_set (b ∷ rest) (suc at) a = ap (λ (ps : List Pair). let p : Pair = record { name = printed_name b.name; value = b.value } in p ∷ ps) (pairs_set rest at a)

pair_there : (attributes : List Attribute) (at : ℕ) → at < length attributes
    → (b : Attribute) × (slice_get attributes at ≡ Some b) × (slice_get (attribute_pairs attributes) at ≡ Some (record { name = printed_name b.name; value = b.value }))
    × (ArePlain attributes → b.name ≡ plain_name b.name.local)
pair_there [] at within = absurd (omega arith)
pair_there (b ∷ rest) zero within = (b, refl, refl, λ plain. plain.0)
pair_there (b ∷ rest) (suc at) within =
    let next = pair_there rest at (omega arith) in (next.0, next.1, next.2, λ plain. next.3 plain.1)

-- ---- the start

module _ (bound : List Binding) (h : Held) (printed prefix : List ℕ) (own : ℕ) (declared : List Binding) (pairs : List Pair) (names : List Name)
    (s : HoldsAs bound h printed prefix own declared pairs names) (none : names ≡ []) where
  plain : ArePlain h.attributes
  plain = subst (λ (ns : List Name). AreNamed ns h.attributes) none s.names_are

  fixed_is : (attributes : List Attribute) → ArePlain attributes → fix_up bound h.name attributes ≡ record { declared = declared_for bound h.name; attributes = attributes }
  fixed_is attributes are = fix_plain bound (h.name.prefix ∷ attribute_prefixes attributes) (declared_for bound h.name) (h.name.prefix ∷ []) attributes are

  declared_is : declared ≡ declared_for bound h.name
  declared_is = s.declared_is ∙ ap (λ (f : Fixed). f.declared) (fixed_is h.attributes plain)

  tail_plain : drop (length declared) pairs ≡ attribute_pairs h.attributes
  tail_plain = tail_is bound h printed prefix own declared pairs names s ∙ ap (λ (f : Fixed). attribute_pairs f.attributes) (fixed_is h.attributes plain)

  whole : pairs ≡ declaration_pairs declared ++ attribute_pairs h.attributes
  whole = split bound h printed prefix own declared pairs names s ∙ ap (λ (f : Fixed). declaration_pairs declared ++ attribute_pairs f.attributes) (fixed_is h.attributes plain)

  -- the names of the attributes
  pub plain_names_are : plain_names (drop (length declared) pairs) ≡ names_of_attributes h.attributes
  plain_names_are = ap plain_names tail_plain ∙ names_plain h.attributes plain

  -- with other attributes of the kind
  plain_holds : (attributes' : List Attribute) (pairs' : List Pair) → ArePlain attributes' → pairs' ≡ declaration_pairs declared ++ attribute_pairs attributes'
      → HoldsAs bound (record { name = h.name; attributes = attributes' }) printed prefix own declared pairs' names
  plain_holds attributes' pairs' are is = record {
    printed_is = s.printed_is;
    prefix_is = s.prefix_is;
    own_is = s.own_is;
    declared_is = declared_is ∙ ap (λ (f : Fixed). f.declared) (sym (fixed_is attributes' are));
    pairs_are = is ∙ ap (λ (ds : List Binding). declaration_pairs ds ++ attribute_pairs attributes') declared_is ∙ ap fixed_pairs (sym (fixed_is attributes' are));
    names_are = subst (λ (ns : List Name). AreNamed ns attributes') (sym none) are;
  }

  pub plain_set_holds : (from place : ℕ) (local value : List ℕ) (found pairs' : List Pair) → from ≡ length declared → found ≡ pairs
      → Some place ≡ position_from (λ (p : Pair). bytes_eq p.name local) from (drop from found)
      → ((p : Pair) → slice_get pairs place ≡ Some p → pairs' ≡ set pairs place (record { name = p.name; value = value }))
      → HoldsAs bound (with_one h (plain_attribute local value)) printed prefix own declared pairs' names
  plain_set_holds from place local value found pairs' is_from is_found at was_set =
      let tail = attribute_pairs h.attributes in
      let rest : drop from found ≡ tail = ap₂ (λ (n : ℕ) (ps : List Pair). drop n ps) is_from is_found ∙ tail_plain in
      let p = plain_place h.attributes local value from place plain (at ∙ ap (position_from (λ (q : Pair). bytes_eq q.name local) from) rest) in
      let there = pair_there h.attributes p.steps p.within in
      let b = there.0 in
      let q : Pair = record { name = printed_name b.name; value = b.value } in
      let new : Pair = record { name = local; value = value } in
      let same_name : printed_name b.name ≡ local = found_name b local (there.3 plain) (p.passes b there.1) in
      let is_place : place ≡ length declared + p.steps = omega (arith, p.is, is_from) in
      let behind : slice_get pairs (length declared + p.steps) ≡ Some q =
      pair_behind pairs (length declared) p.steps q (ap (λ (ps : List Pair). slice_get ps p.steps) tail_plain ∙ there.2) in
      let was : pairs' ≡ set pairs (length declared + p.steps) new =
      was_set q (ap (slice_get pairs) is_place ∙ behind)
      ∙ ap₂ (λ (n : ℕ) (x : List ℕ). let r : Pair = record { name = x; value = value } in set pairs n r) is_place same_name in
      let front = declaration_pairs declared in
      let inside : set (front ++ tail) (length declared + p.steps) new ≡ front ++ set tail p.steps new =
      set-append_right front tail (length declared) (length declared + p.steps) new (length-declarations declared) (omega arith)
      ∙ ap (λ (n : ℕ). front ++ set tail n new) (omega arith) in
      subst (λ (x : List Attribute). HoldsAs bound (record { name = h.name; attributes = x }) printed prefix own declared pairs' names) (sym p.put)
      (plain_holds (set h.attributes p.steps (plain_attribute local value)) pairs' (plain_set h.attributes p.steps local value plain)
      (was ∙ ap (λ (ps : List Pair). set ps (length declared + p.steps) new) whole ∙ inside
      ∙ ap (λ (ps : List Pair). front ++ ps) (sym (pairs_set h.attributes p.steps (plain_attribute local value)))))

  pub plain_more_holds : (from : ℕ) (local value printed' : List ℕ) (found pairs' : List Pair) → from ≡ length declared → found ≡ pairs
      → None ≡ position_from (λ (p : Pair). bytes_eq p.name local) from (drop from found) → printed' ≡ local
      → pairs' ≡ pairs ++ record { name = printed'; value = value } ∷ []
      → HoldsAs bound (with_one h (plain_attribute local value)) printed prefix own declared pairs' names
  plain_more_holds from local value printed' found pairs' is_from is_found at same pushed =
      let tail = attribute_pairs h.attributes in
      let a = plain_attribute local value in
      let rest : drop from found ≡ tail = ap₂ (λ (n : ℕ) (ps : List Pair). drop n ps) is_from is_found ∙ tail_plain in
      let behind : with_attribute h.attributes a ≡ h.attributes ++ a ∷ [] =
      plain_behind h.attributes local value from plain (at ∙ ap (position_from (λ (q : Pair). bytes_eq q.name local) from) rest) in
      let front = declaration_pairs declared in
      let new : Pair = record { name = local; value = value } in
      subst (λ (x : List Attribute). HoldsAs bound (record { name = h.name; attributes = x }) printed prefix own declared pairs' names) (sym behind)
      (plain_holds (h.attributes ++ a ∷ []) pairs' (plain_more h.attributes local value plain)
      (pushed
      ∙ ap₂ (λ (ps : List Pair) (n : List ℕ). let r : Pair = record { name = n; value = value } in ps ++ r ∷ []) whole same
      ∙ append_assoc front tail (new ∷ [])
      ∙ ap (λ (ps : List Pair). front ++ ps) (sym (pairs-append h.attributes (a ∷ [])))))

  -- with the names of its attributes
  pub names_kept : (from : ℕ) (found : List Pair) (names' : List Name) → from ≡ length declared → found ≡ pairs → names' ≡ plain_names (drop from found)
      → names' ≡ names_of_attributes h.attributes
  names_kept from found names' is_from is_found are =
      are ∙ ap₂ (λ (n : ℕ) (ps : List Pair). plain_names (drop n ps)) is_from is_found ∙ plain_names_are

  pub kept_holds : (names' : List Name) → names' ≡ names_of_attributes h.attributes → HoldsAs bound h printed prefix own declared pairs names'
  kept_holds names' are = record {
    printed_is = s.printed_is;
    prefix_is = s.prefix_is;
    own_is = s.own_is;
    declared_is = s.declared_is;
    pairs_are = s.pairs_are;
    names_are = named names' h.attributes are;
  }

pub no_names : (names : List Name) (n : ℕ) → n ≡ length names → true ≡ (n == 0) → names ≡ []
no_names names n count empty = nil_from_length names (sym count ∙ eqb-true n 0 (sym empty))
