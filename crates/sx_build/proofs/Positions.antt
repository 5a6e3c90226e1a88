-- The place of an attribute among others: that of the one with the same name, or behind all.
use Rattle.std.proofs.Common.{◌≡◌, ℕ, suc, ◌+◌, ◌<◌, Bool, true, false, cond, List, [], ◌∷◌, ◌++◌, length, set, slice_get, Option, Some, None, refl, ap, ap₂, sym, ◌∙◌, arith}
use Rattle.std.specs.Prelude.{bytes_eq}
use Rattle.std.specs.List.{position, position_from}
use Rattle.std.proofs.lemmas.Iterator.Adapters.{position_from-zero}
use Rattle.std.proofs.lemmas.Option.{same_Some}
use Rattle.std.proofs.lemmas.Slice.Eq.{bytes_eq-Decides}
use Rattle.sx_lines.specs.declared.events.Pair.{Pair}
use Rattle.sx_named.specs.Named.{Name, is_same_name, Attribute}
use Rattle.sx_build.specs.Content.{with_attribute}
use Rattle.sx_build.specs.Build.{printed_name, attribute_pairs}
use Rattle.sx_build.specs.Kept.{names_of_attributes, plain_name, ArePlain}

-- the place of a list's first item that passes a test, where with_attribute puts an attribute
pub record IsPlace (attributes : List Attribute) (a : Attribute) (from place : ℕ) : Type 0 where
  pub steps : ℕ
  pub is : place ≡ from + steps
  pub within : steps < length attributes
  pub passes : (b : Attribute) → slice_get attributes steps ≡ Some b → is_same_name b.name a.name ≡ true
  pub put : with_attribute attributes a ≡ set attributes steps a

abbrev has_name : Name → Name → Bool
has_name name n = is_same_name n name

first_place : (t : Bool) (b : Attribute) (rest : List Attribute) (a : Attribute) (from place : ℕ) (other : Option ℕ)
    → is_same_name b.name a.name ≡ t → cond t (Some from) other ≡ Some place → (other ≡ Some place → IsPlace rest a (from + 1) place) → IsPlace (b ∷ rest) a from place
first_place true b rest a from place other is found next =
    let here = same_Some from place found in
    record {
      steps = 0;
      is = omega arith;
      within = omega arith;
      passes = λ x there. ap (λ (y : Attribute). is_same_name y.name a.name) (sym (same_Some b x there)) ∙ is;
      put = ap (λ (t : Bool). cond t (a ∷ rest) (b ∷ with_attribute rest a)) is;
    }
first_place false b rest a from place other is found next =
    let later = next found in
    record {
      steps = suc later.steps;
      is = omega (arith, later.is);
      within = omega (arith, later.within);
      passes = later.passes;
      put = ap (λ (t : Bool). cond t (a ∷ rest) (b ∷ with_attribute rest a)) is ∙ ap (λ (x : List Attribute). b ∷ x) later.put;
    }

place_from : (attributes : List Attribute) (a : Attribute) (from place : ℕ) → position_from (has_name a.name) from (names_of_attributes attributes) ≡ Some place
    → IsPlace attributes a from place
place_from [] a from place found = absurd (cc)
place_from (b ∷ rest) a from place found =
    first_place (is_same_name b.name a.name) b rest a from place (position_from (has_name a.name) (from + 1) (names_of_attributes rest)) refl found
    (place_from rest a (from + 1) place)

no_place : (t : Bool) (from : ℕ) (other : Option ℕ) → cond t (Some from) other ≡ None → (t ≡ false) × (other ≡ None)
no_place true from other none = absurd (cc)
no_place false from other none = (refl, none)

none_from : (attributes : List Attribute) (a : Attribute) (from : ℕ) → position_from (has_name a.name) from (names_of_attributes attributes) ≡ None
    → with_attribute attributes a ≡ attributes ++ a ∷ []
none_from [] a from none = refl
none_from (b ∷ rest) a from none =
    let parts = no_place (is_same_name b.name a.name) from (position_from (has_name a.name) (from + 1) (names_of_attributes rest)) none in
    ap (λ (t : Bool). cond t (a ∷ rest) (b ∷ with_attribute rest a)) parts.0
    ∙ ap (λ (x : List Attribute). b ∷ x) (none_from rest a (from + 1) parts.1)

-- where names are kept
pub in_place : (attributes : List Attribute) (names : List Name) (a : Attribute) (at : ℕ) → names ≡ names_of_attributes attributes → Some at ≡ position (has_name a.name) names
    → with_attribute attributes a ≡ set attributes at a
in_place attributes names a at are found =
    let p = place_from attributes a 0 at
    (sym (position_from-zero (has_name a.name) (names_of_attributes attributes)) ∙ ap (position (has_name a.name)) (sym are) ∙ sym found) in
    let same : p.steps ≡ at = omega (arith, p.is) in
    p.put ∙ ap (λ (n : ℕ). set attributes n a) same

pub behind_all : (attributes : List Attribute) (names : List Name) (a : Attribute) → names ≡ names_of_attributes attributes → None ≡ position (has_name a.name) names
    → with_attribute attributes a ≡ attributes ++ a ∷ []
behind_all attributes names a are none =
    none_from attributes a 0 (sym (position_from-zero (has_name a.name) (names_of_attributes attributes)) ∙ ap (position (has_name a.name)) (sym are) ∙ sym none)

-- ---- where names are printed as they are

-- its name as it is printed
plain_printed : (n : Name) → n ≡ plain_name n.local → printed_name n ≡ n.local
plain_printed n plain = ap printed_name plain

-- the test of a pair's name is the test of the attribute's name
same_test : (b : Attribute) (local : List ℕ) → b.name ≡ plain_name b.name.local
    → bytes_eq (printed_name b.name) local ≡ is_same_name b.name (plain_name local)
same_test b local plain =
    ap (λ (s : List ℕ). bytes_eq s local) (plain_printed b.name plain)
    ∙ ap (λ (n : Name). is_same_name n (plain_name local)) (sym plain)

same_places : (attributes : List Attribute) (local : List ℕ) (from : ℕ) → ArePlain attributes
    → position_from (λ (p : Pair). bytes_eq p.name local) from (attribute_pairs attributes) ≡ position_from (has_name (plain_name local)) from (names_of_attributes attributes)
same_places [] local from plain = refl
same_places (b ∷ rest) local from plain =
    ap₂ (λ (t : Bool) (o : Option ℕ). cond t (Some from) o) (same_test b local plain.0) (same_places rest local (from + 1) plain.1)

pub plain_place : (attributes : List Attribute) (local value : List ℕ) (from place : ℕ) → ArePlain attributes
    → Some place ≡ position_from (λ (p : Pair). bytes_eq p.name local) from (attribute_pairs attributes)
    → IsPlace attributes (record { name = plain_name local; value = value }) from place
plain_place attributes local value from place plain found =
    place_from attributes (record { name = plain_name local; value = value }) from place (sym (same_places attributes local from plain) ∙ sym found)

pub plain_behind : (attributes : List Attribute) (local value : List ℕ) (from : ℕ) → ArePlain attributes
    → None ≡ position_from (λ (p : Pair). bytes_eq p.name local) from (attribute_pairs attributes)
    → let a : Attribute = record { name = plain_name local; value = value } in with_attribute attributes a ≡ attributes ++ a ∷ []
plain_behind attributes local value from plain none =
    none_from attributes (record { name = plain_name local; value = value }) from (sym (same_places attributes local from plain) ∙ sym none)

-- the name of a pair that is found
pub found_name : (b : Attribute) (local : List ℕ) → b.name ≡ plain_name b.name.local → is_same_name b.name (plain_name local) ≡ true → printed_name b.name ≡ local
found_name b local plain same = (bytes_eq-Decides (printed_name b.name) local).0 (same_test b local plain ∙ same)
