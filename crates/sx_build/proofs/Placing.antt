-- An attribute that is placed behind the others of a start.
use Rattle.std.proofs.Common.{◌≡◌, ℕ, true, false, cond, List, [], ◌∷◌, ◌++◌, take, ap, ap₂, sym, ◌∙◌, append_assoc}
use Rattle.sx_chars.specs.Names.{prefixed}
use Rattle.sx_lines.specs.declared.events.Pair.{Pair}
use Rattle.sx_named.specs.Named.{Name, Attribute}
use Rattle.sx_build.specs.FixUp.{Binding, Fixed, bind, with_prefix, is_bound, is_in_use, prefixes, free_prefix}
use Rattle.sx_build.specs.Build.{printed_name, declaration_pairs, attribute_pairs}
use Rattle.sx_build.specs.Kept.{name_prefixes, fixed_at}
use Rattle.sx_build.proofs.Fixing.{fix_bound, fix_unbound}

abbrev pair : List ℕ → List ℕ → Pair
pair name value = record { name = name; value = value }

-- the pair of an attribute goes behind the others
goes_behind : (declared declared' : List Binding) (a : Attribute) (f : Fixed) (pairs pairs' tail : List Pair) (printed : List ℕ)
    → f ≡ record { declared = declared'; attributes = a ∷ [] } → printed ≡ printed_name a.name
    → pairs' ≡ pairs ++ pair printed a.value ∷ [] → pairs ≡ declaration_pairs declared' ++ tail
    → pairs' ≡ declaration_pairs f.declared ++ (tail ++ attribute_pairs f.attributes)
goes_behind declared declared' a f pairs pairs' tail printed is named pushed are =
    pushed
    ∙ ap₂ (λ (ps : List Pair) (n : List ℕ). ps ++ pair n a.value ∷ []) are named
    ∙ append_assoc (declaration_pairs declared') tail (pair (printed_name a.name) a.value ∷ [])
    ∙ ap (λ (g : Fixed). declaration_pairs g.declared ++ (tail ++ attribute_pairs g.attributes)) (sym is)

module _ (bound : List Binding) (prefix : List ℕ) (names : List Name) (declared : List Binding) (at : ℕ) (name found : Name) (value : List ℕ) where
  abbrev used : List (List ℕ)
  used = prefix ∷ name_prefixes (take at names)

  abbrev free : List ℕ
  free = free_prefix (prefixes (declared ++ bound) ++ prefix ∷ name_prefixes names)

  abbrev this : Attribute
  this = record { name = name; value = value }

  abbrev fixed : Fixed
  fixed = fixed_at bound prefix names declared at this

  -- ---- where its prefix is bound

  bound_is : found ≡ name → true ≡ is_bound (declared ++ bound) found → fixed ≡ record { declared = declared; attributes = this ∷ [] }
  bound_is same tested = fix_bound bound (prefix ∷ name_prefixes names) declared used this (ap (is_bound (declared ++ bound)) (sym same) ∙ sym tested)

  pub bound_declares : found ≡ name → true ≡ is_bound (declared ++ bound) found → declared ≡ fixed.declared
  bound_declares same tested = ap (λ (f : Fixed). f.declared) (sym (bound_is same tested))

  pub bound_pairs : found ≡ name → true ≡ is_bound (declared ++ bound) found → (pairs pairs' tail : List Pair) (printed : List ℕ) → printed ≡ printed_name name
      → pairs' ≡ pairs ++ pair printed value ∷ [] → pairs ≡ declaration_pairs declared ++ tail
      → pairs' ≡ declaration_pairs fixed.declared ++ (tail ++ attribute_pairs fixed.attributes)
  bound_pairs same tested pairs pairs' tail printed named pushed are =
      goes_behind declared declared this fixed pairs pairs' tail printed (bound_is same tested) named pushed are

  -- ---- where a prefix is declared

  module _ (b : Binding) (is : b ≡ bind (cond (is_in_use used name.prefix) free name.prefix) name.uri) where
    unbound_is : found ≡ name → false ≡ is_bound (declared ++ bound) found
        → fixed ≡ record { declared = declared ++ b ∷ []; attributes = with_prefix b.prefix this ∷ [] }
    unbound_is same tested =
        fix_unbound bound (prefix ∷ name_prefixes names) declared used this (ap (is_bound (declared ++ bound)) (sym same) ∙ sym tested)
        ∙ ap (λ (c : Binding). let f : Fixed = record { declared = declared ++ c ∷ []; attributes = with_prefix c.prefix this ∷ [] } in f) (sym is)

    pub unbound_declares : found ≡ name → false ≡ is_bound (declared ++ bound) found → declared ++ b ∷ [] ≡ fixed.declared
    unbound_declares same tested = ap (λ (f : Fixed). f.declared) (sym (unbound_is same tested))

    pub unbound_pairs : found ≡ name → false ≡ is_bound (declared ++ bound) found → (pairs pairs' tail : List Pair) (printed : List ℕ)
        → printed ≡ prefixed b.prefix name.local
        → pairs' ≡ pairs ++ pair printed value ∷ [] → pairs ≡ declaration_pairs (declared ++ b ∷ []) ++ tail
        → pairs' ≡ declaration_pairs fixed.declared ++ (tail ++ attribute_pairs fixed.attributes)
    unbound_pairs same tested pairs pairs' tail printed named pushed are =
        goes_behind declared (declared ++ b ∷ []) (with_prefix b.prefix this) fixed pairs pairs' tail printed (unbound_is same tested) named pushed are
