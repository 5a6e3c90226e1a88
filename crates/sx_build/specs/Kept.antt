-- What is kept of a withheld start.
use Rattle.std.specs.Prelude.{◌≡◌, ℕ, List, [], ◌∷◌, ◌++◌, length, map, take}
use Rattle.sx_lines.specs.declared.events.Pair.{Pair}
use Rattle.sx_named.specs.Named.{Name, Attribute}
use Rattle.sx_build.specs.Content.{Held, with_attribute}
use Rattle.sx_build.specs.FixUp.{Binding, Fixed, declared_for, fix_attributes, fix_up}
use Rattle.sx_build.specs.Build.{printed_name, declaration_pairs, attribute_pairs}

abbrev pub names_of_attributes : List Attribute → List Name
names_of_attributes attributes = map (λ a. a.name) attributes

abbrev pub name_with : List ℕ → List ℕ → List ℕ → Name
name_with prefix uri local = record { prefix = prefix; uri = uri; local = local }

-- a name without a prefix in no namespace
abbrev pub plain_name : List ℕ → Name
plain_name local = name_with [] [] local

-- each of these has a name without a prefix in no namespace
abbrev pub ArePlain : List Attribute → Type 0
ArePlain [] = Unit {0}
ArePlain (a ∷ rest) = (a.name ≡ plain_name a.name.local) × ArePlain rest

-- the names of attributes are these, or there are none and each attribute has a name without a prefix in no namespace
abbrev pub AreNamed : List Name → List Attribute → Type 0
AreNamed [] attributes = ArePlain attributes
AreNamed (n ∷ ns) attributes = n ∷ ns ≡ names_of_attributes attributes

abbrev pub name_prefixes : List Name → List (List ℕ)
name_prefixes names = map (λ n. n.prefix) names

-- attributes with these names, and with the values that these pairs have
abbrev pub attributes_with : List Name → List Pair → List Attribute
attributes_with [] ps = []
attributes_with (n ∷ ns) [] = []
attributes_with (n ∷ ns) (p ∷ ps) = record { name = n; value = p.value } ∷ attributes_with ns ps

-- the names of attributes that are printed as they are
abbrev pub plain_names : List Pair → List Name
plain_names pairs = map (λ p. plain_name p.name) pairs

-- An attribute fixed by itself, where an element has this prefix and its attributes have these names, of which so many
-- stand before it.
abbrev pub fixed_at : List Binding → List ℕ → List Name → List Binding → ℕ → Attribute → Fixed
fixed_at bound prefix names declared at a =
    fix_attributes bound (prefix ∷ name_prefixes names) declared (prefix ∷ name_prefixes (take at names)) (a ∷ [])

-- the same of all the attributes, one by one
abbrev pub fixed_anew : List Binding → List ℕ → List Name → List Binding → List Attribute → Fixed
fixed_anew bound prefix names declared attributes = fix_attributes bound (prefix ∷ name_prefixes names) declared (prefix ∷ []) attributes

-- a start that is held, with one attribute more
abbrev pub with_one : Held → Attribute → Held
with_one h a = record { name = h.name; attributes = with_attribute h.attributes a }

-- the pairs of a start that was fixed up
abbrev pub fixed_pairs : Fixed → List Pair
fixed_pairs f = declaration_pairs f.declared ++ attribute_pairs f.attributes

-- A start is printed with this name and these pairs, of which the first declare something: of these, so many are the
-- element's own; names are kept.
pub record HoldsAs (bound : List Binding) (h : Held) (printed prefix : List ℕ) (own : ℕ) (declared : List Binding) (pairs : List Pair)
    (names : List Name) : Type 0 where
  pub printed_is : printed ≡ printed_name h.name
  pub prefix_is : prefix ≡ h.name.prefix
  pub own_is : own ≡ length (declared_for bound h.name)
  pub declared_is : declared ≡ (fix_up bound h.name h.attributes).declared
  pub pairs_are : pairs ≡ fixed_pairs (fix_up bound h.name h.attributes)
  pub names_are : AreNamed names h.attributes
