-- Fixing attributes one by one.
use Rattle.std.proofs.Common.{◌≡◌, ℕ, ◌+◌, ◌^◌, ◌<◌, ◌≤◌, ◌⊎◌, inl, inr, Bool, true, false, not, cond, List, [], ◌∷◌, ◌++◌, length, map, refl, ap, ap₂, sym, subst, ◌∙◌, arith, append_assoc, append-nil, length-append}
use Rattle.std.proofs.lemmas.List.{length-map, map-append}
use Rattle.std.specs.Prelude.{bytes_eq, ◌||◌}
use Rattle.std.proofs.lemmas.Bool.{or_right, or_parts}
use Rattle.sx_lines.specs.declared.events.Pair.{Pair}
use Rattle.sx_named.specs.Named.{Attribute}
use Rattle.sx_build.specs.FixUp.{Binding, Fixed, bind, with_prefix, put_attribute, prefixes, is_empty_text, is_bound, is_in_use, is_text_among, free_prefix, fix_attributes}
use Rattle.sx_build.specs.Build.{attribute_pairs}
use Rattle.sx_build.specs.Kept.{ArePlain}
use Rattle.sx_build.proofs.InForces.{bytes_eq-sym}
use Rattle.sx_build.proofs.Prefixes.{one_of-append, free_prefix-same}

-- what is declared after an attribute, and how it is printed, by whether it is bound and whether its prefix is in use
abbrev declared_by : Bool → Bool → List Binding → List ℕ → Attribute → List Binding
declared_by bound in_use declared free a = cond bound declared (cond in_use (declared ++ bind free a.name.uri ∷ []) (declared ++ bind a.name.prefix a.name.uri ∷ []))

abbrev printed_by : Bool → Bool → List ℕ → Attribute → Attribute
printed_by bound in_use free a = cond bound a (cond in_use (with_prefix free a) a)

-- the prefixes of attributes before others, the last first
abbrev pub used_after : List (List ℕ) → List Attribute → List (List ℕ)
used_after used [] = used
used_after used (a ∷ rest) = used_after (a.name.prefix ∷ used) rest

-- the fixed attributes of two lists, one behind the other
abbrev pub joined : Fixed → Fixed → Fixed
joined f g = record { declared = g.declared; attributes = f.attributes ++ g.attributes }

module _ (bound : List Binding) (present : List (List ℕ)) where
  abbrev free_with : List Binding → List ℕ
  free_with declared = free_prefix (prefixes (declared ++ bound) ++ present)

  abbrev declared_after : List Binding → List (List ℕ) → Attribute → List Binding
  declared_after declared used a = declared_by (is_bound (declared ++ bound) a.name) (is_in_use used a.name.prefix) declared (free_with declared) a

  abbrev printed_as : List Binding → List (List ℕ) → Attribute → Attribute
  printed_as declared used a = printed_by (is_bound (declared ++ bound) a.name) (is_in_use used a.name.prefix) (free_with declared) a

  by_tests : (t u : Bool) (declared : List Binding) (used : List (List ℕ)) (free : List ℕ) (a : Attribute) (rest : List Attribute)
      → cond t (put_attribute a (fix_attributes bound present declared used rest))
      (cond u (put_attribute (with_prefix free a) (fix_attributes bound present (declared ++ bind free a.name.uri ∷ []) used rest))
      (put_attribute a (fix_attributes bound present (declared ++ bind a.name.prefix a.name.uri ∷ []) used rest)))
      ≡ put_attribute (printed_by t u free a) (fix_attributes bound present (declared_by t u declared free a) used rest)
  by_tests true u declared used free a rest = refl
  by_tests false true declared used free a rest = refl
  by_tests false false declared used free a rest = refl

  -- the first attribute, and then the rest
  fix_first : (declared : List Binding) (used : List (List ℕ)) (a : Attribute) (rest : List Attribute)
      → fix_attributes bound present declared used (a ∷ rest)
      ≡ put_attribute (printed_as declared used a) (fix_attributes bound present (declared_after declared used a) (a.name.prefix ∷ used) rest)
  fix_first declared used a rest =
      by_tests (is_bound (declared ++ bound) a.name) (is_in_use used a.name.prefix) declared (a.name.prefix ∷ used) (free_with declared) a rest

  -- some attributes, and then others
  pub fix-append : (declared : List Binding) (used : List (List ℕ)) (xs ys : List Attribute)
      → fix_attributes bound present declared used (xs ++ ys)
      ≡ joined (fix_attributes bound present declared used xs)
      (fix_attributes bound present (fix_attributes bound present declared used xs).declared (used_after used xs) ys)
  fix-append declared used [] ys = refl
  fix-append declared used (x ∷ xs) ys =
      let next = declared_after declared used x in
      let f = fix_attributes bound present next (x.name.prefix ∷ used) xs in
      fix_first declared used x (xs ++ ys)
      ∙ ap (put_attribute (printed_as declared used x)) (fix-append next (x.name.prefix ∷ used) xs ys)
      ∙ ap (λ (g : Fixed). joined g (fix_attributes bound present g.declared (used_after (x.name.prefix ∷ used) xs) ys))
      (sym (fix_first declared used x xs))

  -- only whether its prefix is in use is asked of one attribute
  pub fix_one-used : (declared : List Binding) (used used' : List (List ℕ)) (a : Attribute) → is_text_among used a.name.prefix ≡ is_text_among used' a.name.prefix
      → fix_attributes bound present declared used (a ∷ []) ≡ fix_attributes bound present declared used' (a ∷ [])
  fix_one-used declared used used' a same =
      fix_first declared used a []
      ∙ ap (λ (t : Bool). put_attribute (printed_by (is_bound (declared ++ bound) a.name) (is_empty_text a.name.prefix || t) (free_with declared) a)
      (record { declared = declared_by (is_bound (declared ++ bound) a.name) (is_empty_text a.name.prefix || t) declared (free_with declared) a; attributes = [] })) same
      ∙ sym (fix_first declared used' a [])

  -- what is declared stays
  grown_by : (t u : Bool) (declared : List Binding) (free : List ℕ) (a : Attribute) → (more : List Binding) × (declared_by t u declared free a ≡ declared ++ more)
  grown_by true u declared free a = ([], sym (append-nil declared))
  grown_by false true declared free a = (bind free a.name.uri ∷ [], refl)
  grown_by false false declared free a = (bind a.name.prefix a.name.uri ∷ [], refl)

  pub declared_grows : (declared : List Binding) (used : List (List ℕ)) (attributes : List Attribute)
      → (more : List Binding) × ((fix_attributes bound present declared used attributes).declared ≡ declared ++ more)
  declared_grows declared used [] = ([], sym (append-nil declared))
  declared_grows declared used (a ∷ rest) =
      let first = grown_by (is_bound (declared ++ bound) a.name) (is_in_use used a.name.prefix) declared (free_with declared) a in
      let next = declared_grows (declared_after declared used a) (a.name.prefix ∷ used) rest in (
        first.0 ++ next.0,
        ap (λ (f : Fixed). f.declared) (fix_first declared used a rest)
            ∙ next.1
            ∙ ap (λ (d : List Binding). d ++ next.0) first.1
            ∙ append_assoc declared first.0 next.0,
      )

  -- attributes keep their values
  value_by : (t u : Bool) (free : List ℕ) (a : Attribute) → (printed_by t u free a).value ≡ a.value
  value_by true u free a = refl
  value_by false true free a = refl
  value_by false false free a = refl

  pub values_stay : (declared : List Binding) (used : List (List ℕ)) (attributes : List Attribute)
      → map (λ (p : Pair). p.value) (attribute_pairs (fix_attributes bound present declared used attributes).attributes) ≡ map (λ (a : Attribute). a.value) attributes
  values_stay declared used [] = refl
  values_stay declared used (a ∷ rest) =
      ap (λ (f : Fixed). map (λ (p : Pair). p.value) (attribute_pairs f.attributes)) (fix_first declared used a rest)
      ∙ ap₂ (λ (v : List ℕ) (vs : List (List ℕ)). v ∷ vs) (value_by (is_bound (declared ++ bound) a.name) (is_in_use used a.name.prefix) (free_with declared) a)
      (values_stay (declared_after declared used a) (a.name.prefix ∷ used) rest)

  -- attributes without a prefix in no namespace stay as they are
  pub fix_plain : (declared : List Binding) (used : List (List ℕ)) (attributes : List Attribute) → ArePlain attributes
      → fix_attributes bound present declared used attributes ≡ record { declared = declared; attributes = attributes }
  fix_plain declared used [] plain = refl
  fix_plain declared used (a ∷ rest) plain =
      let is : is_bound (declared ++ bound) a.name ≡ true = ap (is_bound (declared ++ bound)) plain.0 in
      fix_first declared used a rest
      ∙ ap (λ (t : Bool). put_attribute (printed_by t (is_in_use used a.name.prefix) (free_with declared) a)
      (fix_attributes bound present (declared_by t (is_in_use used a.name.prefix) declared (free_with declared) a) (a.name.prefix ∷ used) rest)) is
      ∙ ap (put_attribute a) (fix_plain declared (a.name.prefix ∷ used) rest plain.1)

  -- ---- one attribute

  pub fix_bound : (declared : List Binding) (used : List (List ℕ)) (a : Attribute) → is_bound (declared ++ bound) a.name ≡ true
      → fix_attributes bound present declared used (a ∷ []) ≡ record { declared = declared; attributes = a ∷ [] }
  fix_bound declared used a is =
      fix_first declared used a []
      ∙ ap (λ (t : Bool). put_attribute (printed_by t (is_in_use used a.name.prefix) (free_with declared) a)
      (record { declared = declared_by t (is_in_use used a.name.prefix) declared (free_with declared) a; attributes = [] })) is

  unbound_by : (u : Bool) (declared : List Binding) (free : List ℕ) (a : Attribute)
      → put_attribute (printed_by false u free a) (record { declared = declared_by false u declared free a; attributes = [] })
      ≡ record { declared = declared ++ bind (cond u free a.name.prefix) a.name.uri ∷ []; attributes = with_prefix (cond u free a.name.prefix) a ∷ [] }
  unbound_by true declared free a = refl
  unbound_by false declared free a = refl

  pub fix_unbound : (declared : List Binding) (used : List (List ℕ)) (a : Attribute) → is_bound (declared ++ bound) a.name ≡ false
      → let prefix = cond (is_in_use used a.name.prefix) (free_with declared) a.name.prefix in
      fix_attributes bound present declared used (a ∷ []) ≡ record { declared = declared ++ bind prefix a.name.uri ∷ []; attributes = with_prefix prefix a ∷ [] }
  fix_unbound declared used a is =
      fix_first declared used a []
      ∙ ap (λ (t : Bool). put_attribute (printed_by t (is_in_use used a.name.prefix) (free_with declared) a)
      (record { declared = declared_by t (is_in_use used a.name.prefix) declared (free_with declared) a; attributes = [] })) is
      ∙ unbound_by (is_in_use used a.name.prefix) declared (free_with declared) a

-- ---- a prefix more on the element

-- a prefix that the element or an attribute has already, or that is not declared for this start
abbrev pub IsOther : List (List ℕ) → Fixed → List ℕ → Type 0
IsOther present f p = (is_text_among present p ≡ true) ⊎ (is_text_among (prefixes f.declared) p ≡ false)

length-prefixes : (bs : List Binding) → length (prefixes bs) ≡ length bs
length-prefixes bs = length-map bs (λ (b : Binding). b.prefix)

-- a prefix that is not declared differs from one that is
differs : (declared more : List Binding) (b : Binding) (p : List ℕ) → is_text_among (prefixes ((declared ++ b ∷ []) ++ more)) p ≡ false → bytes_eq p b.prefix ≡ false
differs declared more b p not =
    let front = one_of-append (prefixes (declared ++ b ∷ [])) (prefixes more) p in
    let back = one_of-append (prefixes declared) (b.prefix ∷ []) p in
    let split : is_text_among (prefixes (declared ++ b ∷ [])) p ≡ false =
    (or_parts _ _ (sym front ∙ ap (λ (ts : List (List ℕ)). is_text_among ts p) (sym (map-append (λ (c : Binding). c.prefix) (declared ++ b ∷ []) more)) ∙ not)).0 in
    let last : (bytes_eq b.prefix p || false) ≡ false =
    (or_parts _ _ (sym back ∙ ap (λ (ts : List (List ℕ)). is_text_among ts p) (sym (map-append (λ (c : Binding). c.prefix) declared (b ∷ []))) ∙ split)).1 in
    bytes_eq-sym p b.prefix ∙ (or_parts _ _ last).0

module _ (bound : List Binding) (present : List (List ℕ)) (p : List ℕ) where
  abbrev more_present : List (List ℕ)
  more_present = present ++ p ∷ []

  abbrev IsSmall : Fixed → Type 0
  IsSmall f = length f.declared + length bound + length present < 10 ^ 64

  -- the same prefix is given
  same_free : (declared : List Binding) (f : Fixed) (more : List Binding) (uri : List ℕ)
      → f.declared ≡ (declared ++ bind (free_with bound present declared) uri ∷ []) ++ more → IsOther present f p → IsSmall f
      → free_with bound more_present declared ≡ free_with bound present declared
  same_free declared f more uri grown other small =
      let taken = prefixes (declared ++ bound) ++ present in
      let count : length taken ≡ length declared + length bound + length present =
      length-append (prefixes (declared ++ bound)) present
      ∙ ap (λ (n : ℕ). n + length present) (length-prefixes (declared ++ bound) ∙ length-append declared bound) in
      let fewer : length declared ≤ length f.declared =
      omega (
        arith,
        ap length grown,
        length-append (declared ++ bind (free_with bound present declared) uri ∷ []) more,
        length-append declared (bind (free_with bound present declared) uri ∷ []),
      ) in
      ap free_prefix (sym (append_assoc (prefixes (declared ++ bound)) present (p ∷ [])))
      ∙ free_prefix-same taken p (omega (arith, small, count, fewer)) (by other)
    where
      by : IsOther present f p → (is_text_among (prefixes (declared ++ bound) ++ present) p ≡ true) ⊎ (bytes_eq p (free_with bound present declared) ≡ false)
      by (inl there) = inl (one_of-append (prefixes (declared ++ bound)) present p ∙ or_right _ _ there)
      by (inr none) =
          inr (differs declared more (bind (free_with bound present declared) uri) p
          (ap (λ (ds : List Binding). is_text_among (prefixes ds) p) (sym grown) ∙ none))

  abbrev with_tests : Bool → Bool → List (List ℕ) → List Binding → List (List ℕ) → Attribute → List Attribute → Fixed
  with_tests t u among declared used a rest =
      put_attribute (printed_by t u (free_with bound among declared) a) (fix_attributes bound among (declared_by t u declared (free_with bound among declared) a) used rest)

  more_by : (t u : Bool) (declared : List Binding) (used : List (List ℕ)) (a : Attribute) (rest : List Attribute)
      → ((ds : List Binding) → let f = fix_attributes bound present ds used rest in IsOther present f p → IsSmall f → fix_attributes bound more_present ds used rest ≡ f)
      → let f = with_tests t u present declared used a rest in IsOther present f p → IsSmall f → with_tests t u more_present declared used a rest ≡ f
  more_by true u declared used a rest next other small = ap (put_attribute a) (next declared other small)
  more_by false true declared used a rest next other small =
      let free = free_with bound present declared in
      let ds = declared ++ bind free a.name.uri ∷ [] in
      let f = fix_attributes bound present ds used rest in
      let grown = declared_grows bound present ds used rest in
      ap (λ (x : List ℕ). put_attribute (with_prefix x a) (fix_attributes bound more_present (declared ++ bind x a.name.uri ∷ []) used rest))
      (same_free declared f grown.0 a.name.uri grown.1 other small)
      ∙ ap (put_attribute (with_prefix free a)) (next ds other small)
  more_by false false declared used a rest next other small =
      ap (put_attribute a) (next (declared ++ bind a.name.prefix a.name.uri ∷ []) other small)

  -- such a prefix changes nothing
  pub fix_more : (declared : List Binding) (used : List (List ℕ)) (attributes : List Attribute)
      → let f = fix_attributes bound present declared used attributes in IsOther present f p → IsSmall f → fix_attributes bound more_present declared used attributes ≡ f
  fix_more declared used [] other small = refl
  fix_more declared used (a ∷ rest) other small =
      let t = is_bound (declared ++ bound) a.name in
      let u = is_in_use used a.name.prefix in
      let first = fix_first bound present declared used a rest in
      fix_first bound more_present declared used a rest
      ∙ more_by t u declared (a.name.prefix ∷ used) a rest (λ ds. fix_more ds (a.name.prefix ∷ used) rest)
      (subst (λ (f : Fixed). IsOther present f p) first other) (subst IsSmall first small)
      ∙ sym first
