-- Bindings in force, and the declarations of a start that is fixed up.
use Rattle.std.proofs.Common.{◌≡◌, ℕ, Bool, true, false, not, cond, ◌&&◌, ◌||◌, List, [], ◌∷◌, ◌++◌, Option, Some, None, ◌⊎◌, inl, inr, refl, ap, ap₂, sym, ◌∙◌, subst, append_assoc}
use Rattle.std.specs.Prelude.{bytes_eq}
use Rattle.std.specs.Str.{IsUtf8}
use Rattle.std.specs.Option.{option_or}
use Rattle.std.proofs.lemmas.Bool.{true≢false}
use Rattle.std.proofs.lemmas.Option.{same_Some}
use Rattle.std.proofs.lemmas.Slice.Eq.{bytes_eq-Decides}
use Rattle.sx_build.specs.FixUp.{Binding, Fixed, bind, binds, is_empty_text, is_text_among, is_bound, is_in_use, free_prefix, prefixes, with_prefix, put_attribute, fix_attributes, declared_for, fix_up, attribute_prefixes}
use Rattle.sx_build.proofs.InForces.{bytes_eq-sym}
use Rattle.sx_chars.specs.Names.{is_ncname}
use Rattle.sx_named.specs.Named.{Name, Attribute}
use Rattle.sx_names.specs.Scope.{ScopeBindings, bound}

-- what the first binding of a prefix binds it to
abbrev pub lookup : List Binding → List ℕ → Option (List ℕ)
lookup [] prefix = None
lookup (b ∷ bs) prefix = cond (bytes_eq b.prefix prefix) (Some b.uri) (lookup bs prefix)

-- a prefix that is a name
abbrev pub IsPrefix : List ℕ → Type 0
IsPrefix prefix = (is_ncname prefix ≡ true) × IsUtf8 prefix

-- none, or one that is a name
abbrev pub MayPrefix : List ℕ → Type 0
MayPrefix prefix = (prefix ≡ []) ⊎ IsPrefix prefix

same_bytes : (s : List ℕ) → bytes_eq s s ≡ true
same_bytes s = (bytes_eq-Decides s s).1 refl

pub lookup-append : (xs ys : List Binding) (prefix : List ℕ) → lookup (xs ++ ys) prefix ≡ option_or (lookup xs prefix) (lookup ys prefix)
lookup-append [] ys prefix = refl
lookup-append (x ∷ xs) ys prefix = by (bytes_eq x.prefix prefix) (lookup-append xs ys prefix)
  where
    by : (t : Bool) → lookup (xs ++ ys) prefix ≡ option_or (lookup xs prefix) (lookup ys prefix)
        → cond t (Some x.uri) (lookup (xs ++ ys) prefix) ≡ option_or (cond t (Some x.uri) (lookup xs prefix)) (lookup ys prefix)
    by true rest = refl
    by false rest = rest

-- what is bound to a namespace is found
binds_found : (bs : List Binding) (prefix uri : List ℕ) → binds bs prefix uri ≡ true → lookup bs prefix ≡ Some uri
binds_found [] prefix uri is = absurd (cc)
binds_found (b ∷ bs) prefix uri is = by (bytes_eq b.prefix prefix) (binds_found bs prefix uri) is
  where
    by : (t : Bool) → (binds bs prefix uri ≡ true → lookup bs prefix ≡ Some uri) → cond t (bytes_eq b.uri uri) (binds bs prefix uri) ≡ true
        → cond t (Some b.uri) (lookup bs prefix) ≡ Some uri
    by true rest is = ap (λ (u : List ℕ). Some u) ((bytes_eq-Decides b.uri uri).0 is)
    by false rest is = rest is

found_binds : (bs : List Binding) (prefix uri : List ℕ) → lookup bs prefix ≡ Some uri → binds bs prefix uri ≡ true
found_binds [] prefix uri is = absurd (cc)
found_binds (b ∷ bs) prefix uri is = by (bytes_eq b.prefix prefix) (found_binds bs prefix uri) is
  where
    by : (t : Bool) → (lookup bs prefix ≡ Some uri → binds bs prefix uri ≡ true) → cond t (Some b.uri) (lookup bs prefix) ≡ Some uri
        → cond t (bytes_eq b.uri uri) (binds bs prefix uri) ≡ true
    by true rest is = (bytes_eq-Decides b.uri uri).1 (same_Some b.uri uri is)
    by false rest is = rest is

-- a name with a prefix and a namespace is bound where its prefix is bound to it
bound_by_prefix : (bs : List Binding) (name : Name) → is_empty_text name.prefix ≡ false → is_empty_text name.uri ≡ false → is_bound bs name ≡ binds bs name.prefix name.uri
bound_by_prefix bs name some there = ap₂ (λ (x y : Bool). x || (not y && binds bs name.prefix name.uri)) there some

module _ (scope : ScopeBindings) where
  -- declarations, each prefix once, as this scope binds them
  abbrev pub AreDeclared : List Binding → Type 0
  AreDeclared [] = Unit {0}
  AreDeclared (b ∷ bs) = (bound scope b.prefix ≡ Some b.uri) × MayPrefix b.prefix × (lookup bs b.prefix ≡ None) × AreDeclared bs

  -- a prefix is in no use, or is bound to this namespace in the scope
  abbrev pub IsIn : Attribute → Type 0
  IsIn a = ((a.name.prefix ≡ []) × (a.name.uri ≡ [])) ⊎ ((bound scope a.name.prefix ≡ Some a.name.uri) × IsPrefix a.name.prefix × (is_empty_text a.name.prefix ≡ false) × (is_empty_text a.name.uri ≡ false))

  abbrev pub AreIn : List Attribute → Type 0
  AreIn [] = Unit {0}
  AreIn (a ∷ rest) = IsIn a × AreIn rest

  -- what is found among them is what the scope says
  found_in : (bs : List Binding) (prefix uri : List ℕ) → AreDeclared bs → lookup bs prefix ≡ Some uri → bound scope prefix ≡ Some uri
  found_in [] prefix uri are is = absurd (cc)
  found_in (b ∷ bs) prefix uri are is = by (bytes_eq b.prefix prefix) refl (found_in bs prefix uri are.3) is
    where
      by : (t : Bool) → bytes_eq b.prefix prefix ≡ t → (lookup bs prefix ≡ Some uri → bound scope prefix ≡ Some uri)
          → cond t (Some b.uri) (lookup bs prefix) ≡ Some uri → bound scope prefix ≡ Some uri
      by true e rest is = ap (bound scope) (sym ((bytes_eq-Decides b.prefix prefix).0 e)) ∙ are.0 ∙ is
      by false e rest is = rest is

  -- one more, whose prefix is not among them
  declared_more : (bs : List Binding) (prefix uri : List ℕ) → AreDeclared bs → lookup bs prefix ≡ None → bound scope prefix ≡ Some uri → MayPrefix prefix
      → AreDeclared (bs ++ bind prefix uri ∷ [])
  declared_more [] prefix uri are none is may = (is, may, refl, tt)
  declared_more (b ∷ bs) prefix uri are none is may = by (bytes_eq b.prefix prefix) refl none (λ n. declared_more bs prefix uri are.3 n is may)
    where
      by : (t : Bool) → bytes_eq b.prefix prefix ≡ t → cond t (Some b.uri) (lookup bs prefix) ≡ None
          → (lookup bs prefix ≡ None → AreDeclared (bs ++ bind prefix uri ∷ [])) → AreDeclared (b ∷ (bs ++ bind prefix uri ∷ []))
      by true e none rest = absurd (cc)
      by false e none rest = (
        are.0,
        are.1,
        lookup-append bs (bind prefix uri ∷ []) b.prefix
            ∙ ap (λ (o : Option (List ℕ)). option_or o (lookup (bind prefix uri ∷ []) b.prefix)) are.2
            ∙ ap (λ (t : Bool). cond t (Some uri) None) (bytes_eq-sym prefix b.prefix ∙ e),
        rest none,
      )

  module _ (around : List Binding) where
    -- behind these declarations a prefix is bound as it is in the scope
    abbrev pub Covers : List Binding → List ℕ → Type 0
    Covers declared prefix = (uri : List ℕ) → bound scope prefix ≡ Some uri → lookup (declared ++ around) prefix ≡ Some uri

    abbrev found_behind : List Binding → List ℕ → Option (List ℕ)
    found_behind declared prefix = option_or (lookup declared prefix) (lookup around prefix)

    -- so it is behind one more
    covers_more : (bs : List Binding) (prefix uri other : List ℕ) → bound scope prefix ≡ Some uri → Covers bs other → Covers (bs ++ bind prefix uri ∷ []) other
    covers_more bs prefix uri other is covers u here =
        ap (λ (r : List Binding). lookup r other) (append_assoc bs (bind prefix uri ∷ []) around)
        ∙ lookup-append bs (bind prefix uri ∷ around) other
        ∙ by (lookup bs other) (bytes_eq prefix other) refl (sym (lookup-append bs around other) ∙ covers u here)
      where
        by : (o : Option (List ℕ)) (t : Bool) → bytes_eq prefix other ≡ t → option_or o (lookup around other) ≡ Some u
            → option_or o (cond t (Some uri) (lookup around other)) ≡ Some u
        by (Some v) t e h = h
        by None true e h = sym is ∙ ap (bound scope) ((bytes_eq-Decides prefix other).0 e) ∙ here
        by None false e h = h

    -- and the one more itself
    covers_new : (bs : List Binding) (prefix uri : List ℕ) → AreDeclared bs → bound scope prefix ≡ Some uri → Covers (bs ++ bind prefix uri ∷ []) prefix
    covers_new bs prefix uri are is u here =
        ap (λ (r : List Binding). lookup r prefix) (append_assoc bs (bind prefix uri ∷ []) around)
        ∙ lookup-append bs (bind prefix uri ∷ around) prefix
        ∙ by (lookup bs prefix) refl
      where
        by : (o : Option (List ℕ)) → lookup bs prefix ≡ o → option_or o (cond (bytes_eq prefix prefix) (Some uri) (lookup around prefix)) ≡ Some u
        by (Some v) e = sym (found_in bs prefix v are e) ∙ here
        by None e = ap (λ (t : Bool). cond t (Some uri) (lookup around prefix)) (same_bytes prefix) ∙ sym is ∙ here

    -- a prefix that is not bound so is not declared
    not_declared : (bs : List Binding) (prefix uri : List ℕ) → AreDeclared bs → bound scope prefix ≡ Some uri → binds (bs ++ around) prefix uri ≡ false → lookup bs prefix ≡ None
    not_declared bs prefix uri are is not_bound = by (lookup bs prefix) refl
      where
        by : (o : Option (List ℕ)) → lookup bs prefix ≡ o → o ≡ None
        by None e = refl
        by (Some v) e =
            let same : Some v ≡ Some uri = sym (found_in bs prefix v are e) ∙ is in
            let found : lookup (bs ++ around) prefix ≡ Some uri =
            lookup-append bs around prefix ∙ ap (λ (o : Option (List ℕ)). option_or o (lookup around prefix)) (e ∙ same) in
            absurd (true≢false (sym (found_binds (bs ++ around) prefix uri found) ∙ not_bound))

    -- a prefix that is bound so is covered
    covers_bound : (bs : List Binding) (prefix uri : List ℕ) → bound scope prefix ≡ Some uri → binds (bs ++ around) prefix uri ≡ true → Covers bs prefix
    covers_bound bs prefix uri is are_bound u here = binds_found (bs ++ around) prefix uri are_bound ∙ sym is ∙ here

    -- prefixes in use are covered
    abbrev UsedCovered : List Binding → List (List ℕ) → Type 0
    UsedCovered declared used = (prefix : List ℕ) → is_text_among used prefix ≡ true → is_empty_text prefix ≡ false → Covers declared prefix

    -- the prefixes of attributes are covered
    abbrev pub AllCovered : List Binding → List Attribute → Type 0
    AllCovered declared [] = Unit {0}
    AllCovered declared (a ∷ rest) = (is_empty_text a.name.prefix ≡ false → Covers declared a.name.prefix) × AllCovered declared rest

    -- What is fixed up so: the attributes stay as they are, and their prefixes are covered.
    pub record IsFixed (before : List Binding) (attributes : List Attribute) (f : Fixed) : Type 0 where
      pub stay : f.attributes ≡ attributes
      pub declared : AreDeclared f.declared
      pub covered : AllCovered f.declared attributes
      pub still : (prefix : List ℕ) → Covers before prefix → Covers f.declared prefix

    put_fixed : (before now : List Binding) (a : Attribute) (rest : List Attribute) (f : Fixed)
        → ((prefix : List ℕ) → Covers before prefix → Covers now prefix) → (is_empty_text a.name.prefix ≡ false → Covers now a.name.prefix) → IsFixed now rest f
        → IsFixed before (a ∷ rest) (put_attribute a f)
    put_fixed before now a rest f more here is = record {
      stay = ap (λ (r : List Attribute). a ∷ r) is.stay;
      declared = is.declared;
      covered = (λ some. is.still a.name.prefix (here some), is.covered);
      still = λ prefix covers. is.still prefix (more prefix covers);
    }

    used_more : (declared : List Binding) (used : List (List ℕ)) (new : List ℕ) → UsedCovered declared used → (is_empty_text new ≡ false → Covers declared new) → UsedCovered declared (new ∷ used)
    used_more declared used new all here prefix is some = by (bytes_eq new prefix) refl is
      where
        by : (t : Bool) → bytes_eq new prefix ≡ t → (t || is_text_among used prefix) ≡ true → Covers declared prefix
        by true e is = let same : new ≡ prefix = (bytes_eq-Decides new prefix).0 e in
            subst (λ (p : List ℕ). Covers declared p) same (here (ap is_empty_text same ∙ some))
        by false e is = all prefix is some

    module _ (present : List (List ℕ)) where
      abbrev rest_with : Attribute → List (List ℕ) → List Attribute → List Binding → Fixed
      rest_with a used rest now = fix_attributes around present now (a.name.prefix ∷ used) rest

      abbrev Puts : List Binding → Attribute → List (List ℕ) → List Attribute → Type 0
      Puts declared a used rest =
          (now : List Binding) → AreDeclared now → ((prefix : List ℕ) → Covers declared prefix → Covers now prefix) → (is_empty_text a.name.prefix ≡ false → Covers now a.name.prefix)
          → IsFixed declared (a ∷ rest) (put_attribute a (rest_with a used rest now))

      fixed_by : (declared : List Binding) (used : List (List ℕ)) (a : Attribute) (rest : List Attribute) (free : List ℕ) → AreDeclared declared → UsedCovered declared used
          → (t : Bool) → is_bound (declared ++ around) a.name ≡ t → (u : Bool) → is_in_use used a.name.prefix ≡ u → IsIn a → Puts declared a used rest
          → IsFixed declared (a ∷ rest) (cond t (put_attribute a (rest_with a used rest declared))
          (cond u (put_attribute (with_prefix free a) (rest_with a used rest (declared ++ bind free a.name.uri ∷ [])))
          (put_attribute a (rest_with a used rest (declared ++ bind a.name.prefix a.name.uri ∷ [])))))
      fixed_by declared used a rest free are covered true is u in_use (inl none) put =
          put declared are (λ prefix covers. covers) (λ some. absurd (true≢false (sym (ap is_empty_text none.0) ∙ some)))
      fixed_by declared used a rest free are covered false is u in_use (inl none) put =
          absurd (true≢false (sym (ap (λ (x : List ℕ). is_empty_text x || (not (is_empty_text a.name.prefix) && binds (declared ++ around) a.name.prefix a.name.uri)) none.1) ∙ is))
      fixed_by declared used a rest free are covered true is u in_use (inr some) put =
          put declared are (λ prefix covers. covers)
          (λ named. covers_bound declared a.name.prefix a.name.uri some.0 (sym (bound_by_prefix (declared ++ around) a.name some.2 some.3) ∙ is))
      fixed_by declared used a rest free are covered false is true in_use (inr some) put =
          let among : is_text_among used a.name.prefix ≡ true = sym (ap (λ (x : Bool). x || is_text_among used a.name.prefix) some.2) ∙ in_use in
          let found = covered a.name.prefix among some.2 a.name.uri some.0 in
          absurd (true≢false (sym (found_binds (declared ++ around) a.name.prefix a.name.uri found) ∙ sym (bound_by_prefix (declared ++ around) a.name some.2 some.3) ∙ is))
      fixed_by declared used a rest free are covered false is false in_use (inr some) put =
          let none = not_declared declared a.name.prefix a.name.uri are some.0 (sym (bound_by_prefix (declared ++ around) a.name some.2 some.3) ∙ is) in
          put (declared ++ bind a.name.prefix a.name.uri ∷ [])
          (declared_more declared a.name.prefix a.name.uri are none some.0 (inr some.1))
          (λ other covers. covers_more declared a.name.prefix a.name.uri other some.0 covers)
          (λ named. covers_new declared a.name.prefix a.name.uri are some.0)

      fixed_are : (declared : List Binding) (used : List (List ℕ)) (attributes : List Attribute) → AreDeclared declared → AreIn attributes → UsedCovered declared used
          → IsFixed declared attributes (fix_attributes around present declared used attributes)
      fixed_are declared used [] are all covered = record { stay = refl; declared = are; covered = tt; still = λ prefix covers. covers }
      fixed_are declared used (a ∷ rest) are all covered =
          fixed_by declared used a rest (free_prefix (prefixes (declared ++ around) ++ present)) are covered
          (is_bound (declared ++ around) a.name) refl (is_in_use used a.name.prefix) refl all.0
          (λ now are_now more here.
          put_fixed declared now a rest (fix_attributes around present now (a.name.prefix ∷ used) rest) more here
          (fixed_are now (a.name.prefix ∷ used) rest are_now all.1
          (used_more now used a.name.prefix (λ prefix is some. more prefix (covered prefix is some)) here)))

    -- the element's own prefix is covered
    own_covered : (name : Name) → bound scope name.prefix ≡ Some name.uri → MayPrefix name.prefix
        → AreDeclared (declared_for around name) × Covers (declared_for around name) name.prefix
    own_covered name is may = by (binds around name.prefix name.uri) refl
      where
        by : (t : Bool) → binds around name.prefix name.uri ≡ t
            → AreDeclared (cond t [] (bind name.prefix name.uri ∷ [])) × Covers (cond t [] (bind name.prefix name.uri ∷ [])) name.prefix
        by true e = (tt, covers_bound [] name.prefix name.uri is e)
        by false e = ((is, may, refl, tt), covers_new [] name.prefix name.uri tt is)

    -- A start whose names are of this scope: its attributes stay as they are, and what is declared binds their prefixes, and
    -- that of the element, as the scope does.
    pub start_fixed : (name : Name) (attributes : List Attribute) → bound scope name.prefix ≡ Some name.uri → MayPrefix name.prefix → AreIn attributes
        → IsFixed (declared_for around name) attributes (fix_up around name attributes) × Covers (fix_up around name attributes).declared name.prefix
    start_fixed name attributes is may all =
        let own = own_covered name is may in
        let fixed = fixed_are (name.prefix ∷ attribute_prefixes attributes) (declared_for around name) (name.prefix ∷ []) attributes own.0 all
        (used_more (declared_for around name) [] name.prefix (λ prefix is some. absurd (true≢false (sym is))) (λ some. own.1)) in
        (fixed, fixed.still name.prefix own.1)
