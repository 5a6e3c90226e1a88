-- Namespace fix-up: which namespaces an element of a result declares, and with which prefixes its attributes are printed
-- (XSLT 3.0, 5.7.3).
use Rattle.std.specs.Prelude.{ℕ, zero, suc, Bool, true, false, not, ◌&&◌, ◌||◌, bytes_eq, codes, decimal, List, [], ◌∷◌, ◌++◌, length, map, if◌then◌else◌}
use Rattle.sx_named.specs.Named.{Name, Attribute}

-- A binding of a prefix to a namespace. The empty prefix is the default one; the empty namespace is none.
pub record Binding : Type 0 where
  pub prefix : List ℕ
  pub uri : List ℕ

-- the first binding of a prefix binds it to this namespace
abbrev pub binds : List Binding → List ℕ → List ℕ → Bool
binds [] prefix uri = false
binds (b ∷ bs) prefix uri = if bytes_eq b.prefix prefix then bytes_eq b.uri uri else binds bs prefix uri

abbrev pub is_text_among : List (List ℕ) → List ℕ → Bool
is_text_among [] s = false
is_text_among (t ∷ ts) s = bytes_eq t s || is_text_among ts s

abbrev pub is_empty_text : List ℕ → Bool
is_empty_text [] = true
is_empty_text (b ∷ bs) = false

abbrev pub prefixes : List Binding → List (List ℕ)
prefixes bs = map (λ b. b.prefix) bs

abbrev pub attribute_prefixes : List Attribute → List (List ℕ)
attribute_prefixes attributes = map (λ a. a.name.prefix) attributes

-- `ns` and a number
abbrev pub numbered_prefix : ℕ → List ℕ
numbered_prefix k = codes "ns" ++ decimal k

-- the first of the numbered prefixes from k on that is none of these, among so many and one more
abbrev pub first_free : ℕ → List (List ℕ) → ℕ → List ℕ
first_free zero taken k = numbered_prefix k
first_free (suc n) taken k = if is_text_among taken (numbered_prefix k) then first_free n taken (suc k) else numbered_prefix k

-- the first of `ns0`, `ns1` and so on that is none of these
abbrev pub free_prefix : List (List ℕ) → List ℕ
free_prefix taken = first_free (length taken) taken 0

-- a start after the fix-up: what it declares, in order, and its attributes with the prefixes that they are printed with
pub record Fixed : Type 0 where
  pub declared : List Binding
  pub attributes : List Attribute

abbrev pub with_prefix : List ℕ → Attribute → Attribute
with_prefix prefix a = record { name = record { prefix = prefix; uri = a.name.uri; local = a.name.local }; value = a.value }

abbrev pub bind : List ℕ → List ℕ → Binding
bind prefix uri = record { prefix = prefix; uri = uri }

abbrev pub put_attribute : Attribute → Fixed → Fixed
put_attribute a f = record { declared = f.declared; attributes = a ∷ f.attributes }

-- the element's own prefix is declared where it is not bound to the element's namespace
abbrev pub declared_for : List Binding → Name → List Binding
declared_for bound name = if binds bound name.prefix name.uri then [] else bind name.prefix name.uri ∷ []

-- an attribute needs nothing: it is in no namespace, or its prefix is bound to its namespace; an attribute without a prefix
-- is in no namespace, whatever the default namespace is
abbrev pub is_bound : List Binding → Name → Bool
is_bound bound name = is_empty_text name.uri || (not (is_empty_text name.prefix) && binds bound name.prefix name.uri)

-- a prefix cannot be declared for an attribute: it is empty, or the element or an earlier attribute has it
abbrev pub is_in_use : List (List ℕ) → List ℕ → Bool
is_in_use used prefix = is_empty_text prefix || is_text_among used prefix

module _ (bound : List Binding) (present : List (List ℕ)) where
  -- attributes, where this is declared so far, and the element and earlier attributes have these prefixes
  abbrev pub fix_attributes : List Binding → List (List ℕ) → List Attribute → Fixed
  fix_attributes declared used [] = record { declared = declared; attributes = [] }
  fix_attributes declared used (a ∷ rest) =
      if is_bound (declared ++ bound) a.name then put_attribute a (fix_attributes declared (a.name.prefix ∷ used) rest)
      else if is_in_use used a.name.prefix then
      (let prefix = free_prefix (prefixes (declared ++ bound) ++ present) in
      put_attribute (with_prefix prefix a) (fix_attributes (declared ++ bind prefix a.name.uri ∷ []) (a.name.prefix ∷ used) rest))
      else put_attribute a (fix_attributes (declared ++ bind a.name.prefix a.name.uri ∷ []) (a.name.prefix ∷ used) rest)

-- A start of an element with attributes, where these bindings are in force, the innermost first: the element's prefix is
-- declared where it must be. Then each attribute with a namespace, in order: where its prefix is bound to it, nothing is
-- done; else, where the prefix is empty, or the element or an earlier attribute has it, the attribute gets the first of
-- `ns0`, `ns1` and so on that is neither bound nor a prefix on this element, and that is declared; else its own prefix is.
abbrev pub fix_up : List Binding → Name → List Attribute → Fixed
fix_up bound name attributes =
    fix_attributes bound (name.prefix ∷ attribute_prefixes attributes) (declared_for bound name) (name.prefix ∷ []) attributes

-- what is bound at first: `xml`, and the empty prefix to no namespace
abbrev pub first_bound : List Binding
first_bound = bind (codes "xml") (codes "http://www.w3.org/XML/1998/namespace") ∷ bind [] [] ∷ []
