-- A start as a copy prints it, and how it is read.
use Rattle.std.proofs.Common.{◌≡◌, ℕ, ◌<◌, Bool, true, false, not, cond, ◌&&◌, ◌||◌, List, [], ◌∷◌, ◌++◌, Option, Some, None, is_none, ◌⊎◌, inl, inr, refl, ap, ap₂, sym, ◌∙◌, subst, arith}
use Rattle.std.specs.Prelude.{bytes_eq, codes}
use Rattle.std.specs.Str.{IsUtf8}
use Rattle.std.specs.Option.{option_or, option_map_or}
use Rattle.std.proofs.lemmas.Bool.{true≢false, and_parts, and_from}
use Rattle.std.proofs.lemmas.Str.{IsUtf8-append, IsUtf8-from_ascii, chars-nil}
use Rattle.std.proofs.lemmas.Slice.Eq.{bytes_eq-Decides}
use Rattle.sx_build.specs.Build.{printed_name, declaration_name, declaration_pairs, attribute_pairs, printed_start}
use Rattle.sx_build.specs.FixUp.{Binding, Fixed, declared_for, fix_up, is_empty_text as is_no_text}
use Rattle.sx_chars.proofs.Ascii.{all_ascii, is_name}
use Rattle.sx_chars.specs.Names.{are_name, is_ncname, is_qname_with, prefix_of, local_of, prefix_with, local_with, prefixed, before, behind}
use Rattle.sx_events.specs.Place.{Written, written, is_empty, xml_namespace, is_bad, has_bad, declares, declares_twice, declared_behind, declared_prefix, spaces_of, put_space, ordinary, element_name, attribute_name, attributes_in, namespace_of, is_bound_prefix, all_bound, has_double, most_open}
use Rattle.sx_limits.specs.declared.limits.Limits.{Limits}
use Rattle.sx_lines.specs.declared.events.Pair.{Pair}
use Rattle.sx_lines.specs.declared.events.Built.TheVariants as event
use Rattle.sx_lines.specs.Normal.{IsName, ArePairs, IsEvent}
use Rattle.sx_lines.proofs.NameBytes.{colon_split, parts_utf8}
use Rattle.sx_named.specs.Named.{Name, Attribute, NamedElement, started}
use Rattle.sx_names.specs.Scope.{Declarations, ScopeBindings, bound, bound_in}
use Rattle.sx_tree.specs.declared.events.Space.{Space}
use Rattle.sx_round_trip.specs.Document.{PairsLackZero, all_written, scope_in, IsStart, start_in}
use Rattle.sx_round_trip.proofs.Bindings.{lookup, lookup-append, IsPrefix, MayPrefix, AreDeclared, IsIn, AreIn, Covers, AllCovered, IsFixed, start_fixed}
use Rattle.sx_round_trip.proofs.Happenings.{declares_as, IsSound, AreWritten, AreOrdinary, Comes}

-- ---- names

middle : (a b c : Bool) → (a || b || c) ≡ false → b ≡ false
middle true b c h = absurd (cc)
middle false true c h = absurd (cc)
middle false false c h = refl

-- the parts of a name
abbrev HasParts : List ℕ → Type 0
HasParts name = (prefixed (prefix_of name) (local_of name) ≡ name) × MayPrefix (prefix_of name)

name_parts : (name : List ℕ) → IsName name → HasParts name
name_parts name is = by (behind 58 name) refl is.0
  where
    joins : (front local : List ℕ) → is_ncname front ≡ true → name ≡ front ++ 58 ∷ local → prefixed front local ≡ name
    joins [] local nc split = absurd (true≢false (sym nc ∙ ap are_name chars-nil))
    joins (b ∷ bs) local nc split = sym split

    by : (o : Option (List ℕ)) → behind 58 name ≡ o → is_qname_with name o ≡ true → (prefixed (prefix_with name o) (local_with name o) ≡ name) × MayPrefix (prefix_with name o)
    by None e q = (refl, inl refl)
    by (Some local) e q =
        let parts = and_parts (is_ncname (before 58 name)) (is_ncname local) q in
        let split = colon_split name local e in
        let texts = parts_utf8 58 (before 58 name) local (omega arith) (subst IsUtf8 split is.1) in
        (joins (before 58 name) local parts.0 split, inr (parts.0, texts.0))

-- the name that declares a prefix
declares_prefix : (prefix : List ℕ) → declared_prefix (declaration_name prefix) ≡ Some prefix
declares_prefix [] = refl
declares_prefix (b ∷ bs) = refl

xmlns_text : IsUtf8 (codes "xmlns")
xmlns_text = IsUtf8-from_ascii (codes "xmlns") (all_ascii (codes "xmlns") refl)

xmlns_colon_text : IsUtf8 (codes "xmlns" ++ 58 ∷ [])
xmlns_colon_text = IsUtf8-from_ascii (codes "xmlns" ++ 58 ∷ []) (all_ascii (codes "xmlns" ++ 58 ∷ []) refl)

declaration_named : (prefix : List ℕ) → MayPrefix prefix → IsName (declaration_name prefix)
declaration_named [] may = (is_name (codes "xmlns") refl, xmlns_text)
declaration_named (b ∷ bs) (inl none) = absurd (cc)
declaration_named (b ∷ bs) (inr is) =
    (and_from (is_ncname (codes "xmlns")) (is_ncname (b ∷ bs)) (is_name (codes "xmlns") refl) is.0, IsUtf8-append (codes "xmlns" ++ 58 ∷ []) (b ∷ bs) xmlns_colon_text is.1)

-- ---- what is declared

-- declarations as they are read
abbrev spaces_from : List Binding → List Space
spaces_from [] = []
spaces_from (b ∷ bs) = declares_as b.prefix b.uri ∷ spaces_from bs

written-append : (xs ys : List Pair) → all_written (xs ++ ys) ≡ all_written xs ++ all_written ys
written-append [] ys = refl
written-append (x ∷ xs) ys = ap (λ (r : List Written). written x.name x.value ∷ r) (written-append xs ys)

no_spaces : (lines : List Written) → AreOrdinary lines → spaces_of lines ≡ []
no_spaces [] are = refl
no_spaces (w ∷ ws) are = ap (λ (o : Option (List ℕ)). put_space o w.value (spaces_of ws)) are.0 ∙ no_spaces ws are.1

all_ordinary : (lines : List Written) → AreOrdinary lines → ordinary lines ≡ lines
all_ordinary [] are = refl
all_ordinary (w ∷ ws) are =
    ap (λ (o : Option (List ℕ)). cond (is_none o) (w ∷ ordinary ws) (ordinary ws)) are.0 ∙ ap (λ (r : List Written). w ∷ r) (all_ordinary ws are.1)

spaces_are : (bs : List Binding) (lines : List Written) → AreOrdinary lines → spaces_of (all_written (declaration_pairs bs) ++ lines) ≡ spaces_from bs
spaces_are [] lines are = no_spaces lines are
spaces_are (b ∷ bs) lines are =
    ap (λ (o : Option (List ℕ)). put_space o b.uri (spaces_of (all_written (declaration_pairs bs) ++ lines))) (declares_prefix b.prefix)
    ∙ ap (λ (r : List Space). declares_as b.prefix b.uri ∷ r) (spaces_are bs lines are)

ordinary_are : (bs : List Binding) (lines : List Written) → AreOrdinary lines → ordinary (all_written (declaration_pairs bs) ++ lines) ≡ lines
ordinary_are [] lines are = all_ordinary lines are
ordinary_are (b ∷ bs) lines are =
    let rest = all_written (declaration_pairs bs) ++ lines in
    ap (λ (o : Option (List ℕ)). cond (is_none o) (written (declaration_name b.prefix) b.uri ∷ ordinary rest) (ordinary rest)) (declares_prefix b.prefix)
    ∙ ordinary_are bs lines are

-- attributes are written as they were
attributes_written : (scope : ScopeBindings) (lines : List Written) → AreWritten lines → all_written (attribute_pairs (attributes_in scope lines)) ≡ lines
attributes_written scope [] are = refl
attributes_written scope (w ∷ ws) are =
    ap₂ (λ (n : List ℕ) (r : List Written). written n w.value ∷ r) (name_parts w.name are.0).0 (attributes_written scope ws are.2)

-- a prefix that is not declared
not_among : (bs : List Binding) (prefix : List ℕ) → lookup bs prefix ≡ None → declares (spaces_from bs) prefix ≡ false
not_among [] prefix none = refl
not_among (b ∷ bs) prefix none = by (bytes_eq b.prefix prefix) none (not_among bs prefix)
  where
    by : (t : Bool) → cond t (Some b.uri) (lookup bs prefix) ≡ None → (lookup bs prefix ≡ None → declares (spaces_from bs) prefix ≡ false)
        → (t || declares (spaces_from bs) prefix) ≡ false
    by true none rest = absurd (cc)
    by false none rest = rest none

module _ (scope : ScopeBindings) where
  declared_once : (bs : List Binding) → AreDeclared scope bs → declares_twice (spaces_from bs) ≡ false
  declared_once [] are = refl
  declared_once (b ∷ bs) are = ap₂ (λ (x y : Bool). x || y) (not_among bs b.prefix are.2) (declared_once bs are.3)

  none_bad : (bs : List Binding) → IsSound scope → AreDeclared scope bs → has_bad (spaces_from bs) ≡ false
  none_bad [] sound are = refl
  none_bad (b ∷ bs) sound are = ap₂ (λ (x y : Bool). x || y) (sound b.prefix b.uri are.0).0 (none_bad bs sound are.3)

  declared_pairs : (bs : List Binding) (ps : List Pair) → IsSound scope → AreDeclared scope bs → ArePairs ps → ArePairs (declaration_pairs bs ++ ps)
  declared_pairs [] ps sound are rest = rest
  declared_pairs (b ∷ bs) ps sound are rest =
      ((declaration_named b.prefix are.1, (sound b.prefix b.uri are.0).1.0), declared_pairs bs ps sound are.3 rest)

  declared_lack : (bs : List Binding) (ps : List Pair) → IsSound scope → AreDeclared scope bs → PairsLackZero ps → PairsLackZero (declaration_pairs bs ++ ps)
  declared_lack [] ps sound are rest = rest
  declared_lack (b ∷ bs) ps sound are rest = ((sound b.prefix b.uri are.0).1.1, declared_lack bs ps sound are.3 rest)

  written_pairs : (lines : List Written) → AreWritten lines → ArePairs (attribute_pairs (attributes_in scope lines))
  written_pairs [] are = tt
  written_pairs (w ∷ ws) are = ((subst IsName (sym (name_parts w.name are.0).0) are.0, are.1.0), written_pairs ws are.2)

  written_lack : (lines : List Written) → AreWritten lines → PairsLackZero (attribute_pairs (attributes_in scope lines))
  written_lack [] are = tt
  written_lack (w ∷ ws) are = (are.1.1, written_lack ws are.2)

  -- what is declared last is bound first, where each prefix is declared once
  bound_behind : (bs : List Binding) (before : Declarations) (prefix : List ℕ) → AreDeclared scope bs
      → bound_in (declared_behind before (spaces_from bs)) prefix ≡ option_or (lookup bs prefix) (bound_in before prefix)
  bound_behind [] before prefix are = refl
  bound_behind (b ∷ bs) before prefix are =
      bound_behind bs ((b.prefix, b.uri) ∷ before) prefix are.3 ∙ by (bytes_eq b.prefix prefix) refl
    where
      by : (t : Bool) → bytes_eq b.prefix prefix ≡ t
          → option_or (lookup bs prefix) (cond t (Some b.uri) (bound_in before prefix)) ≡ option_or (cond t (Some b.uri) (lookup bs prefix)) (bound_in before prefix)
      by true e =
          ap (λ (o : Option (List ℕ)). option_or o (Some b.uri)) (ap (lookup bs) (sym ((bytes_eq-Decides b.prefix prefix).0 e)) ∙ are.2)
      by false e = refl

  -- a prefix that is bound has its namespace
  bound_some : (prefix : List ℕ) → not (is_none (bound scope prefix)) ≡ true → bound scope prefix ≡ Some (namespace_of scope prefix)
  bound_some prefix is = by (bound scope prefix) is
    where
      by : (o : Option (List ℕ)) → not (is_none o) ≡ true → o ≡ Some (option_map_or (λ uri. uri) o [])
      by None is = absurd (cc)
      by (Some u) is = refl

  same_empty : (s : List ℕ) → is_no_text s ≡ is_empty s
  same_empty [] = refl
  same_empty (b ∷ bs) = refl

  none_there : (s : List ℕ) → is_empty s ≡ true → s ≡ []
  none_there [] h = refl
  none_there (b ∷ bs) h = absurd (cc)

  -- a prefix is never bound to no namespace
  has_namespace : (prefix uri : List ℕ) → IsSound scope → bound scope prefix ≡ Some uri → is_empty prefix ≡ false → is_no_text uri ≡ false
  has_namespace prefix uri sound is some =
      let bad : is_bad (declares_as prefix uri) ≡ false = (sound prefix uri is).0 in
      let one = middle (bytes_eq prefix (codes "xmlns")) (not (is_empty prefix) && is_empty uri)
      (cond (bytes_eq prefix (codes "xml")) (not (bytes_eq uri xml_namespace)) (bytes_eq uri xml_namespace)) bad in
      same_empty uri ∙ sym (ap (λ (t : Bool). not t && is_empty uri) some) ∙ one

  line_in : (w : Written) → IsSound scope → IsName w.name → (is_empty (prefix_of w.name) || is_bound_prefix scope w.name) ≡ true
      → IsIn scope (record { name = attribute_name scope w.name; value = w.value })
  line_in w sound named is = by (is_empty (prefix_of w.name)) refl is (name_parts w.name named).1
    where
      by : (t : Bool) → is_empty (prefix_of w.name) ≡ t → (t || is_bound_prefix scope w.name) ≡ true → MayPrefix (prefix_of w.name)
          → ((prefix_of w.name ≡ []) × (cond t [] (namespace_of scope (prefix_of w.name)) ≡ []))
          ⊎ ((bound scope (prefix_of w.name) ≡ Some (cond t [] (namespace_of scope (prefix_of w.name)))) × IsPrefix (prefix_of w.name)
          × (is_no_text (prefix_of w.name) ≡ false) × (is_no_text (cond t [] (namespace_of scope (prefix_of w.name))) ≡ false))
      by true e is may = inl (none_there (prefix_of w.name) e, refl)
      by false e is (inl none) = absurd (true≢false (sym (ap is_empty none) ∙ e))
      by false e is (inr prefix) =
          let here = bound_some (prefix_of w.name) is in
          inr (here, prefix, same_empty (prefix_of w.name) ∙ e, has_namespace (prefix_of w.name) (namespace_of scope (prefix_of w.name)) sound here e)

  lines_in : (lines : List Written) → IsSound scope → AreWritten lines → all_bound scope lines ≡ true → AreIn scope (attributes_in scope lines)
  lines_in [] sound are all = tt
  lines_in (w ∷ ws) sound are all =
      let parts = and_parts (is_empty (prefix_of w.name) || is_bound_prefix scope w.name) (all_bound scope ws) all in
      (line_in w sound are.0 parts.0, lines_in ws sound are.2 parts.1)

  -- ---- as it is read again

  module _ (around : List Binding) (declared : List Binding) (new : ScopeBindings) (same : (prefix : List ℕ) → bound new prefix ≡ lookup (declared ++ around) prefix) where
    -- a covered prefix is bound as it was
    bound_again : (prefix : List ℕ) → not (is_none (bound scope prefix)) ≡ true → Covers scope around declared prefix → bound new prefix ≡ bound scope prefix
    bound_again prefix is covers =
        let here = bound_some prefix is in
        same prefix ∙ covers (namespace_of scope prefix) here ∙ sym here

    prefix_again : (prefix : List ℕ) → not (is_none (bound scope prefix)) ≡ true → Covers scope around declared prefix → not (is_none (bound new prefix)) ≡ true
    prefix_again prefix is covers = ap (λ (o : Option (List ℕ)). not (is_none o)) (bound_again prefix is covers) ∙ is

    space_again : (prefix : List ℕ) → not (is_none (bound scope prefix)) ≡ true → Covers scope around declared prefix → namespace_of new prefix ≡ namespace_of scope prefix
    space_again prefix is covers = ap (λ (o : Option (List ℕ)). option_map_or (λ uri. uri) o []) (bound_again prefix is covers)

    line_again : (w : Written) → (is_empty (prefix_of w.name) || is_bound_prefix scope w.name) ≡ true → (is_no_text (prefix_of w.name) ≡ false → Covers scope around declared (prefix_of w.name))
        → (attribute_name new w.name ≡ attribute_name scope w.name) × ((is_empty (prefix_of w.name) || is_bound_prefix new w.name) ≡ true)
    line_again w is covers = by (is_empty (prefix_of w.name)) (same_empty (prefix_of w.name)) is
      where
        by : (t : Bool) → is_no_text (prefix_of w.name) ≡ t → (t || is_bound_prefix scope w.name) ≡ true
            → (◌≡◌ {A = Name} (record { prefix = prefix_of w.name; uri = cond t [] (namespace_of new (prefix_of w.name)); local = local_of w.name })
            (record { prefix = prefix_of w.name; uri = cond t [] (namespace_of scope (prefix_of w.name)); local = local_of w.name }))
            × ((t || is_bound_prefix new w.name) ≡ true)
        by true e is = (refl, refl)
        by false e is = (
          ap (λ (u : List ℕ). record { prefix = prefix_of w.name; uri = u; local = local_of w.name }) (space_again (prefix_of w.name) is (covers e)),
          prefix_again (prefix_of w.name) is (covers e),
        )

    lines_again : (lines : List Written) → all_bound scope lines ≡ true → AllCovered scope around declared (attributes_in scope lines)
        → (attributes_in new lines ≡ attributes_in scope lines) × (all_bound new lines ≡ true)
    lines_again [] all covered = (refl, refl)
    lines_again (w ∷ ws) all covered =
        let parts = and_parts (is_empty (prefix_of w.name) || is_bound_prefix scope w.name) (all_bound scope ws) all in
        let here = line_again w parts.0 covered.0 in
        let rest = lines_again ws parts.1 covered.1 in (
          ap₂ (λ (n : Name) (r : List Attribute). record { name = n; value = w.value } ∷ r) here.0 rest.0,
          ap₂ (λ (x y : Bool). x && y) here.1 rest.1,
        )

-- ---- a start

-- How a copy prints an element where these bindings are in force, and how it is read where this is declared.
pub record IsCopied (limits : Limits) (e : NamedElement) (bs : List Binding) (around : ScopeBindings) : Type 0 where
  pub pairs : List Pair
  pub printed : printed_start e.name (fix_up bs e.name e.attributes) ≡ event.Start (printed_name e.name) pairs
  pub is_event : IsEvent (event.Start (printed_name e.name) pairs)
  pub zeroless : PairsLackZero pairs
  pub start : (depth : ℕ) → depth < most_open limits → IsStart limits depth around (printed_name e.name) pairs
  pub read : started (start_in around (printed_name e.name) pairs) ≡ e
  pub same : (prefix : List ℕ) → bound (scope_in around pairs) prefix ≡ lookup ((fix_up bs e.name e.attributes).declared ++ bs) prefix

module _ (limits : Limits) (scope : ScopeBindings) (name : List ℕ) (lines : List Written) (bs : List Binding) (around : ScopeBindings)
    (sound : IsSound scope) (named : IsName name) (are : AreWritten lines) (plain : AreOrdinary lines) (own : is_bound_prefix scope name ≡ true)
    (all : all_bound scope lines ≡ true) (single : has_double (attributes_in scope lines) ≡ false) (like : (prefix : List ℕ) → bound around prefix ≡ lookup bs prefix) where
  abbrev attributes : List Attribute
  attributes = attributes_in scope lines

  abbrev e : NamedElement
  e = record { name = element_name scope name; attributes = attributes }

  abbrev f : Fixed
  f = fix_up bs (element_name scope name) attributes

  fixed : IsFixed scope bs (declared_for bs (element_name scope name)) attributes f × Covers scope bs f.declared (prefix_of name)
  fixed = start_fixed scope bs (element_name scope name) attributes (bound_some scope (prefix_of name) own) (name_parts name named).1 (lines_in scope lines sound are all)

  abbrev pairs_now : List Pair
  pairs_now = declaration_pairs f.declared ++ attribute_pairs attributes

  lines_are : all_written pairs_now ≡ all_written (declaration_pairs f.declared) ++ lines
  lines_are = written-append (declaration_pairs f.declared) (attribute_pairs attributes)
      ∙ ap (λ (r : List Written). all_written (declaration_pairs f.declared) ++ r) (attributes_written scope lines are)

  spaces_is : spaces_of (all_written pairs_now) ≡ spaces_from f.declared
  spaces_is = ap spaces_of lines_are ∙ spaces_are f.declared lines plain

  ordinary_is : ordinary (all_written pairs_now) ≡ lines
  ordinary_is = ap ordinary lines_are ∙ ordinary_are f.declared lines plain

  now_same : (prefix : List ℕ) → bound (scope_in around pairs_now) prefix ≡ lookup (f.declared ++ bs) prefix
  now_same prefix =
      ap (λ (ss : List Space). option_or (bound_in (declared_behind [] ss) prefix) (bound around prefix)) spaces_is
      ∙ ap₂ (λ (x y : Option (List ℕ)). option_or x y) (bound_behind scope f.declared [] prefix fixed.0.declared ∙ or_none (lookup f.declared prefix)) (like prefix)
      ∙ sym (lookup-append f.declared bs prefix)
    where
      or_none : (o : Option (List ℕ)) → option_or o None ≡ o
      or_none None = refl
      or_none (Some x) = refl

  abbrev inner : ScopeBindings
  inner = scope_in around pairs_now

  again : (attributes_in inner lines ≡ attributes) × (all_bound inner lines ≡ true)
  again = lines_again scope bs f.declared inner now_same lines all fixed.0.covered

  printed_is : printed_name (element_name scope name) ≡ name
  printed_is = (name_parts name named).0

  copied_read : IsCopied limits e bs around
  copied_read = record {
    pairs = pairs_now;
    printed = ap (λ (r : List Attribute). event.Start (printed_name (element_name scope name)) (declaration_pairs f.declared ++ attribute_pairs r)) fixed.0.stay;
    is_event = (subst IsName (sym printed_is) named, declared_pairs scope f.declared (attribute_pairs attributes) sound fixed.0.declared (written_pairs scope lines are));
    zeroless = declared_lack scope f.declared (attribute_pairs attributes) sound fixed.0.declared (written_lack scope lines are);
    start = λ depth room. record {
      room = room;
      once = ap declares_twice spaces_is ∙ declared_once scope f.declared fixed.0.declared;
      good = ap has_bad spaces_is ∙ none_bad scope f.declared sound fixed.0.declared;
      bound = ap (is_bound_prefix inner) printed_is ∙ prefix_again scope bs f.declared inner now_same (prefix_of name) own fixed.1;
      all_bound = ap (all_bound inner) ordinary_is ∙ again.1;
      single = ap (λ (ws : List Written). has_double (attributes_in inner ws)) ordinary_is ∙ ap has_double again.0 ∙ single;
    };
    read = ap₂ (λ (n : Name) (r : List Attribute). record { name = n; attributes = r })
        (ap (element_name inner) printed_is
        ∙ ap (λ (u : List ℕ). record { prefix = prefix_of name; uri = u; local = local_of name }) (space_again scope bs f.declared inner now_same (prefix_of name) own fixed.1))
        (ap (attributes_in inner) ordinary_is ∙ again.0);
    same = now_same;
  }

-- An element that was read is copied so.
pub copied_start : (limits : Limits) (e : NamedElement) (bs : List Binding) (around : ScopeBindings) → Comes e → ((prefix : List ℕ) → bound around prefix ≡ lookup bs prefix)
    → IsCopied limits e bs around
copied_start limits e bs around comes like =
    let read = comes.3 in
    let is : e ≡ record { name = element_name comes.0 comes.1; attributes = attributes_in comes.0 comes.2 } =
    ap₂ (λ (n : Name) (r : List Attribute). record { name = n; attributes = r }) read.name_is read.attributes_are in
    subst (λ (x : NamedElement). IsCopied limits x bs around) (sym is)
    (copied_read limits comes.0 comes.1 comes.2 bs around read.sound read.named read.written read.ordinary read.bound read.all_bound read.single like)
