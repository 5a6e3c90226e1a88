-- What is known of a document behind some of its lines, and what is at fault with the next one.
use Rattle.std.specs.Prelude.{ℕ, Bool, true, false, not, ◌&&◌, ◌||◌, nat_lt, bytes_eq, codes, min, List, [], ◌∷◌, ◌++◌, length, Option, Some, None, is_none, if◌then◌else◌}
use Rattle.std.specs.Option.{option_map_or}
use Rattle.sx_chars.specs.Names.{prefix_of, local_of}
use Rattle.sx_esis.specs.Lines.{Line, starts, ends, has, lacks, says, instructs, skips, conforms}
use Rattle.sx_names.specs.Scope.{Declarations, ScopeBindings, bound}
use Rattle.sx_named.specs.Named.{Name, is_same_name, Attribute}
use Rattle.sx_tree.specs.declared.events.Space.{Space}
use Rattle.sx_limits.specs.declared.limits.Limits.{Limits}
use Rattle.sx_limits.specs.declared.faults.Which.{Which}
use Rattle.sx_limits.specs.declared.faults.Which.TheVariants as which

-- an attribute line: the name as it is written, and the value
pub record Written : Type 0 where
  pub name : List ℕ
  pub value : List ℕ

abbrev pub written : List ℕ → List ℕ → Written
written name value = record { name = name; value = value }

-- What is known behind some lines: how many they are; the names of the open elements as they are written, and what each
-- declares, the innermost first; whether there was a root, and whether the document conformed; the attributes that wait
-- for their start, and whether an attribute line does; the text of the run that may go on, and its last line.
pub record Place : Type 0 where
  pub lines : ℕ
  pub opened : List (List ℕ)
  pub scope : ScopeBindings
  pub has_root : Bool
  pub conformed : Bool
  pub attributes : List Written
  pub is_loose : Bool
  pub text : List ℕ
  pub text_line : ℕ

-- in front of all lines
abbrev pub beginning : Place
beginning = record { lines = 0; opened = []; scope = []; has_root = false; conformed = false; attributes = []; is_loose = false; text = []; text_line = 0 }

abbrev pub is_empty : {X : Type 0} → List X → Bool
is_empty [] = true
is_empty (x ∷ xs) = false

-- ---- namespaces (Namespaces in XML 1.0, 3 and 6)

abbrev pub xml_namespace : List ℕ
xml_namespace = codes "http://www.w3.org/XML/1998/namespace"

-- the prefix that an attribute of this name declares, which is empty for the default namespace, if it declares one
abbrev pub declared_prefix : List ℕ → Option (List ℕ)
declared_prefix name =
    if bytes_eq name (codes "xmlns") then Some []
    else if bytes_eq (prefix_of name) (codes "xmlns") then Some (local_of name)
    else None

-- the namespace declarations among attributes
abbrev pub put_space : Option (List ℕ) → List ℕ → List Space → List Space
put_space None uri spaces = spaces
put_space (Some prefix) uri spaces = record { prefix = prefix; uri = uri } ∷ spaces

abbrev pub spaces_of : List Written → List Space
spaces_of [] = []
spaces_of (w ∷ ws) = put_space (declared_prefix w.name) w.value (spaces_of ws)

-- the other attributes
abbrev pub ordinary : List Written → List Written
ordinary [] = []
ordinary (w ∷ ws) = if is_none (declared_prefix w.name) then w ∷ ordinary ws else ordinary ws

-- one of these declares this prefix
abbrev pub declares : List Space → List ℕ → Bool
declares [] prefix = false
declares (s ∷ ss) prefix = bytes_eq s.prefix prefix || declares ss prefix

-- two of these declare one prefix
abbrev pub declares_twice : List Space → Bool
declares_twice [] = false
declares_twice (s ∷ ss) = declares ss s.prefix || declares_twice ss

-- what may not be declared: a prefix for no namespace, `xmlns`, `xml` for another namespace, another prefix for that of `xml`
abbrev pub is_bad : Space → Bool
is_bad s =
    bytes_eq s.prefix (codes "xmlns")
    || (not (is_empty s.prefix) && is_empty s.uri)
    || (if bytes_eq s.prefix (codes "xml") then not (bytes_eq s.uri xml_namespace) else bytes_eq s.uri xml_namespace)

abbrev pub has_bad : List Space → Bool
has_bad [] = false
has_bad (s ∷ ss) = is_bad s || has_bad ss

-- the declarations of one element, the last first
abbrev pub declared_behind : Declarations → List Space → Declarations
declared_behind before [] = before
declared_behind before (s ∷ ss) = declared_behind ((s.prefix, s.uri) ∷ before) ss

-- what the elements declare that are open behind the start of one with these attributes
abbrev pub scope_with : Place → List Written → ScopeBindings
scope_with p attributes = declared_behind [] (spaces_of attributes) ∷ p.scope

module _ (scope : ScopeBindings) where
  -- the prefix of a name is bound; an attribute without a prefix needs no binding
  abbrev pub is_bound_prefix : List ℕ → Bool
  is_bound_prefix name = not (is_none (bound scope (prefix_of name)))

  abbrev pub all_bound : List Written → Bool
  all_bound [] = true
  all_bound (w ∷ ws) = (is_empty (prefix_of w.name) || is_bound_prefix w.name) && all_bound ws

  -- the namespace that a prefix is bound to
  abbrev pub namespace_of : List ℕ → List ℕ
  namespace_of prefix = option_map_or (λ uri. uri) (bound scope prefix) []

  -- the name of an element
  abbrev pub element_name : List ℕ → Name
  element_name name = record { prefix = prefix_of name; uri = namespace_of (prefix_of name); local = local_of name }

  -- the name of an attribute: without a prefix it is in no namespace
  abbrev pub attribute_name : List ℕ → Name
  attribute_name name = record {
    prefix = prefix_of name;
    uri = if is_empty (prefix_of name) then [] else namespace_of (prefix_of name);
    local = local_of name;
  }

  abbrev pub attributes_in : List Written → List Attribute
  attributes_in [] = []
  attributes_in (w ∷ ws) = record { name = attribute_name w.name; value = w.value } ∷ attributes_in ws

-- one of these has the same namespace and local name
abbrev pub has_name : List Attribute → Name → Bool
has_name [] name = false
has_name (a ∷ rest) name = is_same_name a.name name || has_name rest name

-- two of these have the same namespace and local name
abbrev pub has_double : List Attribute → Bool
has_double [] = false
has_double (a ∷ rest) = has_name rest a.name || has_double rest

-- ---- faults

-- nothing of the document but processing instructions and skipped lines may stand behind the root
abbrev pub is_root_closed : Place → Bool
is_root_closed p = p.has_root && is_empty p.opened

-- a line that stands in or begins an element
abbrev pub is_of_element : Line → Bool
is_of_element (starts name) = true
is_of_element (ends name) = true
is_of_element (has name value) = true
is_of_element (lacks name) = true
is_of_element (says s) = true
is_of_element (instructs s) = false
is_of_element skips = false
is_of_element conforms = false

-- a line that needs a root before it
abbrev pub needs_root : Line → Bool
needs_root (starts name) = false
needs_root (ends name) = true
needs_root (has name value) = false
needs_root (lacks name) = false
needs_root (says s) = true
needs_root (instructs s) = false
needs_root skips = false
needs_root conforms = true

-- a line that may stand behind attribute lines
abbrev pub may_follow_attributes : Line → Bool
may_follow_attributes (starts name) = true
may_follow_attributes (ends name) = false
may_follow_attributes (has name value) = true
may_follow_attributes (lacks name) = true
may_follow_attributes (says s) = false
may_follow_attributes (instructs s) = false
may_follow_attributes skips = true
may_follow_attributes conforms = false

-- the first of these names is this one
abbrev pub first_is : List (List ℕ) → List ℕ → Bool
first_is [] name = false
first_is (n ∷ ns) name = bytes_eq n name

-- an end of another element than the innermost open one, or the end of the document where an element is open
abbrev pub is_mismatch : Place → Line → Bool
is_mismatch p (starts name) = false
is_mismatch p (ends name) = not (first_is p.opened name)
is_mismatch p (has name value) = false
is_mismatch p (lacks name) = false
is_mismatch p (says s) = false
is_mismatch p (instructs s) = false
is_mismatch p skips = false
is_mismatch p conforms = not (is_empty p.opened)

-- the most elements that may be open in one another: the limit, and never more than 200
abbrev pub most_open : Limits → ℕ
most_open limits = min limits.depth 200

-- what is at fault with the start of an element of this name
abbrev pub start_fault : Limits → Place → List ℕ → Option Which
start_fault limits p name =
    let spaces = spaces_of p.attributes in
    let scope = scope_with p p.attributes in
    if declares_twice spaces then Some which.DoubleAttr
    else if has_bad spaces then Some which.BadAttr
    else if not (nat_lt (length p.opened) (most_open limits)) then Some which.Depth
    else if not (is_bound_prefix scope name && all_bound scope (ordinary p.attributes)) then Some which.UnboundPrefix
    else if has_double (attributes_in scope (ordinary p.attributes)) then Some which.DoubleAttr
    else None

-- what is at fault with a line that may stand where it is
abbrev pub own_fault : Limits → Place → Line → Option Which
own_fault limits p (starts name) = start_fault limits p name
own_fault limits p (ends name) = None
own_fault limits p (has name value) = if nat_lt (length p.attributes) limits.attrs then None else Some which.Attrs
own_fault limits p (lacks name) = None
own_fault limits p (says s) = if nat_lt limits.text_run (length (p.text ++ s)) then Some which.TextRun else None
own_fault limits p (instructs s) = None
own_fault limits p skips = None
own_fault limits p conforms = None

-- What is at fault with the line that stands there, in this order: behind the end of the root, or of the document; before
-- the root; behind attributes that want a start; at the end of an element that is not the innermost; and its own faults.
abbrev pub fault_of : Limits → Place → Line → Option Which
fault_of limits p line =
    if p.conformed || (is_root_closed p && is_of_element line) then Some which.AfterRoot
    else if not p.has_root && needs_root line then Some which.NoRoot
    else if p.is_loose && not (may_follow_attributes line) then Some which.LooseAttr
    else if is_mismatch p line then Some which.EndMismatch
    else own_fault limits p line

-- what is at fault where the input ends there
abbrev pub end_fault : Place → Option Which
end_fault p =
    if not p.has_root then Some which.NoRoot
    else if not (is_empty p.opened) then Some which.Truncated
    else None
