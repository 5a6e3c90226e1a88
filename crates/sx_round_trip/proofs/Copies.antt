-- A copy is a document, and is read as the events that it is a copy of.
use Rattle.std.proofs.Common.{◌≡◌, ℕ, suc, ◌<◌, Bool, true, false, cond, ◌&&◌, List, [], ◌∷◌, length, Some, None, refl, ap, ap₂, sym, ◌∙◌, subst, arith}
use Rattle.std.specs.Prelude.{codes}
use Rattle.std.proofs.lemmas.Slice.Eq.{bytes_eq-Decides}
use Rattle.sx_build.specs.Build.{Open, bindings_in, element_opened}
use Rattle.sx_build.specs.FixUp.{fix_up, first_bound}
use Rattle.sx_build.proofs.InForces.{bytes_eq-sym}
use Rattle.sx_events.specs.Place.{is_empty, xml_namespace, most_open}
use Rattle.sx_limits.specs.declared.limits.Limits.{Limits}
use Rattle.sx_lines.specs.declared.events.Built.{Built}
use Rattle.sx_lines.specs.Normal.{IsName, AreNormal}
use Rattle.sx_named.specs.Named.{NamedElement, all_in_tree}
use Rattle.sx_names.specs.Scope.{ScopeBindings, bound}
use Rattle.sx_tree.specs.Tree.{TreeEvent, starts, ends, says, instructs, closes}
use Rattle.sx_round_trip.specs.Document.{LackZero, IsContent, IsDocument, document_events, scope_in}
use Rattle.sx_round_trip.proofs.Bindings.{lookup}
use Rattle.sx_round_trip.proofs.Buildings.{copy_in}
use Rattle.sx_round_trip.proofs.Happenings.{Happens}
use Rattle.sx_round_trip.proofs.Starts.{copied_start}

-- the names of open elements, as they are printed
abbrev names_in : List Open → List (List ℕ)
names_in [] = []
names_in (o ∷ os) = o.name ∷ names_in os

-- what is declared binds each prefix as the open elements have it
abbrev Stands : List Open → ScopeBindings → Type 0
Stands [] scope = scope ≡ []
Stands (o ∷ os) [] = ⊥
Stands (o ∷ os) (d ∷ ds) = IsName o.name × ((prefix : List ℕ) → bound (d ∷ ds) prefix ≡ lookup o.bound prefix) × Stands os ds

first_like : (prefix : List ℕ) → bound [] prefix ≡ lookup first_bound prefix
first_like prefix =
    ap₂ (λ (x y : Bool). cond x (Some xml_namespace) (cond y (Some []) None)) (bytes_eq-sym prefix (codes "xml")) (bytes_eq-sym prefix [])

like : (os : List Open) (scope : ScopeBindings) → Stands os scope → (prefix : List ℕ) → bound scope prefix ≡ lookup (bindings_in os) prefix
like [] scope stands prefix = ap (λ (s : ScopeBindings). bound s prefix) stands ∙ first_like prefix
like (o ∷ os) [] stands prefix = absurd stands
like (o ∷ os) (d ∷ ds) stands prefix = stands.1 prefix

names-length : (os : List Open) → length (names_in os) ≡ length os
names-length [] = refl
names-length (o ∷ os) = ap suc (names-length os)

-- What a copy of these events is, where these elements are open.
record IsCopy (limits : Limits) (element_opened : List (List ℕ)) (scope : ScopeBindings) (root after_text : Bool) (es : List (TreeEvent NamedElement)) (cs : List Built) : Type 0 where
  normal : AreNormal after_text cs
  zeroless : LackZero cs
  content : IsContent limits element_opened scope root cs
  read : all_in_tree (document_events scope cs) ≡ es

and_false : (b : Bool) → (b && false) ≡ false
and_false true = refl
and_false false = refl

some_open : (os : List Open) → 0 < length os → is_empty (names_in os) ≡ false
some_open [] some = absurd (omega (arith, some))
some_open (o ∷ os) some = refl

one_root : (root : Bool) (os : List Open) → (root ≡ true → 0 < length os) → (root && is_empty (names_in os)) ≡ false
one_root true os some = some_open os (some refl)
one_root false os some = refl

none_open : (os : List Open) → length os ≡ 0 → names_in os ≡ []
none_open [] none = refl
none_open (o ∷ os) none = absurd (omega (arith, none))

copied_events : (limits : Limits) (os : List Open) (scope : ScopeBindings) (root after_text : Bool) (es : List (TreeEvent NamedElement))
    → Happens limits (length os) root after_text es → Stands os scope → IsCopy limits (names_in os) scope root after_text es (copy_in os es)
copied_events limits os scope root after_text [] is stands = absurd is
copied_events limits os scope root after_text (starts e ∷ es) is stands =
    let f = fix_up (bindings_in os) e.name e.attributes in
    let now = element_opened os e.name f ∷ os in
    let c = copied_start limits e (bindings_in os) scope is.2 (like os scope stands) in
    let inner = scope_in scope c.pairs in
    let rest = copied_events limits now inner true false es is.3 (c.is_event.0, c.same, stands) in
    let room = subst (λ (n : ℕ). n < most_open limits) (sym (names-length os)) is.1 in
    subst (λ (x : Built). IsCopy limits (names_in os) scope root after_text (starts e ∷ es) (x ∷ copy_in now es)) (sym c.printed) (record {
      normal = (c.is_event, and_false after_text, rest.normal);
      zeroless = (c.zeroless, rest.zeroless);
      content = (one_root root os is.0, c.start (length (names_in os)) room, rest.content);
      read = ap₂ (λ (x : NamedElement) (r : List (TreeEvent NamedElement)). starts x ∷ r) c.read rest.read;
    })
copied_events limits [] scope root after_text (ends ∷ es) is stands = absurd (omega (arith, is.1))
copied_events limits (o ∷ os) [] root after_text (ends ∷ es) is stands = absurd stands
copied_events limits (o ∷ os) (d ∷ ds) root after_text (ends ∷ es) is stands =
    let same : length os ≡ is.0 = omega (arith, is.1) in
    let rest = copied_events limits os ds root false es (subst (λ (n : ℕ). Happens limits n root false es) (sym same) is.2) stands.2 in
    record {
      normal = (stands.0, and_false after_text, rest.normal);
      zeroless = rest.zeroless;
      content = ((bytes_eq-Decides o.name o.name).1 refl, rest.content);
      read = ap (λ (r : List (TreeEvent NamedElement)). ends ∷ r) rest.read;
    }
copied_events limits os scope root after_text (says s ∷ es) is stands =
    let rest = copied_events limits os scope root true es is.6 stands in
    record {
      normal = ((is.4, is.2), ap (λ (t : Bool). t && true) is.1, rest.normal);
      zeroless = (is.5, rest.zeroless);
      content = (some_open os is.0, is.3, rest.content);
      read = ap (λ (r : List (TreeEvent NamedElement)). says s ∷ r) rest.read;
    }
copied_events limits os scope root after_text (instructs t c ∷ es) is stands =
    let rest = copied_events limits os scope root false es is.4 stands in
    record {
      normal = ((is.0, is.1), and_false after_text, rest.normal);
      zeroless = (is.2, rest.zeroless);
      content = (is.3, rest.content);
      read = ap (λ (r : List (TreeEvent NamedElement)). instructs t c ∷ r) rest.read;
    }
copied_events limits os scope root after_text (closes ∷ es) is stands = rw is.2 (record {
  normal = tt;
  zeroless = tt;
  content = (none_open os is.0, is.1);
  read = refl;
})

-- The copy of a whole document is one, and is read as the same events.
pub copy_is : (limits : Limits) (es : List (TreeEvent NamedElement)) → Happens limits 0 false false es
    → IsDocument limits (copy_in [] es) × (all_in_tree (document_events [] (copy_in [] es)) ≡ es)
copy_is limits es is =
    let c = copied_events limits [] [] false false es is refl in
    (record { normal = c.normal; zeroless = c.zeroless; content = c.content }, c.read)
