-- Bindings that are in force: the first of a prefix.
use Rattle.std.proofs.Common.{◌≡◌, ℕ, suc, Bool, true, false, cond, List, [], ◌∷◌, ◌++◌, length, Option, Some, None, refl, ap, sym, ◌∙◌, append_assoc, Bor}
use Rattle.std.specs.Prelude.{bytes_eq, ◌||◌, ◌==◌, codes, is_some}
use Rattle.std.proofs.lemmas.Option.{same_Some}
use Rattle.std.proofs.lemmas.Slice.Eq.{bytes_eq-Decides}
use Rattle.std.specs.Bool.{one_answer}
use Rattle.std.specs.Option.{option_copied}
use Rattle.std.proofs.lemmas.Bool.{ne_eqb}
use Rattle.std.proofs.Math.Bool.{or-false}
use Rattle.std.proofs.lemmas.List.{map-append}
use Rattle.sx_build.proofs.Prefixes.{one_of-append}
use Rattle.sx_build.specs.FixUp.{Binding, binds, first_bound, prefixes, is_text_among}
use Rattle.sx_build.specs.InForce.{first_binding}

pub bytes_eq-sym : (xs ys : List ℕ) → bytes_eq xs ys ≡ bytes_eq ys xs
bytes_eq-sym xs ys =
    let d = bytes_eq-Decides xs ys in
    let e = bytes_eq-Decides ys xs in
    one_answer (bytes_eq xs ys) (bytes_eq ys xs) d (λ is. sym (e.0 is), λ same. e.1 (sym same))

-- ---- the first of more bindings

some_by : (t : Bool) (x b : Binding) (rest other : Option Binding) → cond t (Some x) rest ≡ Some b → (rest ≡ Some b → other ≡ Some b) → cond t (Some x) other ≡ Some b
some_by true x b rest other is more = is
some_by false x b rest other is more = more is

pub first_of-some : (xs ys : List Binding) (prefix : List ℕ) (b : Binding) → first_binding xs prefix ≡ Some b → first_binding (xs ++ ys) prefix ≡ Some b
first_of-some [] ys prefix b is = absurd (cc)
first_of-some (x ∷ xs) ys prefix b is =
    some_by (bytes_eq x.prefix prefix) x b (first_binding xs prefix) (first_binding (xs ++ ys) prefix) is (first_of-some xs ys prefix b)

none_by : (t : Bool) (x : Binding) (rest : Option Binding) → cond t (Some x) rest ≡ None → (t ≡ false) × (rest ≡ None)
none_by true x rest is = absurd (cc)
none_by false x rest is = (refl, is)

pub first_of-none : (xs ys : List Binding) (prefix : List ℕ) → first_binding xs prefix ≡ None → first_binding (xs ++ ys) prefix ≡ first_binding ys prefix
first_of-none [] ys prefix is = refl
first_of-none (x ∷ xs) ys prefix is =
    let no = none_by (bytes_eq x.prefix prefix) x (first_binding xs prefix) is in
    ap (λ (t : Bool). cond t (Some x) (first_binding (xs ++ ys) prefix)) no.0 ∙ first_of-none xs ys prefix no.1

-- ---- what is bound

bound_by : (t same rest : Bool) (x b : Binding) (first : Option Binding) (uri : List ℕ) → cond t (Some x) first ≡ Some b → bytes_eq x.uri uri ≡ same
    → (first ≡ Some b → rest ≡ bytes_eq b.uri uri) → cond t same rest ≡ bytes_eq b.uri uri
bound_by true same rest x b first uri is here more = sym here ∙ ap (λ (y : Binding). bytes_eq y.uri uri) (same_Some x b is)
bound_by false same rest x b first uri is here more = more is

pub binds-some : (xs ys : List Binding) (prefix uri : List ℕ) (b : Binding) → first_binding xs prefix ≡ Some b → binds (xs ++ ys) prefix uri ≡ bytes_eq b.uri uri
binds-some [] ys prefix uri b is = absurd (cc)
binds-some (x ∷ xs) ys prefix uri b is =
    bound_by (bytes_eq x.prefix prefix) (bytes_eq x.uri uri) (binds (xs ++ ys) prefix uri) x b (first_binding xs prefix) uri is refl (binds-some xs ys prefix uri b)

pub binds-none : (xs ys : List Binding) (prefix uri : List ℕ) → first_binding xs prefix ≡ None → binds (xs ++ ys) prefix uri ≡ binds ys prefix uri
binds-none [] ys prefix uri is = refl
binds-none (x ∷ xs) ys prefix uri is =
    let no = none_by (bytes_eq x.prefix prefix) x (first_binding xs prefix) is in
    ap (λ (t : Bool). cond t (bytes_eq x.uri uri) (binds (xs ++ ys) prefix uri)) no.0 ∙ binds-none xs ys prefix uri no.1

-- ---- which prefixes are bound

pub is_prefix : (bs : List Binding) (prefix : List ℕ) → is_text_among (prefixes bs) prefix ≡ is_some (first_binding bs prefix)
is_prefix [] prefix = refl
is_prefix (b ∷ bs) prefix = by (bytes_eq b.prefix prefix) (is_prefix bs prefix)
  where
    by : (t : Bool) → is_text_among (prefixes bs) prefix ≡ is_some (first_binding bs prefix)
        → (t || is_text_among (prefixes bs) prefix) ≡ is_some (cond t (Some b) (first_binding bs prefix))
    by true rest = refl
    by false rest = rest

-- ---- what is bound at first

abbrev xml_uri : List ℕ
xml_uri = codes "http://www.w3.org/XML/1998/namespace"

pub xml_at_first : (prefix uri : List ℕ) → bytes_eq prefix (codes "xml") ≡ true → binds first_bound prefix uri ≡ bytes_eq uri xml_uri
xml_at_first prefix uri is =
    ap (λ (t : Bool). cond t (bytes_eq xml_uri uri) (cond (bytes_eq [] prefix) (bytes_eq [] uri) false)) (bytes_eq-sym (codes "xml") prefix ∙ is)
    ∙ bytes_eq-sym xml_uri uri

other_at_first : (prefix uri : List ℕ) → bytes_eq prefix (codes "xml") ≡ false → binds first_bound prefix uri ≡ cond (bytes_eq [] prefix) (bytes_eq [] uri) false
other_at_first prefix uri not =
    ap (λ (t : Bool). cond t (bytes_eq xml_uri uri) (cond (bytes_eq [] prefix) (bytes_eq [] uri) false)) (bytes_eq-sym (codes "xml") prefix ∙ not)

pub empty_bytes : (s : List ℕ) → bytes_eq [] s ≡ (length s == 0)
empty_bytes [] = refl
empty_bytes (b ∷ bs) = sym (ne_eqb (suc (length bs)) 0 (λ e. cc))

pub default_at_first : (prefix uri : List ℕ) → bytes_eq prefix (codes "xml") ≡ false → (length prefix == 0) ≡ true → binds first_bound prefix uri ≡ (length uri == 0)
default_at_first prefix uri not empty =
    other_at_first prefix uri not
    ∙ ap (λ (t : Bool). cond t (bytes_eq [] uri) false) (empty_bytes prefix ∙ empty)
    ∙ empty_bytes uri

pub none_at_first : (prefix uri : List ℕ) → bytes_eq prefix (codes "xml") ≡ false → (length prefix == 0) ≡ false → binds first_bound prefix uri ≡ false
none_at_first prefix uri not some =
    other_at_first prefix uri not
    ∙ ap (λ (t : Bool). cond t (bytes_eq [] uri) false) (empty_bytes prefix ∙ some)

-- which prefixes are bound at first
pub is_first_prefix : (prefix : List ℕ) → is_text_among (prefixes first_bound) prefix ≡ (bytes_eq prefix (codes "xml") || (length prefix == 0))
is_first_prefix prefix =
    ap (λ (t : Bool). t || (bytes_eq [] prefix || false)) (bytes_eq-sym (codes "xml") prefix)
    ∙ ap (λ (t : Bool). bytes_eq prefix (codes "xml") || t) (or-false (bytes_eq [] prefix) ∙ empty_bytes prefix)

-- what is bound of two lists
pub prefixes-append : (xs ys : List Binding) (prefix : List ℕ) → is_text_among (prefixes (xs ++ ys)) prefix ≡ (is_some (first_binding xs prefix) || is_text_among (prefixes ys) prefix)
prefixes-append xs ys prefix =
    ap (λ (ts : List (List ℕ)). is_text_among ts prefix) (map-append (λ (b : Binding). b.prefix) xs ys)
    ∙ one_of-append (prefixes xs) (prefixes ys) prefix
    ∙ ap (λ (t : Bool). t || is_text_among (prefixes ys) prefix) (is_prefix xs prefix)

pub bound_among : (own outer : List Binding) (prefix : List ℕ) (found : Option (Bor Binding)) (test : Bool)
    → option_copied found ≡ first_binding (own ++ outer) prefix → is_some found ≡ test
    → is_text_among (prefixes (own ++ (outer ++ first_bound))) prefix ≡ (test || is_text_among (prefixes first_bound) prefix)
bound_among own outer prefix found test is tested =
    ap (λ (bs : List Binding). is_text_among (prefixes bs) prefix) (sym (append_assoc own outer first_bound))
    ∙ prefixes-append (own ++ outer) first_bound prefix
    ∙ ap (λ (o : Option Binding). is_some o || is_text_among (prefixes first_bound) prefix) (sym is)
    ∙ ap (λ (t : Bool). t || is_text_among (prefixes first_bound) prefix) (by found ∙ tested)
  where
    by : (o : Option (Bor Binding)) → is_some (option_copied o) ≡ is_some o
    by None = refl
    by (Some b) = refl

-- whether a prefix is bound by one of some bindings
pub is_declared : (bs : List Binding) (prefix : List ℕ) (found : Option (Bor Binding)) → option_copied found ≡ first_binding bs prefix → is_some found ≡ is_text_among (prefixes bs) prefix
is_declared bs prefix found is = by found ∙ ap (λ (o : Option Binding). is_some o) is ∙ sym (is_prefix bs prefix)
  where
    by : (o : Option (Bor Binding)) → is_some o ≡ is_some (option_copied o)
    by None = refl
    by (Some b) = refl
