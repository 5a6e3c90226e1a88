-- What is built of the events of a document, in turn.
use Rattle.std.proofs.Common.{◌≡◌, ℕ, suc, Bool, true, false, cond, ◌&&◌, ◌||◌, List, [], ◌∷◌, ◌++◌, length, Some, None, refl, ap, ap₂, sym, ◌∙◌, subst, append_assoc, append-nil, arith}
use Rattle.sx_build.specs.Asked as ask
use Rattle.sx_build.specs.Asked.{Asked}
use Rattle.sx_build.specs.Build.{Open, bindings_in, element_opened, built_in, built, error_of, printed_start}
use Rattle.sx_build.specs.Content.{Parts, Held, start, with_attribute, put_parts, parts_from, in_texts}
use Rattle.sx_build.specs.FixUp.{fix_up}
use Rattle.sx_build.proofs.InForces.{bytes_eq-sym}
use Rattle.sx_events.specs.Place.{has_name, has_double}
use Rattle.sx_limits.specs.declared.limits.Limits.{Limits}
use Rattle.sx_lines.specs.declared.events.Built.{Built}
use Rattle.sx_lines.specs.declared.events.Built.TheVariants as event
use Rattle.sx_named.specs.Named.{Name, Attribute, NamedElement, is_same_name}
use Rattle.sx_tree.specs.Tree.{TreeEvent, starts, ends, says, instructs, closes}
use Rattle.sx_round_trip.proofs.Askings.{all_had, asked_all}
use Rattle.sx_round_trip.proofs.Happenings.{Happens}

-- what is built of events where these elements are open
abbrev pub copy_in : List Open → List (TreeEvent NamedElement) → List Built
copy_in os [] = []
copy_in os (starts e ∷ es) =
    let f = fix_up (bindings_in os) e.name e.attributes in
    printed_start e.name f ∷ copy_in (element_opened os e.name f ∷ os) es
copy_in [] (ends ∷ es) = copy_in [] es
copy_in (o ∷ os) (ends ∷ es) = event.End o.name ∷ copy_in os es
copy_in os (says s ∷ es) = event.Text s ∷ copy_in os es
copy_in os (instructs target content ∷ es) = event.Pi target content ∷ copy_in os es
copy_in os (closes ∷ es) = copy_in os es

-- ---- attributes behind one another

same_name-sym : (a b : Name) → is_same_name a b ≡ is_same_name b a
same_name-sym a b = ap₂ (λ (x y : Bool). x && y) (bytes_eq-sym a.uri b.uri) (bytes_eq-sym a.local b.local)

false_parts : (a b : Bool) → (a || b) ≡ false → (a ≡ false) × (b ≡ false)
false_parts true b h = absurd (cc)
false_parts false b h = (refl, h)

-- a name that none has, has none in front
no_name : (xs ys : List Attribute) (a : Attribute) (name : Name) → has_name (xs ++ a ∷ ys) name ≡ false → is_same_name a.name name ≡ false
no_name [] ys a name h = (false_parts (is_same_name a.name name) (has_name ys name) h).0
no_name (x ∷ xs) ys a name h = no_name xs ys a name (false_parts (is_same_name x.name name) (has_name (xs ++ a ∷ ys) name) h).1

with_last : (xs ys : List Attribute) (a : Attribute) → has_double (xs ++ a ∷ ys) ≡ false → with_attribute xs a ≡ xs ++ a ∷ []
with_last [] ys a h = refl
with_last (x ∷ xs) ys a h =
    let parts = false_parts (has_name (xs ++ a ∷ ys) x.name) (has_double (xs ++ a ∷ ys)) h in
    ap (λ (t : Bool). cond t (a ∷ xs) (x ∷ with_attribute xs a)) (same_name-sym x.name a.name ∙ no_name xs ys a x.name parts.0)
    ∙ ap (λ (r : List Attribute). x ∷ r) (with_last xs ys a parts.1)

-- attributes without doubles are held as they come
had_all : (depth : ℕ) (name : Name) (xs ys : List Attribute) (rest : List Asked) → has_double (xs ++ ys) ≡ false
    → parts_from depth (Some (record { name = name; attributes = xs })) (all_had ys ++ rest) ≡ parts_from depth (Some (record { name = name; attributes = xs ++ ys })) rest
had_all depth name xs [] rest h = ap (λ (r : List Attribute). parts_from depth (Some (record { name = name; attributes = r })) rest) (sym (append-nil xs))
had_all depth name xs (y ∷ ys) rest h =
    ap (λ (r : List Attribute). parts_from depth (Some (record { name = name; attributes = r })) (all_had ys ++ rest)) (with_last xs ys y h)
    ∙ had_all depth name (xs ++ y ∷ []) ys rest (ap has_double (append_assoc xs (y ∷ []) ys) ∙ h)
    ∙ ap (λ (r : List Attribute). parts_from depth (Some (record { name = name; attributes = r })) rest) (append_assoc xs (y ∷ []) ys)

texts_behind : (xs : List Attribute) (rest : List Asked) → in_texts false (all_had xs ++ rest) ≡ all_had xs ++ in_texts false rest
texts_behind [] rest = refl
texts_behind (x ∷ xs) rest = ap (λ (r : List Asked). ask.has x ∷ r) (texts_behind xs rest)

-- a start that is held stands in front of what follows it
held_first : (limits : Limits) (depth : ℕ) (h : Held) (root after_text : Bool) (es : List (TreeEvent NamedElement)) → Happens limits depth root after_text es
    → parts_from depth (Some h) (in_texts false (asked_all es)) ≡ put_parts (start h.name h.attributes ∷ []) (parts_from depth None (in_texts false (asked_all es)))
held_first limits depth h root after_text [] is = absurd is
held_first limits depth h root after_text (starts e ∷ es) is = refl
held_first limits depth h root after_text (ends ∷ es) is = refl
held_first limits depth h root after_text (says [] ∷ es) is = absurd (omega (arith, is.2))
held_first limits depth h root after_text (says (b ∷ bs) ∷ es) is = refl
held_first limits depth h root after_text (instructs t c ∷ es) is = refl
held_first limits depth h root after_text (closes ∷ es) is = rw is.2 refl

-- what is built of these parts
abbrev Builds : List Open → Parts → List Built → Type 0
Builds os p es = (built_in os p.parts ≡ es) × (p.error ≡ None)

builds_all : (limits : Limits) (os : List Open) (root after_text : Bool) (es : List (TreeEvent NamedElement)) → Happens limits (length os) root after_text es
    → Builds os (parts_from (length os) None (in_texts false (asked_all es))) (copy_in os es)
builds_all limits os root after_text [] is = absurd is
builds_all limits os root after_text (starts e ∷ es) is =
    let f = fix_up (bindings_in os) e.name e.attributes in
    let o = element_opened os e.name f in
    let rest = in_texts false (asked_all es) in
    let comes = is.2.3 in
    let single : has_double e.attributes ≡ false = ap has_double comes.attributes_are ∙ comes.single in
    let parts : parts_from (suc (length os)) (Some (record { name = e.name; attributes = [] })) (in_texts false (all_had e.attributes ++ asked_all es))
    ≡ put_parts (start e.name e.attributes ∷ []) (parts_from (suc (length os)) None rest) =
    ap (parts_from (suc (length os)) (Some (record { name = e.name; attributes = [] }))) (texts_behind e.attributes (asked_all es))
    ∙ had_all (suc (length os)) e.name [] e.attributes rest single
    ∙ held_first limits (suc (length os)) (record { name = e.name; attributes = e.attributes }) true false es is.3 in
    let more = builds_all limits (o ∷ os) true false es is.3 in
    subst (λ (p : Parts). Builds os p (copy_in os (starts e ∷ es))) (sym parts)
    (ap (λ (r : List Built). printed_start e.name f ∷ r) more.0, more.1)
builds_all limits [] root after_text (ends ∷ es) is = absurd (let none = is.1 in cc)
builds_all limits (o ∷ os) root after_text (ends ∷ es) is =
    let same : length os ≡ is.0 = let s = is.1 in cc in
    let more = builds_all limits os root false es (subst (λ (n : ℕ). Happens limits n root false es) (sym same) is.2) in
    (ap (λ (r : List Built). event.End o.name ∷ r) more.0, more.1)
builds_all limits os root after_text (says [] ∷ es) is = absurd (omega (arith, is.2))
builds_all limits os root after_text (says (b ∷ bs) ∷ es) is =
    let more = builds_all limits os root true es is.6 in
    (ap (λ (r : List Built). event.Text (b ∷ bs) ∷ r) more.0, more.1)
builds_all limits os root after_text (instructs t c ∷ es) is =
    let more = builds_all limits os root false es is.4 in
    (ap (λ (r : List Built). event.Pi t c ∷ r) more.0, more.1)
builds_all limits os root after_text (closes ∷ es) is = rw is.2 (refl, refl)

-- What is built of the events of a whole document, and that there is no error.
pub built_is : (limits : Limits) (es : List (TreeEvent NamedElement)) → Happens limits 0 false false es → (built (asked_all es) ≡ copy_in [] es) × (error_of (asked_all es) ≡ None)
built_is limits es is = builds_all limits [] false false es is
