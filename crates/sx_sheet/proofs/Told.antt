-- What tokens can say.
use Rattle.std.proofs.Common.{◌≡◌, ◌<◌, ◌&&◌, ◌==◌, ◌⊎◌, inl, inr, Bool, true, false, ℕ, List, [], ◌∷◌, length, bytes_eq, codes, Option, Some, None, IfSome, slice_get, refl, if◌then◌else◌}
use Rattle.std.specs.Option.{option_map_or}
use Rattle.std.proofs.lemmas.Option.{slice_get_within}
use Rattle.sx_kinds.specs.declared.sheets.OnNoMatch.TheVariants.{TextOnlyCopy, ShallowCopy}
use Rattle.sx_names.specs.Numbering.{NameTable, uri_at, local_at}
use Rattle.sx_tree.specs.declared.events.Label.{Label}
use Rattle.sx_tree.specs.declared.events.Attr.{Attr}
use Rattle.sx_tree.specs.Tree as tree
use Rattle.sx_tree.specs.Tree.{TreeEvent}
use Rattle.sx_named.specs.Named.{Name, Attribute, ElementStart, name_at, attributes_at}
use Rattle.sx_sheet.specs.declared.tokens.Token as code
use Rattle.sx_sheet.specs.declared.tokens.Token.TheVariants as token
use Rattle.sx_sheet.specs.Tokens.{Token, starts_mode, starts_template, starts_literal, starts_text, starts_apply, strange, is_empty, is_plain_name, is_value, value_named, mode_token_for, template_token_for, if_bare, xslt_token, xslt_namespace, literal_token, start_token, token_of}
use Rattle.sx_sheet.specs.Shown.{bare_name, shown, IsShown}

pub length_at : (names : NameTable) (attrs : List Attr) → length (attributes_at names attrs) ≡ length attrs
length_at names [] = refl
length_at names (a ∷ rest) = rw (length_at names rest) refl

pub not_bare : (names : NameTable) (attrs : List Attr) (t : Token) → false ≡ (length attrs == 0) → strange ≡ if_bare (attributes_at names attrs) t
not_bare names [] t e = absurd cc
not_bare names (a ∷ rest) t e = refl

-- a mode is one of two, and names of literal elements and patterns are plain
abbrev pub IsTold : Token → Type 0
IsTold (starts_mode m) = (m ≡ TextOnlyCopy) ⊎ (m ≡ ShallowCopy)
IsTold (starts_template name) = is_plain_name name ≡ true
IsTold (starts_literal name) = (name.prefix ≡ []) × (is_plain_name name.local ≡ true)
IsTold t = Unit {0}

either : (b : Bool) (x y : Token) → (b ≡ true → IsTold x) → (b ≡ false → IsTold y) → IsTold (if b then x else y)
either true x y f g = f refl
either false x y f g = g refl

pub mode_told : (v : Option (List ℕ)) → IsTold (mode_token_for v)
mode_told v =
    either (is_value (codes "text-only-copy") v) _ _ (λ e. inl refl)
    (λ e1. either (is_value (codes "shallow-copy") v) _ _ (λ e. inr refl) (λ e. tt))

template_told : (v : Option (List ℕ)) → IsTold (template_token_for v)
template_told None = tt
template_told (Some v) = either (is_plain_name v) _ _ (λ e. e) (λ e. tt)

bare_told : (attributes : List Attribute) (t : Token) → IsTold t → IsTold (if_bare attributes t)
bare_told attributes t h = either (is_empty attributes) _ _ (λ e. h) (λ e. tt)

xslt_told : (local : List ℕ) (attributes : List Attribute) → IsTold (xslt_token local attributes)
xslt_told local attributes =
    either (bytes_eq local (codes "stylesheet")) _ _ (λ e. either (length attributes == 1 && is_value (codes "3.0") (value_named attributes (codes "version"))) _ _ (λ e. tt) (λ e. tt))
    (λ e1. either (bytes_eq local (codes "mode")) _ _ (λ e. either (length attributes == 2 && is_value (codes "yes") (value_named attributes (codes "streamable"))) _ _ (λ e. mode_told (value_named attributes (codes "on-no-match"))) (λ e. tt))
    (λ e2. either (bytes_eq local (codes "template")) _ _ (λ e. either (length attributes == 1) _ _ (λ e. template_told (value_named attributes (codes "match"))) (λ e. tt))
    (λ e3. either (bytes_eq local (codes "text")) _ _ (λ e. bare_told attributes starts_text tt)
    (λ e4. either (bytes_eq local (codes "apply-templates")) _ _ (λ e. bare_told attributes starts_apply tt) (λ e. tt)))))

empty : (s : List ℕ) → is_empty s ≡ true → s ≡ []
empty [] e = refl
empty (c ∷ s) e = absurd cc

pub are_both : (a b : Bool) → a && b ≡ true → (a ≡ true) × (b ≡ true)
are_both true true e = (refl, refl)
are_both true false e = absurd cc
are_both false b e = absurd cc

literal_told : (name : Name) (attributes : List Attribute) → IsTold (literal_token name attributes)
literal_told name attributes =
    either (is_empty name.prefix && is_plain_name name.local) _ _
    (λ e. let h = are_both (is_empty name.prefix) (is_plain_name name.local) e in bare_told attributes (starts_literal name) (empty name.prefix h.0, h.1))
    (λ e. tt)

pub start_told : (b : ElementStart) → IsTold (start_token b)
start_told b = either (bytes_eq b.name.uri xslt_namespace) _ _ (λ e. xslt_told b.name.local b.attributes) (λ e. literal_told b.name b.attributes)

pub token_told : (h : TreeEvent ElementStart) → IfSome (token_of h) IsTold
token_told (tree.starts b) = start_told b
token_told tree.ends = tt
token_told (tree.says s) = tt
token_told (tree.instructs target content) = tt
token_told tree.closes = tt

-- ---- literal elements

literal_by : (p u l : List ℕ) (attributes : List Attribute) → bytes_eq u xslt_namespace ≡ false → is_empty p ≡ true → is_plain_name l ≡ true →
    if_bare attributes (starts_literal (record { prefix = []; uri = u; local = l }))
    ≡ start_token (record { name = record { prefix = p; uri = u; local = l }; attributes = attributes; spaces = [] })
literal_by [] u l attributes e f g = rw e (rw g refl)
literal_by (c ∷ p) u l attributes e f g = absurd cc

pub literal_starts : (names : NameTable) (label : Label) (attributes : List Attribute) → bytes_eq (uri_at names label.number) xslt_namespace ≡ false → is_empty label.prefix ≡ true →
    is_plain_name (local_at names label.number) ≡ true →
    if_bare attributes (starts_literal (bare_name names label.number)) ≡ start_token (record { name = name_at names label; attributes = attributes; spaces = [] })
literal_starts names label attributes e f g = literal_by label.prefix (uri_at names label.number) (local_at names label.number) attributes e f g

-- a name that the table does not have is not plain
has_by : (names : NameTable) (n : ℕ) (o : Option (List ℕ × List ℕ)) → slice_get names n ≡ o → is_plain_name (option_map_or (λ name. name.1) o []) ≡ true → n < length names
has_by names n None e h = absurd cc
has_by names n (Some x) e h = slice_get_within names n x e

-- what tells is known
pub known_by : (names : NameTable) (t : code.Token) → IsTold (shown names t) → IsShown names t
known_by names token.StartsSheet h = tt
known_by names (token.StartsMode m) h = tt
known_by names (token.StartsTemplate name) h = tt
known_by names (token.StartsLiteral n) h = has_by names n (slice_get names n) refl h.1
known_by names token.StartsText h = tt
known_by names token.StartsApply h = tt
known_by names token.Ends h = tt
known_by names (token.Says s) h = tt
known_by names token.Closes h = tt
known_by names token.Strange h = tt

pub known_start : (names : NameTable) (t : code.Token) (b : ElementStart) → shown names t ≡ start_token b → IsShown names t
known_start names t b e = known_by names t (rw e (start_told b))
