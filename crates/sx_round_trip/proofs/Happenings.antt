-- What the events of a whole document are: how their starts are read, and what follows what.
use Rattle.std.proofs.Common.{◌≡◌, ℕ, suc, ◌<◌, ◌≤◌, Bool, true, false, List, [], ◌∷◌, length, Some, None}
use Rattle.std.specs.Str.{IsUtf8}
use Rattle.sx_chars.specs.Names.{without_leading_space}
use Rattle.sx_lines.specs.Lines.{Lacks}
use Rattle.sx_lines.specs.Normal.{IsName, IsTarget}
use Rattle.sx_limits.specs.declared.limits.Limits.{Limits}
use Rattle.sx_events.specs.Place.{Written, is_bad, declared_prefix, element_name, attributes_in, is_bound_prefix, all_bound, has_double, most_open}
use Rattle.sx_named.specs.Named.{NamedElement}
use Rattle.sx_names.specs.Scope.{ScopeBindings, bound}
use Rattle.sx_tree.specs.declared.events.Space.{Space}
use Rattle.sx_tree.specs.Tree.{TreeEvent, starts, ends, says, instructs, closes}

-- the declaration of a prefix
abbrev pub declares_as : List ℕ → List ℕ → Space
declares_as prefix uri = record { prefix = prefix; uri = uri }

-- text that a document can say
abbrev pub IsSaid : List ℕ → Type 0
IsSaid s = IsUtf8 s × Lacks 0 s

-- a namespace that may be declared for this prefix
abbrev pub IsGood : List ℕ → List ℕ → Type 0
IsGood prefix uri = (is_bad (declares_as prefix uri) ≡ false) × IsSaid uri

-- each prefix is bound to a namespace that may be declared for it
abbrev pub IsSound : ScopeBindings → Type 0
IsSound scope = (prefix uri : List ℕ) → bound scope prefix ≡ Some uri → IsGood prefix uri

-- attribute lines whose names are names, and whose values can be said
abbrev pub AreWritten : List Written → Type 0
AreWritten [] = Unit {0}
AreWritten (w ∷ ws) = IsName w.name × IsSaid w.value × AreWritten ws

-- none of them declares a namespace
abbrev pub AreOrdinary : List Written → Type 0
AreOrdinary [] = Unit {0}
AreOrdinary (w ∷ ws) = (declared_prefix w.name ≡ None) × AreOrdinary ws

-- An element is read of a name and attributes, where this is declared.
pub record IsRead (scope : ScopeBindings) (name : List ℕ) (lines : List Written) (e : NamedElement) : Type 0 where
  pub name_is : e.name ≡ element_name scope name
  pub attributes_are : e.attributes ≡ attributes_in scope lines
  pub sound : IsSound scope
  pub named : IsName name
  pub written : AreWritten lines
  pub ordinary : AreOrdinary lines
  pub bound : is_bound_prefix scope name ≡ true
  pub all_bound : all_bound scope lines ≡ true
  pub single : has_double (attributes_in scope lines) ≡ false

-- an element as it is read of some lines
abbrev pub Comes : NamedElement → Type 0
Comes e = (scope : ScopeBindings) × (name : List ℕ) × (lines : List Written) × IsRead scope name lines e

-- What happens in a whole document where so many elements are open, a root has or has not begun, and a text did or did not
-- happen last.
abbrev pub Happens : Limits → ℕ → Bool → Bool → List (TreeEvent NamedElement) → Type 0
Happens limits depth root after_text [] = ⊥
Happens limits depth root after_text (starts e ∷ es) = (root ≡ true → 0 < depth) × (depth < most_open limits) × Comes e × Happens limits (suc depth) true false es
Happens limits depth root after_text (ends ∷ es) = (less : ℕ) × (depth ≡ suc less) × Happens limits less root false es
Happens limits depth root after_text (says s ∷ es) =
    (0 < depth) × (after_text ≡ false) × (0 < length s) × (length s ≤ limits.text_run) × IsUtf8 s × Lacks 0 s × Happens limits depth root true es
Happens limits depth root after_text (instructs target content ∷ es) =
    IsTarget target × IsUtf8 content × Lacks 0 content × (without_leading_space content ≡ content) × Happens limits depth root false es
Happens limits depth root after_text (closes ∷ es) = (depth ≡ 0) × (root ≡ true) × (es ≡ [])
