-- What the tables of bindings hold, as contracts see it.
use Rattle.std.specs.Prelude.{◌≡◌, ℕ, ◌-◌, ◌<◌, ◌≤◌, List, [], ◌∷◌, length, map, reverse, take, drop, nat_eq, Option, Some, None, slice_index_or, string_bytes, if◌then◌else◌}
use Rattle.sx_names.specs.Numbering.{IsDistinct}
use Rattle.sx_names.specs.Inside.{numbered_text}
use Rattle.sx_names.specs.Scope.{Declarations, ScopeBindings}
use Rattle.sx_names.specs.declared.bindings.Binding.{Binding}

-- the prefix and the URI of a binding
abbrev pub pair_of : List (List ℕ) → Binding → List ℕ × List ℕ
pair_of prefixes b = (numbered_text prefixes b.prefix, string_bytes b.uri)

-- the prefixes and URIs of bindings, the last first
abbrev pub pairs_of : List (List ℕ) → List Binding → Declarations
pairs_of prefixes bindings = map (pair_of prefixes) (reverse bindings)

-- where bindings stand with the last first: the place, counted from the other end, of the first with this prefix's number
abbrev pub place_in_force : List Binding → ℕ → Option ℕ
place_in_force [] n = None
place_in_force (b ∷ bs) n = if nat_eq b.prefix n then Some (length bs) else place_in_force bs n

-- where bindings stand with the last first: each has a prefix that is there, and says which binding of it it hides
abbrev pub AreLinked : List (List ℕ) → List Binding → Type 0
AreLinked prefixes [] = Unit {0}
AreLinked prefixes (b ∷ bs) = (b.prefix < length prefixes) × (b.hidden ≡ place_in_force bs b.prefix) × AreLinked prefixes bs

-- no prefix is there twice, the bindings are linked, and for each prefix's number it is said which binding is in force
pub record AreBindings (prefixes : List (List ℕ)) (in_force : List (Option ℕ)) (bindings : List Binding) : Type 0 where
  pub distinct : IsDistinct prefixes
  pub linked : AreLinked prefixes (reverse bindings)
  pub known : (n : ℕ) → slice_index_or in_force n None ≡ place_in_force (reverse bindings) n

-- the declarations of each element, the innermost first, where those before a place stand around it
abbrev pub elements_of : List ℕ → Declarations → ScopeBindings
elements_of [] pairs = []
elements_of (begin ∷ begins) pairs = take (length pairs - begin) pairs ∷ elements_of begins (drop (length pairs - begin) pairs)

-- each declaration is that of an element
abbrev pub AreElements : List ℕ → Declarations → Type 0
AreElements [] pairs = pairs ≡ []
AreElements (begin ∷ begins) pairs = (begin ≤ length pairs) × AreElements begins (drop (length pairs - begin) pairs)
