-- What the tables hold, as contracts see it.
use Rattle.std.specs.Prelude.{ℕ, ◌<◌, List, [], ◌∷◌, length, map, slice_get, String, string_bytes, IfSome}
use Rattle.std.specs.Option.{option_map_or}
use Rattle.sx_names.specs.Numbering.{IsDistinct, NameTable}
use Rattle.sx_names.specs.declared.name_table.Parts.{Parts}

-- the bytes of the texts: the empty text first, then the strings
abbrev pub texts_of : {Y : Type 0} → List (String Y) → List (List ℕ)
texts_of strings = [] ∷ map (λ s. string_bytes s) strings

-- the text with a number, and no bytes past the last
abbrev pub numbered_text : List (List ℕ) → ℕ → List ℕ
numbered_text texts n = option_map_or (λ t. t) (slice_get texts n) []

-- the two texts of a name
abbrev pub entry_of : List (List ℕ) → List (List ℕ) → Parts → List ℕ × List ℕ
entry_of uris locals p = (numbered_text uris p.uri, numbered_text locals p.local)

-- the names, each by its two texts
abbrev pub entries_of : List (List ℕ) → List (List ℕ) → List Parts → NameTable
entries_of uris locals parts = map (entry_of uris locals) parts

-- both texts of a name are there
abbrev pub AreThere : List (List ℕ) → List (List ℕ) → Parts → Type 0
AreThere uris locals p = (p.uri < length uris) × (p.local < length locals)

-- both texts of each name are there, and no text and no name is there twice
pub record AreNames (uris locals : List (List ℕ)) (parts : List Parts) : Type 0 where
  pub within : (i : ℕ) → IfSome (slice_get parts i) (AreThere uris locals)
  pub uris_distinct : IsDistinct uris
  pub locals_distinct : IsDistinct locals
  pub names_distinct : IsDistinct (entries_of uris locals parts)
