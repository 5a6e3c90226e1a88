-- What is asked for in turn, put together: atoms as texts, and attributes with the start of their element (XSLT 3.0, 5.7.1).
use Rattle.std.specs.Prelude.{ℕ, zero, suc, Bool, true, false, List, [], ◌∷◌, ◌++◌, Option, Some, None, if◌then◌else◌}
use Rattle.sx_atoms.specs.declared.error_codes.Code.{Code}
use Rattle.sx_atoms.specs.declared.error_codes.Code.TheVariants as error
use Rattle.sx_named.specs.Named.{Name, is_same_name, Attribute}
use Rattle.sx_build.specs.Asked.{Asked, starts, ends, has, says, prints, instructs}

-- ---- texts

-- the print of an atom, with a space before it where the raw event before it was an atom
abbrev pub spaced : Bool → List ℕ → List ℕ
spaced true s = 32 ∷ s
spaced false s = s

-- a text, where it is not empty
abbrev pub said_text : List ℕ → List Asked
said_text [] = []
said_text (b ∷ bs) = says (b ∷ bs) ∷ []

-- with atoms as texts and without empty texts, where an atom did or did not come before
abbrev pub in_texts : Bool → List Asked → List Asked
in_texts behind_atom [] = []
in_texts behind_atom (starts name ∷ rest) = starts name ∷ in_texts false rest
in_texts behind_atom (ends ∷ rest) = ends ∷ in_texts false rest
in_texts behind_atom (has a ∷ rest) = has a ∷ in_texts false rest
in_texts behind_atom (says s ∷ rest) = said_text s ++ in_texts false rest
in_texts behind_atom (prints s ∷ rest) = said_text (spaced behind_atom s) ++ in_texts true rest
in_texts behind_atom (instructs target content ∷ rest) = instructs target content ∷ in_texts false rest

-- ---- attributes

-- a part of a result: an element starts, with its attributes; the innermost open one ends; a text; a processing instruction
pub data Part : Type 0 where
  start : Name → List Attribute → Part
  end : Part
  text : List ℕ → Part
  instruction : List ℕ → List ℕ → Part

-- parts in order, and the error behind them, if there is one
pub record Parts : Type 0 where
  pub parts : List Part
  pub error : Option Code

-- a start that may still get attributes
pub record Held : Type 0 where
  pub name : Name
  pub attributes : List Attribute

-- An attribute more: it takes the place of an earlier one of the same namespace and local name, or goes behind all.
abbrev pub with_attribute : List Attribute → Attribute → List Attribute
with_attribute [] a = a ∷ []
with_attribute (b ∷ bs) a = if is_same_name b.name a.name then a ∷ bs else b ∷ with_attribute bs a

-- the part of a start that was held
abbrev pub held_part : Option Held → List Part
held_part None = []
held_part (Some h) = start h.name h.attributes ∷ []

-- parts in front of others
abbrev pub put_parts : List Part → Parts → Parts
put_parts ps p = record { parts = ps ++ p.parts; error = p.error }

-- the error of an attribute that stands behind anything else than its start, where so many elements are open
abbrev pub misplaced : ℕ → Code
misplaced zero = error.Xtde0420
misplaced (suc n) = error.Xtde0410

-- nothing follows an error
abbrev pub stopped_at : Code → Parts
stopped_at c = record { parts = []; error = Some c }

abbrev pub no_parts : Parts
no_parts = record { parts = []; error = None }

-- an end, where so many elements are open
abbrev pub end_part : ℕ → List Part
end_part zero = []
end_part (suc n) = end ∷ []

abbrev pub one_less : ℕ → ℕ
one_less zero = zero
one_less (suc n) = n

-- the parts of what is asked for, where so many elements are open and a start is or is not held
abbrev pub parts_from : ℕ → Option Held → List Asked → Parts
parts_from depth held [] = put_parts (held_part held) no_parts
parts_from depth held (starts name ∷ rest) = put_parts (held_part held) (parts_from (suc depth) (Some (record { name = name; attributes = [] })) rest)
parts_from depth held (ends ∷ rest) = put_parts (held_part held ++ end_part depth) (parts_from (one_less depth) None rest)
parts_from depth None (has a ∷ rest) = stopped_at (misplaced depth)
parts_from depth (Some h) (has a ∷ rest) = parts_from depth (Some (record { name = h.name; attributes = with_attribute h.attributes a })) rest
parts_from depth held (says s ∷ rest) = put_parts (held_part held ++ text s ∷ []) (parts_from depth None rest)
parts_from depth held (prints s ∷ rest) = put_parts (held_part held ++ text s ∷ []) (parts_from depth None rest)
parts_from depth held (instructs target content ∷ rest) = put_parts (held_part held ++ instruction target content ∷ []) (parts_from depth None rest)

-- The parts of what is asked for, up to the first attribute that stands behind anything else than its start (XTDE0410;
-- XTDE0420 where no element is open).
abbrev pub parts_of : List Asked → Parts
parts_of asked = parts_from 0 None (in_texts false asked)
