-- The built events of a result, from what was asked for in turn.
use Rattle.std.specs.Prelude.{ℕ, Bool, true, false, ◌&&◌, codes, List, [], ◌∷◌, ◌++◌, Option, is_none, if◌then◌else◌}
use Rattle.sx_atoms.specs.declared.error_codes.Code.{Code}
use Rattle.sx_chars.specs.Names.{prefixed}
use Rattle.sx_lines.specs.declared.events.Pair.{Pair}
use Rattle.sx_lines.specs.declared.events.Built.{Built}
use Rattle.sx_lines.specs.declared.events.Built.TheVariants as event
use Rattle.sx_named.specs.Named.{Name, Attribute}
use Rattle.sx_build.specs.Asked.{Asked}
use Rattle.sx_build.specs.Content.{Part, start, end, text, instruction, parts_of}
use Rattle.sx_build.specs.FixUp.{Binding, Fixed, fix_up, first_bound}

-- a name as it is printed
abbrev pub printed_name : Name → List ℕ
printed_name name = prefixed name.prefix name.local

-- the attribute that declares a namespace
abbrev pub declaration_name : List ℕ → List ℕ
declaration_name [] = codes "xmlns"
declaration_name (b ∷ bs) = prefixed (codes "xmlns") (b ∷ bs)

abbrev pub declaration_pairs : List Binding → List Pair
declaration_pairs [] = []
declaration_pairs (b ∷ bs) = record { name = declaration_name b.prefix; value = b.uri } ∷ declaration_pairs bs

abbrev pub attribute_pairs : List Attribute → List Pair
attribute_pairs [] = []
attribute_pairs (a ∷ rest) = record { name = printed_name a.name; value = a.value } ∷ attribute_pairs rest

-- a start as it is printed: what it declares, then its attributes
abbrev pub printed_start : Name → Fixed → Built
printed_start name f = event.Start (printed_name name) (declaration_pairs f.declared ++ attribute_pairs f.attributes)

-- an open element of a result: its printed name, and the bindings in force in it, the innermost first
pub record Open : Type 0 where
  pub name : List ℕ
  pub bound : List Binding

-- the bindings in force in the innermost of these elements
abbrev pub bindings_in : List Open → List Binding
bindings_in [] = first_bound
bindings_in (o ∷ os) = o.bound

-- the open element that starts where these are open
abbrev pub element_opened : List Open → Name → Fixed → Open
element_opened os name f = record { name = printed_name name; bound = f.declared ++ bindings_in os }

-- parts as they are built where these elements are open, the innermost first
abbrev pub built_in : List Open → List Part → List Built
built_in os [] = []
built_in os (start name attributes ∷ ps) =
    let f = fix_up (bindings_in os) name attributes in
    printed_start name f ∷ built_in (element_opened os name f ∷ os) ps
built_in [] (end ∷ ps) = built_in [] ps
built_in (o ∷ os) (end ∷ ps) = event.End o.name ∷ built_in os ps
built_in os (text s ∷ ps) = event.Text s ∷ built_in os ps
built_in os (instruction target content ∷ ps) = event.Pi target content ∷ built_in os ps

-- the built events of what is asked for, with a start at the end of it
abbrev pub built : List Asked → List Built
built asked = built_in [] (parts_of asked).parts

-- the error of what is asked for: that of the first attribute that is not behind its start
abbrev pub error_of : List Asked → Option Code
error_of asked = (parts_of asked).error

-- a start, and nothing else
abbrev pub is_start : Built → Bool
is_start (event.Start name pairs) = true
is_start (event.End name) = false
is_start (event.Text s) = false
is_start (event.Pi target content) = false

-- the events without a start that is the last
abbrev pub without_last_start : List Built → List Built
without_last_start [] = []
without_last_start (e ∷ []) = if is_start e then [] else e ∷ []
without_last_start (e ∷ next ∷ es) = e ∷ without_last_start (next ∷ es)

-- The built events that are fixed: a start at the end of what has come is withheld, since attributes may follow it, until
-- the content is at its end without an error.
abbrev pub Build : List Asked → Bool → List Built
Build asked at_end = if at_end && is_none (error_of asked) then built asked else without_last_start (built asked)
