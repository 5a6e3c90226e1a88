-- The least and the greatest of numbers and of texts (XPath functions and operators 3.1, 14.4.3 and 14.4.4).
use Rattle.std.specs.Prelude.{Bool, true, false, if◌then◌else◌, List, [], ◌∷◌, Result, Ok, Err}
use Rattle.std.specs.List.{list_any}
use Rattle.sx_atoms.specs.Arithmetic.{dec}
use Rattle.sx_atoms.specs.Lexical.{decimal_in}
use Rattle.sx_atoms.specs.Numbers.{◌>>=◌}
use Rattle.sx_atoms.specs.declared.atoms.Atom.{Atom}
use Rattle.sx_atoms.specs.declared.atoms.Atom.TheVariants as atom
use Rattle.sx_atoms.specs.declared.comparison.CmpOp.{CmpOp}
use Rattle.sx_atoms.specs.declared.error_codes.Code.{Code}
use Rattle.sx_atoms.specs.declared.error_codes.Code.TheVariants as code
use Rattle.sx_fn_seq.specs.Order.{stands}

-- whether an atom is a string
abbrev pub is_text_atom : Atom → Bool
is_text_atom (atom.Int n) = false
is_text_atom (atom.Dec d) = false
is_text_atom (atom.Str s) = true
is_text_atom (atom.Bool b) = false
is_text_atom (atom.Untyped s) = false

-- an item as it is compared among texts or among numbers: what has no type is read as a decimal, and an item of another
-- kind is an error (14.4.3)
abbrev pub compared_among : Bool → Atom → Result Atom Code
compared_among texts (atom.Int n) = if texts then Err code.Forg0006 else Ok (atom.Int n)
compared_among texts (atom.Dec d) = if texts then Err code.Forg0006 else Ok (atom.Dec d)
compared_among texts (atom.Str s) = if texts then Ok (atom.Str s) else Err code.Forg0006
compared_among texts (atom.Bool b) = Err code.Forg0006
compared_among texts (atom.Untyped s) = do
  z ← decimal_in s
  if texts then Err code.Forg0006 else Ok (atom.Dec (dec z))

-- these items as they are compared, or the code of the first that is none of the kind (14.4.3)
abbrev pub all_compared : Bool → List Atom → Result (List Atom) Code
all_compared texts [] = Ok []
all_compared texts (item ∷ rest) = do
  x ← compared_among texts item
  xs ← all_compared texts rest
  Ok (x ∷ xs)

-- the first of some items than which none of all is less, or greater (14.4.3, 14.4.4)
abbrev pub first_unbeaten : CmpOp → List Atom → List Atom → List Atom
first_unbeaten operator all [] = []
first_unbeaten operator all (x ∷ rest) =
    if list_any (λ y. stands operator y x) all then first_unbeaten operator all rest else x ∷ []

-- the least item by `lt`, and the greatest by `gt`: among texts where the first item is one, and else among numbers
-- (14.4.3, 14.4.4)
abbrev pub extreme_of : CmpOp → List Atom → Result (List Atom) Code
extreme_of operator [] = Ok []
extreme_of operator (item ∷ rest) = do
  xs ← all_compared (is_text_atom item) (item ∷ rest)
  Ok (first_unbeaten operator xs xs)
