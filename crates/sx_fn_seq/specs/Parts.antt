-- Parts and sizes of sequences (XPath functions and operators 3.1, 14.1 and 14.3), and constructor functions (18.1).
use Rattle.std.specs.Prelude.{Bool, ◌==◌, nat_le, if◌then◌else◌, List, [], ◌∷◌, length, Option, Result, Ok, Err}
use Rattle.sx_atoms.specs.Positions.{selects, span_of, at_positions}
use Rattle.sx_atoms.specs.Casting.{cast_of}
use Rattle.sx_atoms.specs.Numbers.{◌>>=◌}
use Rattle.sx_atoms.specs.declared.atoms.Atom.{Atom}
use Rattle.sx_atoms.specs.declared.atoms.AtomType.{AtomType}
use Rattle.sx_atoms.specs.declared.error_codes.Code.{Code}
use Rattle.sx_atoms.specs.declared.error_codes.Code.TheVariants as code

-- the first item, where there is one (14.1.3)
abbrev pub head_of : {X : Type 0} → List X → List X
head_of [] = []
head_of (x ∷ rest) = x ∷ []

-- the items behind the first one (14.1.4)
abbrev pub tail_of : {X : Type 0} → List X → List X
tail_of [] = []
tail_of (x ∷ rest) = rest

-- the items at the positions that numbers select (14.1.8)
abbrev pub subsequence_of : {X : Type 0} → List X → List Atom → Option (List Atom) → Result (List X) Code
subsequence_of items start count = do
  span ← span_of start count
  Ok (at_positions (selects span) 1 items)

-- some items where there are as many as is allowed, and else an error
abbrev pub allowed : {X : Type 0} → Bool → Code → List X → Result (List X) Code
allowed holds e items = if holds then Ok items else Err e

-- at most one item (14.3.1), at least one (14.3.2), and exactly one (14.3.3)
abbrev pub zero_or_one : {X : Type 0} → List X → Result (List X) Code
zero_or_one items = allowed (nat_le (length items) 1) code.Forg0003 items

abbrev pub one_or_more : {X : Type 0} → List X → Result (List X) Code
one_or_more items = allowed (nat_le 1 (length items)) code.Forg0004 items

abbrev pub exactly_one : {X : Type 0} → List X → Result (List X) Code
exactly_one items = allowed (length items == 1) code.Forg0005 items

-- a cast of the one atom, where there is one (18.1)
abbrev pub cast_argument : AtomType → List Atom → Result (List Atom) Code
cast_argument type [] = Ok []
cast_argument type (a ∷ []) = do
  b ← cast_of a type
  Ok (b ∷ [])
cast_argument type (a ∷ b ∷ more) = Err code.Xpty0004
