-- How atoms are written (XPath functions and operators 3.1, 19.1).
use Rattle.std.specs.Prelude.{ℕ, zero, suc, ◌+◌, ◌/◌, ◌%◌, ◌^◌, ◌==◌, true, false, if◌then◌else◌, List, [], ◌∷◌, ◌++◌, ℤ, pos, negsuc, codes, decimal}
use Rattle.std.specs.Fmt.{signed_decimal}
use Rattle.sx_atoms.specs.declared.atoms.Atom.{Atom}
use Rattle.sx_atoms.specs.declared.atoms.Atom.TheVariants as atom

-- the digits of the last k places of a number, the highest first
unfoldable pub places : ℕ → ℕ → List ℕ
places zero n = []
places (suc k) n = (48 + n / 10 ^ k % 10) ∷ places k n

-- a digit before digits of which the last is not zero
abbrev pub onto : ℕ → List ℕ → List ℕ
onto c [] = if c == 48 then [] else c ∷ []
onto c (d ∷ ds) = c ∷ d ∷ ds

-- digits without the zeros at their end
abbrev pub without_zeros : List ℕ → List ℕ
without_zeros [] = []
without_zeros (c ∷ cs) = onto c (without_zeros cs)

-- units that are less than one, as they stand behind a point: nine places, without the zeros at their end
abbrev pub fraction_text : ℕ → List ℕ
fraction_text rest = without_zeros (places 9 rest)

-- a number of units: the whole of it, and a point and its fraction where there is one
abbrev pub units_text : ℕ → List ℕ
units_text n = decimal (n / 10 ^ 9) ++ (if n % 10 ^ 9 == 0 then [] else 46 ∷ fraction_text (n % 10 ^ 9))

-- the same with a minus before it where it is below zero
abbrev pub decimal_text : ℤ → List ℕ
decimal_text (pos n) = units_text n
decimal_text (negsuc n) = 45 ∷ units_text (suc n)

-- the text of an atom
abbrev pub text_of : Atom → List ℕ
text_of (atom.Int n) = signed_decimal n
text_of (atom.Dec d) = decimal_text d.0
text_of (atom.Str s) = s
text_of (atom.Bool true) = codes "true"
text_of (atom.Bool false) = codes "false"
text_of (atom.Untyped s) = s
