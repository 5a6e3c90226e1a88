-- The words of the laws.
use Rattle.std.specs.Prelude.{ℕ, List, [], ◌∷◌, pos}
use Rattle.sx_atoms.specs.declared.atoms.Atom.{Atom}
use Rattle.sx_atoms.specs.declared.atoms.Atom.TheVariants as atom

-- an argument or an answer that is one text, by its bytes
abbrev pub text : List ℕ → List Atom
text s = atom.Str s ∷ []

-- an argument or an answer that is one integer
abbrev pub integer : ℕ → List Atom
integer n = atom.Int (pos n) ∷ []
