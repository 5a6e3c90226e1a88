-- Answers of one atom.
use Rattle.std.specs.Prelude.{List, [], ◌∷◌, Result, Ok}
use Rattle.sx_atoms.specs.Numbers.{◌>>=◌}
use Rattle.sx_atoms.specs.declared.atoms.Atom.{Atom}
use Rattle.sx_atoms.specs.declared.error_codes.Code.{Code}

-- an answer that is one atom or a code, as the answer of a call (XPath 3.1, 3.1.5)
abbrev pub answered : Result Atom Code → Result (List Atom) Code
answered answer = do
  a ← answer
  Ok (a ∷ [])
