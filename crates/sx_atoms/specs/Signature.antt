-- How many arguments a function takes.
use Rattle.std.specs.Prelude.{ℕ, Bool, ◌&&◌, nat_le}
use Rattle.sx_atoms.specs.declared.signature.Signature.{Signature}

-- whether a function takes this many arguments (XPath 3.1, 3.1.5)
abbrev pub allows : Signature → ℕ → Bool
allows s count = nat_le s.least count && nat_le count s.most
