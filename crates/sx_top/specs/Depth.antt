-- How deep elements stand in one another.
use Rattle.std.specs.Prelude.{ℕ, zero, suc}
use Rattle.sx_tree.specs.Tree.{Forest, none, text, instruction, element}

-- at most so many elements stand in one another
abbrev pub NestsIn : {E : Type 0} → Forest E → ℕ → Type 0
NestsIn none n = Unit {0}
NestsIn (text s rest) n = NestsIn rest n
NestsIn (instruction target content rest) n = NestsIn rest n
NestsIn (element e is_open kids rest) zero = ⊥
NestsIn (element e is_open kids rest) (suc n) = NestsIn kids n × NestsIn rest (suc n)
