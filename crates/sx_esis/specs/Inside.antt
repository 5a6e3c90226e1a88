-- Where a line ends in bytes.
use Rattle.std.specs.Prelude.{◌≡◌, ℕ, ◌<◌, Bool, true, not, ◌==◌, List, ◌∷◌, ◌++◌, length}
use Rattle.std.specs.List.{list_all}

-- a byte that ends no line
abbrev pub is_inside : ℕ → Bool
is_inside c = not (c == 10)

-- The bytes begin with a line of so many bytes and its newline.
pub record IsFirstLine (bytes : List ℕ) (n : ℕ) : Type 0 where
  pub within : n < length bytes
  pub line : List ℕ
  pub rest : List ℕ
  pub inside : list_all is_inside line ≡ true
  pub count : length line ≡ n
  pub split : bytes ≡ line ++ 10 ∷ rest
