-- The bytes that one call moves.
use Rattle.std.specs.Prelude.{◌≡◌, ◌≤◌, ℕ, ◌-◌, min, max, List, take, drop, length}

-- the next n bytes are in the front of the buffer, and none come only where all were taken
pub record IsPiece (bytes : List ℕ) (taken : ℕ) (buf : List ℕ) (n : ℕ) : Type 0 where
  pub within : n ≤ length (drop taken bytes)
  pub copied : take n buf ≡ take n (drop taken bytes)
  pub end : n ≡ 0 → length bytes ≤ taken

-- the least of what there is, what there is room for, and the most that one call moves, of which a 0 is read as 1
abbrev pub least_of : ℕ → ℕ → ℕ → ℕ
least_of most room there = min (min there room) (max most 1)

-- a read moved the most that it may: the next n bytes are in the front of the buffer
pub record MovesMost (bytes : List ℕ) (taken most : ℕ) (buf : List ℕ) (n : ℕ) : Type 0 where
  pub count : n ≡ least_of most (length buf) (length bytes - taken)
  pub copied : take n buf ≡ take n (drop taken bytes)
