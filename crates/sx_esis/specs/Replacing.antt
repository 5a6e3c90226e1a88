-- How escapes are replaced where they stand.
use Rattle.std.specs.Prelude.{◌≡◌, ◌≢◌, ℕ, ◌+◌, ◌<◌, ◌≤◌, List, [], length, take, drop, slice_index, Some, Result}
use Rattle.std.specs.Char.{encode_utf8, len_utf8}
use Rattle.sx_esis.specs.Escapes.{put_before, unescape, unescape_from}
use Rattle.sx_esis.specs.declared.faults.LineWhich.{LineWhich}

-- what a text comes to whose front was written and whose rest is still to be read
abbrev pub comes_to : List ℕ → ℕ → ℕ → Result (List ℕ) LineWhich
comes_to bytes written read = put_before (take written bytes) (unescape (drop read bytes))

-- The front that was written ends no later than what is to be read begins, and there an escape stands, or nothing.
pub record IsPartlyReplaced (bytes : List ℕ) (written read : ℕ) : Type 0 where
  pub order : written ≤ read
  pub within : read ≤ length bytes
  pub mark : read < length bytes → slice_index bytes read ≡ 92

-- Behind a backslash the bytes begin with so many that stand for this character, which has no more bytes than the escape.
pub record ReadsCharacter (bytes : List ℕ) (character count : ℕ) : Type 0 where
  pub within : count ≤ length bytes
  pub short : len_utf8 character ≤ count + 1
  pub stands : unescape_from (Some []) bytes ≡ put_before (encode_utf8 character) (unescape (drop count bytes))

-- Behind a backslash the bytes begin with another byte than those that stand for themselves or begin a number or system data.
pub record IsOther (bytes : List ℕ) : Type 0 where
  pub no_backslash : slice_index bytes 0 ≢ 92
  pub no_line_feed : slice_index bytes 0 ≢ 110
  pub no_number : slice_index bytes 0 ≢ 35
  pub no_system_data : slice_index bytes 0 ≢ 124
