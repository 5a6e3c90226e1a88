-- What the parts of the code answer.
use Rattle.std.specs.Prelude.{◌≡◌, ℕ, Bool, true, false, if◌then◌else◌, List, [], ◌∷◌, ◌++◌, Result, Ok}
use Rattle.std.specs.Str.{chars, encode_utf8_all}
use Rattle.sx_atoms.specs.Lexical.{is_blank}
use Rattle.sx_atoms.specs.Numbers.{◌>>=◌}
use Rattle.sx_atoms.specs.declared.atoms.Atom.{Atom}
use Rattle.sx_atoms.specs.declared.error_codes.Code.{Code}
use Rattle.sx_fn_text.specs.Calls.{printed_atoms, concatenated}

-- a character behind others, and a space before it where it stands apart
abbrev pub extended : List ℕ → Bool → ℕ → List ℕ
extended cs apart c = if apart then cs ++ 32 ∷ c ∷ [] else cs ++ c ∷ []

-- the words so far after one more character of a text
abbrev pub next_text : List ℕ → Bool → ℕ → List ℕ
next_text cs apart c = if is_blank c then cs else extended cs apart c

-- whether there is a word so far
abbrev pub is_begun : List ℕ → Bool
is_begun [] = false
is_begun (c ∷ cs) = true

-- whether white space stands behind the words so far after one more character
abbrev pub next_apart : List ℕ → ℕ → Bool
next_apart cs c = if is_blank c then is_begun cs else false

-- the second bytes are the first ones and what is printed_atoms of an argument
abbrev pub IsPrinted : List Atom → List ℕ → List ℕ → Type 0
IsPrinted atoms before after =
    (bytes : List ℕ) × (printed_atoms atoms ≡ Ok bytes) × (after ≡ before ++ encode_utf8_all (chars bytes))

-- the bytes of what is printed_atoms of arguments
abbrev pub bytes_concatenated : List (List Atom) → Result (List ℕ) Code
bytes_concatenated args = do
  s ← concatenated args
  Ok (encode_utf8_all s)
