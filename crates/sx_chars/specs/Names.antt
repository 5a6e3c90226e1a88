-- Names as XML writes them (Namespaces in XML 1.0, 3 and 4), and white space (XML 1.0, 2.3).
use Rattle.std.specs.Prelude.{ℕ, Bool, false, ◌&&◌, ◌||◌, ◌==◌, nat_le, List, [], ◌∷◌, ◌++◌, Option, Some, None, if◌then◌else◌}
use Rattle.std.specs.List.{list_all}
use Rattle.std.specs.Str.{chars}

-- whether a character is in one of these ranges, each with its first and its last character
abbrev pub is_in : List (ℕ × ℕ) → ℕ → Bool
is_in [] c = false
is_in (range ∷ ranges) c = (nat_le range.0 c && nat_le c range.1) || is_in ranges c

-- the characters that begin a name: letters, `_`, and most others beyond ASCII
abbrev pub first_characters : List (ℕ × ℕ)
first_characters =
    (65, 90) ∷ (95, 95) ∷ (97, 122) ∷ (192, 214) ∷ (216, 246) ∷ (248, 767) ∷ (880, 893) ∷ (895, 8191) ∷ (8204, 8205) ∷ (8304, 8591)
    ∷ (11264, 12271) ∷ (12289, 55295) ∷ (63744, 64975) ∷ (65008, 65533) ∷ (65536, 983039) ∷ []

-- the characters that go on a name besides: `-`, `.`, digits, the middle dot, combining characters, two ties
abbrev pub further_characters : List (ℕ × ℕ)
further_characters = (45, 46) ∷ (48, 57) ∷ (183, 183) ∷ (768, 879) ∷ (8255, 8256) ∷ []

-- a character that begins a name
abbrev pub is_first : ℕ → Bool
is_first c = is_in first_characters c

-- a character that goes on a name
abbrev pub is_further : ℕ → Bool
is_further c = is_first c || is_in further_characters c

-- characters that are a name without a colon
abbrev pub are_name : List ℕ → Bool
are_name [] = false
are_name (c ∷ cs) = is_first c && list_all is_further cs

-- an NCName: bytes whose characters are a name without a colon
abbrev pub is_ncname : List ℕ → Bool
is_ncname s = are_name (chars s)

-- the bytes in front of the first such byte, or all where there is none
abbrev pub before : ℕ → List ℕ → List ℕ
before mark [] = []
before mark (b ∷ bs) = if b == mark then [] else b ∷ before mark bs

-- the bytes behind the first such byte, if there is one
abbrev pub behind : ℕ → List ℕ → Option (List ℕ)
behind mark [] = None
behind mark (b ∷ bs) = if b == mark then Some bs else behind mark bs

-- a name whose part behind the first colon is this, if there is a colon
abbrev pub is_qname_with : List ℕ → Option (List ℕ) → Bool
is_qname_with s None = is_ncname s
is_qname_with s (Some local) = is_ncname (before 58 s) && is_ncname local

-- a QName: an NCName, or two joined by a colon
abbrev pub is_qname : List ℕ → Bool
is_qname s = is_qname_with s (behind 58 s)

abbrev pub prefix_with : List ℕ → Option (List ℕ) → List ℕ
prefix_with s None = []
prefix_with s (Some local) = before 58 s

-- the prefix of a QName, which is empty where it has no colon
abbrev pub prefix_of : List ℕ → List ℕ
prefix_of s = prefix_with s (behind 58 s)

abbrev pub local_with : List ℕ → Option (List ℕ) → List ℕ
local_with s None = s
local_with s (Some local) = local

-- the local part of a QName
abbrev pub local_of : List ℕ → List ℕ
local_of s = local_with s (behind 58 s)

-- a local name behind its prefix and a colon, where it has a prefix
abbrev pub prefixed : List ℕ → List ℕ → List ℕ
prefixed [] local = local
prefixed (b ∷ bs) local = (b ∷ bs) ++ 58 ∷ local

-- white space: a space, a tabulator, a line feed, a carriage return
abbrev pub is_white_space : ℕ → Bool
is_white_space c = c == 32 || c == 9 || c == 10 || c == 13

-- the bytes from the first that is no white space on
abbrev pub without_leading_space : List ℕ → List ℕ
without_leading_space [] = []
without_leading_space (b ∷ bs) = if is_white_space b then without_leading_space bs else b ∷ bs

-- the bytes in front of the first white space
abbrev pub before_space : List ℕ → List ℕ
before_space [] = []
before_space (b ∷ bs) = if is_white_space b then [] else b ∷ before_space bs

-- the bytes from the first white space on
abbrev pub from_space : List ℕ → List ℕ
from_space [] = []
from_space (b ∷ bs) = if is_white_space b then b ∷ bs else from_space bs
