-- Escapes in texts, processing instructions and values of attributes.
use Rattle.std.specs.Prelude.{ℕ, ◌+◌, ◌-◌, ◌*◌, Bool, ◌&&◌, ◌||◌, ◌==◌, nat_le, nat_lt, List, [], ◌∷◌, ◌++◌, Option, Some, None, Result, Ok, Err, if◌then◌else◌}
use Rattle.std.specs.List.{list_all}
use Rattle.std.specs.Char.{encode_utf8}
use Rattle.sx_esis.specs.declared.faults.LineWhich.{LineWhich}
use Rattle.sx_esis.specs.declared.faults.LineWhich.TheVariants as which

-- What the bytes behind a backslash come to: an escape that stands for these bytes; the beginning of one; or a fault.
pub data Escape : Type 0 where
  stands_for : List ℕ → Escape
  begins : Escape
  is_fault : LineWhich → Escape

-- a digit of base 8
abbrev pub is_octal_digit : ℕ → Bool
is_octal_digit d = nat_le 48 d && nat_le d 55

-- a digit of base 10
abbrev pub is_decimal_digit : ℕ → Bool
is_decimal_digit d = nat_le 48 d && nat_le d 57

-- the number that digits of a base write behind a number
abbrev pub number_behind : ℕ → ℕ → List ℕ → ℕ
number_behind base n [] = n
number_behind base n (d ∷ ds) = number_behind base (n * base + (d - 48)) ds

-- the number that digits of a base write
abbrev pub number : ℕ → List ℕ → ℕ
number base ds = number_behind base 0 ds

-- whether a number is that of a character: a Unicode scalar value, other than 0
abbrev pub is_character : ℕ → Bool
is_character n = (nat_lt 0 n && nat_lt n 55296) || (nat_lt 57343 n && nat_lt n 1114112)

-- a character by its number
abbrev pub character : ℕ → Escape
character n = if is_character n then stands_for (encode_utf8 n) else is_fault which.BadEscape

-- octal_escape digits: three of them are a character from 1 to 255
abbrev pub octal_escape : List ℕ → Escape
octal_escape (a ∷ b ∷ c ∷ []) = if nat_lt (number 8 (a ∷ b ∷ c ∷ [])) 256 then character (number 8 (a ∷ b ∷ c ∷ [])) else is_fault which.BadEscape
octal_escape ds = begins

-- decimal digits up to a semicolon, where some stand before this
abbrev pub decimal : List ℕ → List ℕ → Escape
decimal before [] = begins
decimal [] (d ∷ ds) = if is_decimal_digit d then decimal (d ∷ []) ds else is_fault which.BadEscape
decimal (b ∷ bs) (d ∷ ds) =
    if is_decimal_digit d then decimal (b ∷ bs ++ d ∷ []) ds
    else if d == 59 then character (number 10 (b ∷ bs))
    else is_fault which.BadEscape

-- what an escape comes to by its first byte behind the backslash: a backslash, `n` for a line feed, `#` before a decimal
-- number, `|` for system data, an octal_escape digit
abbrev pub escape_with : ℕ → List ℕ → Escape
escape_with first ds =
    if first == 92 then stands_for (92 ∷ [])
    else if first == 110 then stands_for (10 ∷ [])
    else if first == 35 then decimal [] ds
    else if first == 124 then is_fault which.Sdata
    else if list_all is_octal_digit (first ∷ ds) then octal_escape (first ∷ ds)
    else is_fault which.BadEscape

-- what the bytes behind a backslash come to
abbrev pub escape_of : List ℕ → Escape
escape_of [] = begins
escape_of (first ∷ ds) = escape_with first ds

-- bytes in front of a text
abbrev pub put_before : List ℕ → Result (List ℕ) LineWhich → Result (List ℕ) LineWhich
put_before s (Ok t) = Ok (s ++ t)
put_before s (Err w) = Err w

-- what follows an escape, or one that has begun, where the text behind it and the text that goes on in it come to these
abbrev pub go_on : Escape → Result (List ℕ) LineWhich → Result (List ℕ) LineWhich → Result (List ℕ) LineWhich
go_on (stands_for s) behind inside = put_before s behind
go_on begins behind inside = inside
go_on (is_fault w) behind inside = Err w

-- a text where an escape has begun with these bytes, or where none has; one that is not complete at the end is a fault
abbrev pub unescape_from : Option (List ℕ) → List ℕ → Result (List ℕ) LineWhich
unescape_from None [] = Ok []
unescape_from (Some escape) [] = Err which.BadEscape
unescape_from None (b ∷ bs) = if b == 92 then unescape_from (Some []) bs else put_before (b ∷ []) (unescape_from None bs)
unescape_from (Some escape) (b ∷ bs) = go_on (escape_of (escape ++ b ∷ [])) (unescape_from None bs) (unescape_from (Some (escape ++ b ∷ [])) bs)

-- a text without its escapes, or the first that is at fault
abbrev pub unescape : List ℕ → Result (List ℕ) LineWhich
unescape s = unescape_from None s
