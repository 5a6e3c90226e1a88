-- The values that texts write, by the lexical forms of their types (XML Schema 1.1 part 2, 3.3).
use Rattle.std.specs.Prelude.{ℕ, ◌+◌, ◌-◌, ◌*◌, ◌^◌, Bool, ◌&&◌, ◌||◌, ◌==◌, if◌then◌else◌, nat_le, nat_lt, List, [], ◌∷◌, ◌++◌, length, take, drop, Result, Ok, Err, ℤ, pos, neg_ℤ, true, false, codes}
use Rattle.std.specs.Str.{bytes_eq}
use Rattle.std.specs.Char.{is_ascii_digit}
use Rattle.std.specs.List.{list_all, prefix_len, suffix_len, before_first, after_first}
use Rattle.std.specs.Str.Parse.{starts_with_minus, without_leading_sign}
use Rattle.sx_atoms.specs.Numbers.{held_in_range}
use Rattle.sx_atoms.specs.declared.error_codes.Code.{Code}
use Rattle.sx_atoms.specs.declared.error_codes.Code.TheVariants as code

-- white space: a space, a tab, a newline, a carriage return
abbrev pub is_blank : ℕ → Bool
is_blank c = c == 32 || c == 9 || c == 10 || c == 13

-- a text without the white space at its ends
abbrev pub trimmed : List ℕ → List ℕ
trimmed text = let front = drop (prefix_len is_blank text) text in
    take (length front - suffix_len is_blank front) front

-- the number that digits write: each counts by its place
abbrev pub digits_value : List ℕ → ℕ
digits_value [] = 0
digits_value (c ∷ cs) = (c - 48) * 10 ^ length cs + digits_value cs

-- one digit or more, and nothing else
abbrev pub are_digits : List ℕ → Bool
are_digits bytes = list_all is_ascii_digit bytes && nat_lt 0 (length bytes)

-- a number, with a minus before it or without one
abbrev pub with_sign : Bool → ℕ → ℤ
with_sign minus n = if minus then neg_ℤ (pos n) else pos n

-- the integer that these digits write
abbrev pub integer_of : Bool → List ℕ → Result ℤ Code
integer_of minus digits =
    if are_digits digits then held_in_range (with_sign minus (digits_value digits)) else Err code.Forg0001

-- the integer that a text writes: digits, behind one sign or none, and white space round it
abbrev pub integer_in : List ℕ → Result ℤ Code
integer_in text = let numeral = trimmed text in
    integer_of (starts_with_minus numeral) (without_leading_sign numeral)

abbrev pub is_point : ℕ → Bool
is_point c = c == 46

-- how many units of 10^-9 digits before a point and behind it write, where these are no more than 9
abbrev pub units_value : List ℕ → List ℕ → ℕ
units_value whole fraction = digits_value whole * 10 ^ 9 + digits_value fraction * 10 ^ (9 - length fraction)

-- the decimal that these digits write, in units; a zero at the end counts as a digit
abbrev pub units_of : Bool → List ℕ → List ℕ → Result ℤ Code
units_of minus whole fraction =
    if are_digits (whole ++ fraction)
    then (if nat_le (length fraction) 9 then held_in_range (with_sign minus (units_value whole fraction))
    else Err code.Foca0006)
    else Err code.Forg0001

-- the decimal that a text writes, in units: as an integer, but with a point before, between or behind the digits or none
abbrev pub decimal_in : List ℕ → Result ℤ Code
decimal_in text = let numeral = trimmed text in let digits = without_leading_sign numeral in
    units_of (starts_with_minus numeral) (before_first is_point digits) (after_first is_point digits)

-- the truth value that a text writes, as a word or a digit, and white space round it
abbrev pub truth_of : List ℕ → Result Bool Code
truth_of word =
    if bytes_eq word (codes "true") || bytes_eq word (codes "1") then Ok true
    else (if bytes_eq word (codes "false") || bytes_eq word (codes "0") then Ok false else Err code.Forg0001)

abbrev pub truth_in : List ℕ → Result Bool Code
truth_in text = truth_of (trimmed text)
