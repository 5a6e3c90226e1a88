-- The lines of a document's bytes.
use Rattle.std.specs.Prelude.{ℕ, ◌+◌, Bool, true, false, not, ◌&&◌, ◌||◌, ◌==◌, nat_lt, bytes_eq, codes, List, [], ◌∷◌, length, Option, Some, None, Result, Ok, Err, option_map, if◌then◌else◌}
use Rattle.std.specs.List.{list_all}
use Rattle.std.specs.Str.{is_utf8}
use Rattle.sx_chars.specs.Names.{is_qname, is_ncname, before, behind, before_space}
use Rattle.sx_esis.specs.Escapes.{unescape}
use Rattle.sx_esis.specs.declared.faults.LineWhich.{LineWhich}
use Rattle.sx_esis.specs.declared.faults.LineWhich.TheVariants as which

-- the complete lines, each without the newline that ends it, and what has come of the next one
pub record Cut : Type 0 where
  pub lines : List (List ℕ)
  pub rest : List ℕ

-- a byte put in front of the first line, or of the rest where there is none
abbrev pub put_front : ℕ → List (List ℕ) → List ℕ → Cut
put_front x [] rest = record { lines = []; rest = x ∷ rest }
put_front x (line ∷ lines) rest = record { lines = (x ∷ line) ∷ lines; rest = rest }

abbrev pub cut : List ℕ → Cut
cut [] = record { lines = []; rest = [] }
cut (x ∷ xs) = if x == 10 then record { lines = [] ∷ (cut xs).lines; rest = (cut xs).rest } else put_front x (cut xs).lines (cut xs).rest

-- What a line says: an element of this name starts or ends; the element that starts next has an attribute of this name
-- and value, or has none of this name; a text; a processing instruction, with its target in front; nothing that counts;
-- or that the document conformed. Names, texts and values are UTF-8, and without their escapes.
pub data Line : Type 0 where
  starts : List ℕ → Line
  ends : List ℕ → Line
  has : List ℕ → List ℕ → Line
  lacks : List ℕ → Line
  says : List ℕ → Line
  instructs : List ℕ → Line
  skips : Line
  conforms : Line

-- whether a byte is one of these
abbrev pub is_one_of : List ℕ → ℕ → Bool
is_one_of [] b = false
is_one_of (c ∷ cs) b = b == c || is_one_of cs b

-- the first characters of lines that are skipped and not looked into
abbrev pub is_skipped : ℕ → Bool
is_skipped b = is_one_of (codes "L#spfNEISTie_") b

-- the first characters of lines for what is not supported: entities, subdocuments, data and link attributes
abbrev pub is_unsupported : ℕ → Bool
is_unsupported b = is_one_of (codes "&{}Da") b

-- bytes are text: UTF-8 without a zero
abbrev pub is_text_line : List ℕ → Bool
is_text_line line = is_utf8 line && list_all (λ b. not (b == 0)) line

-- these bytes, or none
abbrev pub or_empty : Option (List ℕ) → List ℕ
or_empty None = []
or_empty (Some s) = s

-- a line that says something of a text, where its escapes can be read
abbrev pub with_text : (List ℕ → Line) → Result (List ℕ) LineWhich → Result Line LineWhich
with_text says_of (Ok s) = Ok (says_of s)
with_text says_of (Err w) = Err w

-- a line where something holds of it
abbrev pub where_so : Bool → Line → Result Line LineWhich
where_so true line = Ok line
where_so false line = Err which.BadCommand

-- whether this is the type of an attribute that has a value
abbrev pub is_type : List ℕ → Bool
is_type s = bytes_eq s (codes "CDATA") || bytes_eq s (codes "TOKEN") || bytes_eq s (codes "NOTATION") || bytes_eq s (codes "ENTITY") || bytes_eq s (codes "ID")

-- an attribute with what stands behind its name and a space, if it is there: the word IMPLIED; or a type, and behind a
-- space the value, which is empty where it is missing
abbrev pub attribute_with : List ℕ → Option (List ℕ) → Result Line LineWhich
attribute_with name None = Err which.BadAttr
attribute_with name (Some s) =
    if bytes_eq s (codes "IMPLIED") then Ok (lacks name)
    else if is_type (before 32 s) then with_text (has name) (unescape (or_empty (behind 32 s)))
    else Err which.BadAttr

-- what a line says behind an `A`: a name, a space and the rest
abbrev pub attribute : List ℕ → Result Line LineWhich
attribute s = if is_qname (before 32 s) then attribute_with (before 32 s) (behind 32 s) else Err which.BadCommand

-- what a line says that has this first character and these behind it
abbrev pub command : ℕ → List ℕ → Result Line LineWhich
command first s =
    if first == 40 then where_so (is_qname s) (starts s)
    else if first == 41 then where_so (is_qname s) (ends s)
    else if first == 45 then with_text says (unescape s)
    else if first == 63 then (if is_ncname (before_space s) then with_text instructs (unescape s) else Err which.BadCommand)
    else if first == 65 then attribute s
    else where_so ((first == 67) && (length s == 0)) conforms

-- What a line says, or its first fault: that it is not text stands before that it is not supported, this before what is
-- wrong with the command, this before the attribute's type, and this before escapes, from left to right.
abbrev pub line_of : List ℕ → Result Line LineWhich
line_of [] = Err which.BadCommand
line_of (first ∷ s) =
    if is_skipped first then Ok skips
    else if not (is_text_line (first ∷ s)) then Err which.NotUtf8
    else if is_unsupported first then Err which.Unsupported
    else command first s

-- the same for a line of at most so many bytes; a longer one is at fault
abbrev pub line_within : ℕ → List ℕ → Result Line LineWhich
line_within limit line = if nat_lt limit (length line) then Err which.Line else line_of line

-- what is at fault, and the number of the line, counted from 1
pub record Fault : Type 0 where
  pub which : LineWhich
  pub line : ℕ

-- the lines in front of the first one that is at fault, and the fault
pub record Reading : Type 0 where
  pub lines : List Line
  pub fault : Option Fault

abbrev pub nothing_more : Reading
nothing_more = record { lines = []; fault = None }

-- the first line is at fault
abbrev pub fault_here : LineWhich → Reading
fault_here w = record { lines = []; fault = Some (record { which = w; line = 1 }) }

-- the fault of the line behind
abbrev pub one_later : Fault → Fault
one_later f = record { which = f.which; line = f.line + 1 }

-- a line in front of what is read behind it; behind a fault nothing counts
abbrev pub in_front : Result Line LineWhich → Reading → Reading
in_front (Err w) r = fault_here w
in_front (Ok line) r = record { lines = line ∷ r.lines; fault = option_map one_later r.fault }

-- these lines, and then what the rest gives
abbrev pub reading_of : ℕ → List (List ℕ) → Reading → Reading
reading_of limit [] last = last
reading_of limit (line ∷ lines) last = in_front (line_within limit line) (reading_of limit lines last)

-- a rest that is not empty is a line where the input has ended
abbrev pub last_line : ℕ → List ℕ → Reading
last_line limit [] = nothing_more
last_line limit (x ∷ xs) = in_front (line_within limit (x ∷ xs)) nothing_more

-- a rest is at fault as soon as it is too long
abbrev pub rest_reading : ℕ → List ℕ → Bool → Reading
rest_reading limit rest ended = if nat_lt limit (length rest) then fault_here which.Line else if ended then last_line limit rest else nothing_more

-- The lines of the bytes, each of at most so many bytes, where the input has ended or may go on.
abbrev pub lines_of : ℕ → List ℕ → Bool → Reading
lines_of limit b ended = reading_of limit (cut b).lines (rest_reading limit (cut b).rest ended)
