-- How built events are printed, as lines of ESIS.
use Rattle.std.specs.Prelude.{◌≡◌, ℕ, ◌+◌, ◌/◌, ◌%◌, Bool, true, false, ◌||◌, List, [], ◌∷◌, ◌++◌, if◌then◌else◌, nat_eq, nat_lt}
use Rattle.sx_lines.specs.declared.events.Pair.{Pair}
use Rattle.sx_lines.specs.declared.events.Built.{Built}
use Rattle.sx_lines.specs.declared.events.Built.TheVariants as event

-- bytes behind these, which are still there
abbrev pub IsFront : List ℕ → List ℕ → Type 0
IsFront front bytes = (more : List ℕ) × (bytes ≡ front ++ more)

-- a number below 512 by three octal digits
abbrev pub octal : ℕ → List ℕ
octal n = (48 + n / 64) ∷ (48 + n / 8 % 8) ∷ (48 + n % 8) ∷ []

-- a byte that is a control character, or deleted
abbrev pub is_control : ℕ → Bool
is_control b = nat_lt b 32 || nat_eq b 127

-- A byte of a text: a backslash is doubled, a newline is a backslash and n, another control character a backslash and
-- its number in octal; each other byte stands for itself.
abbrev pub escaped : ℕ → List ℕ
escaped b =
    if nat_eq b 92 then 92 ∷ 92 ∷ []
    else if nat_eq b 10 then 92 ∷ 110 ∷ []
    else if is_control b then 92 ∷ octal b
    else b ∷ []

-- the bytes of a text, each escaped
abbrev pub escape : List ℕ → List ℕ
escape [] = []
escape (b ∷ bs) = escaped b ++ escape bs

-- the newline that a text line still lacks
abbrev pub newline_after : Bool → List ℕ
newline_after true = 10 ∷ []
newline_after false = []

-- a line: its first character, the rest, and a newline
abbrev pub line : ℕ → List ℕ → List ℕ
line first rest = first ∷ rest ++ 10 ∷ []

-- the line of an attribute: its name, the word CDATA between spaces, and its value
abbrev pub pair_line : Pair → List ℕ
pair_line p = line 65 (p.name ++ (32 ∷ 67 ∷ 68 ∷ 65 ∷ 84 ∷ 65 ∷ 32 ∷ []) ++ escape p.value)

-- the lines of attributes
abbrev pub pair_lines : List Pair → List ℕ
pair_lines [] = []
pair_lines (p ∷ ps) = pair_line p ++ pair_lines ps

-- the content of a processing instruction behind its target: a space and the content, where it is not empty
abbrev pub content_part : List ℕ → List ℕ
content_part [] = []
content_part (b ∷ bs) = 32 ∷ escape (b ∷ bs)

-- the mark of a text line, where none is unfinished
abbrev pub text_mark : Bool → List ℕ
text_mark true = []
text_mark false = 45 ∷ []

-- An event, where a text line may be unfinished before it. A text goes on with such a line and leaves it unfinished;
-- each other event ends it first, and ends its own lines.
abbrev pub printed : Bool → Built → List ℕ
printed after_text (event.Start name pairs) = newline_after after_text ++ pair_lines pairs ++ line 40 name
printed after_text (event.End name) = newline_after after_text ++ line 41 name
printed after_text (event.Text text) = text_mark after_text ++ escape text
printed after_text (event.Pi target content) = newline_after after_text ++ line 63 (target ++ content_part content)

-- a text, and nothing else
abbrev pub is_text_event : Built → Bool
is_text_event (event.Start name pairs) = false
is_text_event (event.End name) = false
is_text_event (event.Text text) = true
is_text_event (event.Pi target content) = false

-- events one behind the other, where a text line may be unfinished before them
abbrev pub print_all : Bool → List Built → List ℕ
print_all after_text [] = []
print_all after_text (e ∷ es) = printed after_text e ++ print_all (is_text_event e) es

-- whether a text line is unfinished behind these events
abbrev pub ends_in_text : Bool → List Built → Bool
ends_in_text after_text [] = after_text
ends_in_text after_text (e ∷ es) = ends_in_text (is_text_event e) es

-- what ends a whole result: the newline that a text line still lacks, and the line that it conforms
abbrev pub ending_of : Bool → List ℕ
ending_of after_text = newline_after after_text ++ 67 ∷ 10 ∷ []
