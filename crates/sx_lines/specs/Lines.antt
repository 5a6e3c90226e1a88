-- The lines of a printed result.
use Rattle.std.specs.Prelude.{◌≡◌, ℕ, ◌<◌, Bool, true, false, List, [], ◌∷◌, ◌++◌, length, Option, Some, None, option_map}
use Rattle.std.specs.Str.{IsUtf8}
use Rattle.sx_lines.specs.declared.events.Pair.{Pair}
use Rattle.sx_lines.specs.declared.events.Built.{Built}
use Rattle.sx_lines.specs.declared.events.Built.TheVariants as event
use Rattle.sx_lines.specs.declared.lines.Line.{Line}
use Rattle.sx_lines.specs.declared.lines.Line.TheVariants as kind
use Rattle.sx_lines.specs.Print.{escape, content_part}
use Rattle.sx_lines.specs.Normal.{IsName, IsTarget, IsPair}

-- no byte is this one
abbrev pub Lacks : ℕ → List ℕ → Type 0
Lacks mark [] = Unit {0}
Lacks mark (b ∷ bs) = ¬ (b ≡ mark) × Lacks mark bs

-- the word CDATA and a space
abbrev pub word_cdata : List ℕ
word_cdata = 67 ∷ 68 ∷ 65 ∷ 84 ∷ 65 ∷ 32 ∷ []

-- the bytes of a line, without the newline that ends it
abbrev pub line_bytes : Line → List ℕ
line_bytes (kind.Pair p) = 65 ∷ p.name ++ 32 ∷ (word_cdata ++ escape p.value)
line_bytes (kind.Start name) = 40 ∷ name
line_bytes (kind.End name) = 41 ∷ name
line_bytes (kind.Text text) = 45 ∷ escape text
line_bytes (kind.Pi target content) = 63 ∷ target ++ content_part content

-- a line whose names are names, whose texts are UTF-8, and that says no empty text
abbrev pub IsLine : Line → Type 0
IsLine (kind.Pair p) = IsPair p
IsLine (kind.Start name) = IsName name
IsLine (kind.End name) = IsName name
IsLine (kind.Text text) = IsUtf8 text × (0 < length text)
IsLine (kind.Pi target content) = IsTarget target × IsUtf8 content

-- such a line, and its bytes are these
abbrev pub IsLineOf : List ℕ → Line → Type 0
IsLineOf bytes l = IsLine l × (line_bytes l ≡ bytes)

-- there is no such line with these bytes
abbrev pub IsNoLine : List ℕ → Type 0
IsNoLine bytes = (l : Line) → IsLine l → ¬ (line_bytes l ≡ bytes)

-- each of these is such a line
abbrev pub AreLines : List Line → Type 0
AreLines [] = Unit {0}
AreLines (l ∷ ls) = IsLine l × AreLines ls

-- lines, each with a newline behind it
abbrev pub joined_lines : List Line → List ℕ
joined_lines [] = []
joined_lines (l ∷ ls) = line_bytes l ++ 10 ∷ joined_lines ls

-- the line that ends a whole result, with its newline
abbrev pub ending_line : List ℕ
ending_line = 67 ∷ 10 ∷ []

-- the lines of attributes in front of others
abbrev pub with_pairs : List Pair → List Line → List Line
with_pairs [] ls = ls
with_pairs (p ∷ ps) ls = kind.Pair p ∷ with_pairs ps ls

-- the lines of events, in front of the last
abbrev pub lines_of_events : List Built → List Line
lines_of_events [] = []
lines_of_events (event.Start name pairs ∷ es) = with_pairs pairs (kind.Start name ∷ lines_of_events es)
lines_of_events (event.End name ∷ es) = kind.End name ∷ lines_of_events es
lines_of_events (event.Text text ∷ es) = kind.Text text ∷ lines_of_events es
lines_of_events (event.Pi target content ∷ es) = kind.Pi target content ∷ lines_of_events es

-- an event in front of events, if there are any
abbrev pub put_event : Built → Option (List Built) → Option (List Built)
put_event e events = option_map (λ es. e ∷ es) events

-- what is there only where no attributes wait for their element
abbrev pub alone : List Pair → Option (List Built) → Option (List Built)
alone [] events = events
alone (p ∷ ps) events = None

-- what is there only where no text stands before it
abbrev pub apart : Bool → Option (List Built) → Option (List Built)
apart true events = None
apart false events = events

-- The events whose lines these are, where a text may stand before them and these attributes wait for their element; or
-- none, where no normal list has these lines.
abbrev pub events_of_lines : Bool → List Pair → List Line → Option (List Built)
events_of_lines after_text pairs [] = alone pairs (Some [])
events_of_lines after_text pairs (kind.Pair p ∷ ls) = events_of_lines after_text (pairs ++ p ∷ []) ls
events_of_lines after_text pairs (kind.Start name ∷ ls) = put_event (event.Start name pairs) (events_of_lines false [] ls)
events_of_lines after_text pairs (kind.End name ∷ ls) = alone pairs (put_event (event.End name) (events_of_lines false [] ls))
events_of_lines after_text pairs (kind.Text text ∷ ls) = apart after_text (alone pairs (put_event (event.Text text) (events_of_lines true [] ls)))
events_of_lines after_text pairs (kind.Pi target content ∷ ls) = alone pairs (put_event (event.Pi target content) (events_of_lines false [] ls))
