-- What a reader of printed results stands for.
use Rattle.std.specs.Prelude.{◌≡◌, ℕ, Bool, false, List, [], ◌∷◌, ◌++◌, Option, None, option_map}
use Rattle.sx_lines.specs.declared.events.Pair.{Pair}
use Rattle.sx_lines.specs.declared.events.Built.{Built}
use Rattle.sx_lines.specs.declared.lines.Line.{Line}
use Rattle.sx_lines.specs.declared.reading.Reader.{Reader}
use Rattle.sx_lines.specs.Lines.{IsLine, line_bytes, events_of_lines}

-- events in front of events, if there are any
abbrev pub put_all : List Built → Option (List Built) → Option (List Built)
put_all front events = option_map (λ es. front ++ es) events

-- Whatever lines follow these, their events are those that were read, and behind them those of the lines that follow.
abbrev pub StandsAs : Bool → List Pair → List Built → List Line → Type 0
StandsAs after_text pairs events ls = (more : List Line) → events_of_lines false [] (ls ++ more) ≡ put_all events (events_of_lines after_text pairs more)

abbrev pub ReadsAs : Reader → List Line → Type 0
ReadsAs r ls = StandsAs r.after_text r.pairs r.events ls

-- it has read this line besides
abbrev pub ReadsMore : Reader → Reader → Line → Type 0
ReadsMore old new line = (lines : List Line) → ReadsAs old lines → ReadsAs new (lines ++ line ∷ [])

-- no events have this line at its place, whatever follows
abbrev pub Refuses : Reader → Line → Type 0
Refuses old line = (more : List Line) → events_of_lines old.after_text old.pairs (line ∷ more) ≡ None

-- these bytes are a line, which it has read besides
abbrev pub ReadsBytes : Reader → Reader → List ℕ → Type 0
ReadsBytes old new bytes = (line : Line) × IsLine line × (line_bytes line ≡ bytes) × ReadsMore old new line

-- no line of these bytes can stand at its place
abbrev pub RefusesBytes : Reader → List ℕ → Type 0
RefusesBytes old bytes = (line : Line) (more : List Line) → IsLine line → line_bytes line ≡ bytes →
    events_of_lines old.after_text old.pairs (line ∷ more) ≡ None
