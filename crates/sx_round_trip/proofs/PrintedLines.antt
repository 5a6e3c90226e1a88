-- What is printed is cut into its lines again, and they say what they were printed for.
use Rattle.std.proofs.Common.{◌≡◌, ℕ, ◌≤◌, Bool, true, false, List, [], ◌∷◌, ◌++◌, length, None, Result, Ok, Err, refl, ap, ◌∙◌, cond, eqb, arith, append_assoc}
use Rattle.std.proofs.lemmas.Bool.{eqb-true, false_from_ne_true, le-ltb}
use Rattle.std.proofs.lemmas.Str.{IsUtf8-nil}
use Rattle.sx_esis.specs.Lines as esis
use Rattle.sx_esis.specs.declared.faults.LineWhich.{LineWhich}
use Rattle.sx_esis.specs.declared.faults.LineWhich.TheVariants as which
use Rattle.sx_lines.specs.declared.events.Pair.{Pair}
use Rattle.sx_lines.specs.declared.events.Built.{Built}
use Rattle.sx_lines.specs.declared.events.Built.TheVariants as event
use Rattle.sx_lines.specs.declared.lines.Line.{Line}
use Rattle.sx_lines.specs.declared.lines.Line.TheVariants as kind
use Rattle.sx_lines.specs.Lines.{Lacks, line_bytes, IsLine, AreLines, joined_lines, ending_line, with_pairs, lines_of_events}
use Rattle.sx_lines.specs.Normal.{IsNormal, whole}
use Rattle.sx_lines.proofs.LineBytes.{line_lacks}
use Rattle.sx_lines.proofs.Results.{whole_is, lines_are}
use Rattle.sx_round_trip.specs.Document.{said, all_said, AreShort, PairsLackZero, LackZero}
use Rattle.sx_round_trip.proofs.Said.{command_said, first_text, start_said, end_said, text_line_said, pair_said, instruction_said}

-- no text or value of a line has a zero in it
abbrev LineLacksZero : Line → Type 0
LineLacksZero (kind.Pair p) = Lacks 0 p.value
LineLacksZero (kind.Start name) = Unit {0}
LineLacksZero (kind.End name) = Unit {0}
LineLacksZero (kind.Text text) = Lacks 0 text
LineLacksZero (kind.Pi target content) = Lacks 0 content

-- none of these lines has one
abbrev LinesLackZero : List Line → Type 0
LinesLackZero [] = Unit {0}
LinesLackZero (l ∷ ls) = LineLacksZero l × LinesLackZero ls

-- the lines of attributes have none, where their values have none
pairs_zeroless : (pairs : List Pair) (ls : List Line) → PairsLackZero pairs → LinesLackZero ls → LinesLackZero (with_pairs pairs ls)
pairs_zeroless [] ls lack those = those
pairs_zeroless (p ∷ pairs) ls lack those = (lack.0, pairs_zeroless pairs ls lack.1 those)

-- the lines of events have no zero, where the events have none
lines_zeroless : (es : List Built) → LackZero es → LinesLackZero (lines_of_events es)
lines_zeroless [] lack = tt
lines_zeroless (event.Start name pairs ∷ es) lack = pairs_zeroless pairs (kind.Start name ∷ lines_of_events es) lack.0 (tt, lines_zeroless es lack.1)
lines_zeroless (event.End name ∷ es) lack = (tt, lines_zeroless es lack)
lines_zeroless (event.Text text ∷ es) lack = (lack.0, lines_zeroless es lack.1)
lines_zeroless (event.Pi target content ∷ es) lack = (lack.0, lines_zeroless es lack.1)

-- a printed line says what it was printed for
line_said : (l : Line) → IsLine l → LineLacksZero l → esis.line_of (line_bytes l) ≡ Ok (said l)
line_said (kind.Pair p) is lacks = pair_said p.name p.value is.0 is.1 lacks
line_said (kind.Start name) is lacks = start_said name is
line_said (kind.End name) is lacks = end_said name is
line_said (kind.Text text) is lacks = text_line_said text is.0 lacks
line_said (kind.Pi target content) is lacks = instruction_said target content is.0 is.1 lacks

-- the last line says that the document conformed
last_said : esis.line_of (67 ∷ []) ≡ Ok esis.conforms
last_said = command_said 67 [] esis.conforms refl refl (first_text 67 [] (omega arith) (λ e. absurd (omega (arith, e))) IsUtf8-nil tt) refl

-- a line within the limit is read
line_within : (limit : ℕ) (line : List ℕ) (l : esis.Line) → length line ≤ limit → esis.line_of line ≡ Ok l → esis.line_within limit line ≡ Ok l
line_within limit line l short is = ap (λ (v : Bool). cond v (Err which.Line) (esis.line_of line)) (le-ltb limit (length line) short) ∙ is

-- the first newline ends the first line
cut_line : (s rest : List ℕ) → Lacks 10 s → esis.cut (s ++ 10 ∷ rest) ≡ record { lines = s ∷ (esis.cut rest).lines; rest = (esis.cut rest).rest }
cut_line [] rest lacks = refl
cut_line (b ∷ s) rest lacks =
    ap (λ (v : Bool). cond v (record { lines = [] ∷ (esis.cut (s ++ 10 ∷ rest)).lines; rest = (esis.cut (s ++ 10 ∷ rest)).rest }) (esis.put_front b (esis.cut (s ++ 10 ∷ rest)).lines (esis.cut (s ++ 10 ∷ rest)).rest))
    (false_from_ne_true (eqb b 10) (λ e. lacks.0 (eqb-true b 10 e)))
    ∙ ap (λ (c : esis.Cut). esis.put_front b c.lines c.rest) (cut_line s rest lacks.1)

-- what a line and its newline give in front of other bytes
line_read : (limit : ℕ) (line rest : List ℕ) (l : esis.Line) → Lacks 10 line → length line ≤ limit → esis.line_of line ≡ Ok l
    → esis.lines_of limit (line ++ 10 ∷ rest) true ≡ esis.in_front (Ok l) (esis.lines_of limit rest true)
line_read limit line rest l lacks short is =
    ap (λ (c : esis.Cut). esis.reading_of limit c.lines (esis.rest_reading limit c.rest true)) (cut_line line rest lacks)
    ∙ ap (λ (r : Result esis.Line LineWhich). esis.in_front r (esis.lines_of limit rest true)) (line_within limit line l short is)

-- no bytes are no lines
nothing_read : (limit : ℕ) → esis.lines_of limit [] true ≡ esis.nothing_more
nothing_read limit = ap (λ (v : Bool). cond v (esis.fault_here which.Line) esis.nothing_more) (le-ltb limit 0 (omega arith))

-- joined_lines lines are read as what they say
joined_read : (limit : ℕ) (ls : List Line) → AreLines ls → LinesLackZero ls → 1 ≤ limit → AreShort limit ls
    → esis.lines_of limit (joined_lines ls ++ ending_line) true ≡ record { lines = all_said ls; fault = None }
joined_read limit [] are lack some short =
    line_read limit (67 ∷ []) [] esis.conforms ((λ e. absurd (omega (arith, e)), tt)) some last_said
    ∙ ap (esis.in_front (Ok esis.conforms)) (nothing_read limit)
joined_read limit (l ∷ ls) are lack some short =
    ap (λ (b : List ℕ). esis.lines_of limit b true) (append_assoc (line_bytes l) (10 ∷ joined_lines ls) ending_line)
    ∙ line_read limit (line_bytes l) (joined_lines ls ++ ending_line) (said l) (line_lacks l are.0) short.0 (line_said l are.0 lack.0)
    ∙ ap (esis.in_front (Ok (said l))) (joined_read limit ls are.1 lack.1 some short.1)

-- The lines of a printed normal list say that list.
pub whole_read : (limit : ℕ) (es : List Built) → IsNormal es → LackZero es → 1 ≤ limit → AreShort limit (lines_of_events es)
    → esis.lines_of limit (whole es) true ≡ record { lines = all_said (lines_of_events es); fault = None }
whole_read limit es normal lack some short =
    ap (λ (b : List ℕ). esis.lines_of limit b true) (whole_is false es normal)
    ∙ joined_read limit (lines_of_events es) (lines_are false es normal) (lines_zeroless es lack) some short
