-- The events of a document's bytes, and where the bytes are broken off.
use Rattle.std.specs.Prelude.{ℕ, zero, suc, Bool, true, false, not, ◌&&◌, ◌==◌, nat_lt, List, [], ◌∷◌, ◌++◌, length, take, slice_index_or, Option, Some, None, is_some, option_map, if◌then◌else◌}
use Rattle.sx_chars.specs.Names.{before_space, from_space, without_leading_space}
use Rattle.sx_esis.specs.Lines as esis
use Rattle.sx_esis.specs.Lines.{Line, starts, ends, has, lacks, says, instructs, skips, conforms, Reading, lines_of}
use Rattle.sx_esis.specs.declared.faults.LineWhich.{LineWhich}
use Rattle.sx_esis.specs.declared.faults.LineWhich.TheVariants as in_line
use Rattle.sx_tree.specs.Tree as tree
use Rattle.sx_tree.specs.Tree.{TreeEvent}
use Rattle.sx_named.specs.Named.{ElementStart}
use Rattle.sx_limits.specs.declared.limits.Limits.{Limits}
use Rattle.sx_limits.specs.declared.faults.Which.{Which}
use Rattle.sx_limits.specs.declared.faults.Which.TheVariants as which
use Rattle.sx_limits.specs.declared.faults.DocFault.{DocFault}
use Rattle.sx_events.specs.Place.{Place, Written, beginning, spaces_of, ordinary, scope_with, element_name, attributes_in, fault_of, end_fault}
use Rattle.sx_names.specs.Scope.{ScopeBindings}

-- What happens, and the line that it stands on, counted from 1: of a run of text its last text line, of the close the
-- number of lines.
pub record Lined : Type 0 where
  pub what : TreeEvent ElementStart
  pub line : ℕ

-- the run of text that may go on, as an event
abbrev pub run_in : List ℕ → ℕ → List Lined
run_in [] line = []
run_in (b ∷ bs) line = record { what = tree.says (b ∷ bs); line = line } ∷ []

abbrev pub run_of : Place → List Lined
run_of p = run_in p.text p.text_line

-- place_behind the run of text this happens on the next line
abbrev pub then_here : Place → TreeEvent ElementStart → List Lined
then_here p h = run_of p ++ record { what = h; line = suc p.lines } ∷ []

-- the start of an element of this name
abbrev pub element_begun : Place → List ℕ → ElementStart
element_begun p name =
    let scope = scope_with p p.attributes in
    record { name = element_name scope name; attributes = attributes_in scope (ordinary p.attributes); spaces = spaces_of p.attributes }

-- a processing instruction: its target, and its content without the white space that begins it
abbrev pub instruction : List ℕ → TreeEvent ElementStart
instruction s = tree.instructs (before_space s) (without_leading_space (from_space s))

-- the events that the next line makes: the run of text before it, if it is no text and not skipped, and its own
abbrev pub events_at : Place → Line → List Lined
events_at p (starts name) = then_here p (tree.starts (element_begun p name))
events_at p (ends name) = then_here p tree.ends
events_at p (has name value) = run_of p
events_at p (lacks name) = run_of p
events_at p (says s) = []
events_at p (instructs s) = then_here p (instruction s)
events_at p skips = []
events_at p conforms = run_of p

-- one line on, where these elements are open and declare this, these attributes wait, and no text does
abbrev pub onward : Place → List (List ℕ) → ScopeBindings → List Written → Bool → Place
onward p opened scope attributes is_loose = record {
  lines = suc p.lines;
  opened = opened;
  scope = scope;
  has_root = p.has_root;
  conformed = p.conformed;
  attributes = attributes;
  is_loose = is_loose;
  text = [];
  text_line = 0;
}

abbrev pub rest_of : {X : Type 0} → List X → List X
rest_of [] = []
rest_of (x ∷ xs) = xs

-- what is known place_behind the next line, which is not at fault
abbrev pub place_behind : Place → Line → Place
place_behind p (starts name) = record {
  lines = suc p.lines;
  opened = name ∷ p.opened;
  scope = scope_with p p.attributes;
  has_root = true;
  conformed = p.conformed;
  attributes = [];
  is_loose = false;
  text = [];
  text_line = 0;
}
place_behind p (ends name) = onward p (rest_of p.opened) (rest_of p.scope) [] false
place_behind p (has name value) = onward p p.opened p.scope (p.attributes ++ record { name = name; value = value } ∷ []) true
place_behind p (lacks name) = onward p p.opened p.scope p.attributes true
place_behind p (says s) = record {
  lines = suc p.lines;
  opened = p.opened;
  scope = p.scope;
  has_root = p.has_root;
  conformed = p.conformed;
  attributes = p.attributes;
  is_loose = p.is_loose;
  text = p.text ++ s;
  text_line = suc p.lines;
}
place_behind p (instructs s) = onward p p.opened p.scope [] false
place_behind p skips = record {
  lines = suc p.lines;
  opened = p.opened;
  scope = p.scope;
  has_root = p.has_root;
  conformed = p.conformed;
  attributes = p.attributes;
  is_loose = p.is_loose;
  text = p.text;
  text_line = p.text_line;
}
place_behind p conforms = record {
  lines = suc p.lines;
  opened = p.opened;
  scope = p.scope;
  has_root = p.has_root;
  conformed = true;
  attributes = p.attributes;
  is_loose = p.is_loose;
  text = [];
  text_line = 0;
}

-- the events of lines up to the first that is at fault, what is known there, and that fault
pub record Course : Type 0 where
  pub events : List Lined
  pub place : Place
  pub fault : Option DocFault

-- a fault on the next line
abbrev pub fault_next : Place → Which → DocFault
fault_next p w = record { which = w; line = suc p.lines }

-- events in front of what comes place_behind them
abbrev pub put_events : List Lined → Course → Course
put_events events c = record { events = events ++ c.events; place = c.place; fault = c.fault }

-- a line that is or is not at fault, and what comes where it is not
abbrev pub by_fault : Place → Option Which → Course → Course
by_fault p (Some w) c = record { events = []; place = p; fault = Some (fault_next p w) }
by_fault p None c = c

-- the course of lines that stand there
abbrev pub course : Limits → Place → List Line → Course
course limits p [] = record { events = []; place = p; fault = None }
course limits p (line ∷ lines) = by_fault p (fault_of limits p line) (put_events (events_at p line) (course limits (place_behind p line) lines))

-- ---- from bytes

-- the byte at the limit of a document, where one has come, ends a line
abbrev pub ends_line : Limits → List ℕ → Bool
ends_line limits b = slice_index_or b limits.bytes 0 == 10

-- the bytes have passed the limit of a document
abbrev pub is_beyond : Limits → List ℕ → Bool
is_beyond limits b = nat_lt limits.bytes (length b)

-- The bytes that are looked at: those within the limit, and the one that passes it where it ends no line, since the line may
-- become too long with it.
abbrev pub looked_at : Limits → List ℕ → List ℕ
looked_at limits b = if is_beyond limits b && ends_line limits b then take limits.bytes b else take (suc limits.bytes) b

-- the lines of the bytes
abbrev pub reading : Limits → List ℕ → Bool → Reading
reading limits b ended = lines_of limits.line (looked_at limits b) (ended && not (is_beyond limits b))

-- the fault of a line, as one of the document
abbrev pub which_of : LineWhich → Which
which_of in_line.NotUtf8 = which.NotUtf8
which_of in_line.BadEscape = which.BadEscape
which_of in_line.BadCommand = which.BadCommand
which_of in_line.BadAttr = which.BadAttr
which_of in_line.Sdata = which.Sdata
which_of in_line.Unsupported = which.Unsupported
which_of in_line.Line = which.Line

-- what is wrong place_behind lines that are not at fault: the next line cannot be read; the byte that passes the limit; or the end
abbrev pub last_fault : Place → Option esis.Fault → Bool → Bool → Option DocFault
last_fault p (Some f) beyond ended = Some (record { which = which_of f.which; line = f.line })
last_fault p None true ended = Some (fault_next p which.Bytes)
last_fault p None false false = None
last_fault p None false true = option_map (fault_next p) (end_fault p)

abbrev pub or_else : Option DocFault → Option DocFault → Option DocFault
or_else (Some f) g = Some f
or_else None g = g

abbrev pub course_of : Limits → List ℕ → Bool → Course
course_of limits b ended = course limits beginning (reading limits b ended).lines

-- Where the bytes are broken off: the first fault, with its line; or nothing.
abbrev pub break_of : Limits → List ℕ → Bool → Option DocFault
break_of limits b ended =
    let c = course_of limits b ended in
    or_else c.fault (last_fault c.place (reading limits b ended).fault (is_beyond limits b) ended)

-- the close, on the last line
abbrev pub closing : Place → List Lined
closing p = record { what = tree.closes; line = p.lines } ∷ []

-- what happens at the end of a course: where it is broken off, the run of text before that; where the input has ended well, the
-- close; else nothing, since a run of text and attribute lines may go on
abbrev pub last_events : Place → Bool → Bool → List Lined
last_events p true ended = run_of p
last_events p false true = run_of p ++ closing p
last_events p false false = []

-- The events of the bytes.
abbrev pub events_of : Limits → List ℕ → Bool → List Lined
events_of limits b ended =
    let c = course_of limits b ended in
    c.events ++ last_events c.place (is_some (break_of limits b ended)) ended

-- what happens, without the lines
abbrev pub whats : List Lined → List (TreeEvent ElementStart)
whats [] = []
whats (l ∷ ls) = l.what ∷ whats ls

-- the line of the last of the first so many events, and 0 before the first
abbrev pub line_behind : List Lined → ℕ → ℕ
line_behind [] n = 0
line_behind (l ∷ ls) zero = 0
line_behind (l ∷ ls) (suc zero) = l.line
line_behind (l ∷ ls) (suc (suc n)) = line_behind ls (suc n)
