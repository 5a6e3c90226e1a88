-- Normal lists of events, which can be read back, and the bytes of a whole result.
use Rattle.std.specs.Prelude.{◌≡◌, ℕ, ◌<◌, Bool, true, false, ◌&&◌, List, [], ◌∷◌, ◌++◌, length}
use Rattle.std.specs.Str.{IsUtf8}
use Rattle.sx_chars.specs.Names.{is_qname, is_ncname}
use Rattle.sx_lines.specs.declared.events.Pair.{Pair}
use Rattle.sx_lines.specs.declared.events.Built.{Built}
use Rattle.sx_lines.specs.declared.events.Built.TheVariants as event
use Rattle.sx_lines.specs.Print.{is_text_event, print_all, ends_in_text, ending_of}

-- the name of an element or an attribute: a QName, in UTF-8
abbrev pub IsName : List ℕ → Type 0
IsName name = (is_qname name ≡ true) × IsUtf8 name

-- the target of a processing instruction: an NCName, in UTF-8
abbrev pub IsTarget : List ℕ → Type 0
IsTarget target = (is_ncname target ≡ true) × IsUtf8 target

-- a name and a value in UTF-8
abbrev pub IsPair : Pair → Type 0
IsPair p = IsName p.name × IsUtf8 p.value

-- each of these is a name and a value
abbrev pub ArePairs : List Pair → Type 0
ArePairs [] = Unit {0}
ArePairs (p ∷ ps) = IsPair p × ArePairs ps

-- An event whose names are names, whose texts are UTF-8, and that is no empty text.
abbrev pub IsEvent : Built → Type 0
IsEvent (event.Start name pairs) = IsName name × ArePairs pairs
IsEvent (event.End name) = IsName name
IsEvent (event.Text text) = IsUtf8 text × (0 < length text)
IsEvent (event.Pi target content) = IsTarget target × IsUtf8 content

-- such events, and no text directly behind a text, where a text may stand before them
abbrev pub AreNormal : Bool → List Built → Type 0
AreNormal after_text [] = Unit {0}
AreNormal after_text (e ∷ es) = IsEvent e × (after_text && is_text_event e ≡ false) × AreNormal (is_text_event e) es

-- a normal list: it can be read back from its printing
abbrev pub IsNormal : List Built → Type 0
IsNormal es = AreNormal false es

-- a whole result: the events printed, and what ends them
abbrev pub whole : List Built → List ℕ
whole es = print_all false es ++ ending_of (ends_in_text false es)
