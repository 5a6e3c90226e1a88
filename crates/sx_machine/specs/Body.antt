-- The content of templates, as definitions recurse on it, and what keeps a stylesheet from being streamed.
use Rattle.std.specs.Prelude.{ℕ, ◌+◌, ◌<◌, nat_lt, Bool, true, false, ◌||◌, List, [], ◌∷◌, Option, Some, None, if◌then◌else◌}
use Rattle.sx_tree.specs.declared.events.Label.{Label}
use Rattle.sx_named.specs.Named.{Name, Attribute, name_at}
use Rattle.sx_kinds.specs.declared.constructs.InstrForm.{InstrForm}
use Rattle.sx_kinds.specs.declared.constructs.InstrForm.TheVariants as form
use Rattle.sx_kinds.specs.declared.constructs.Instr.{Instr}
use Rattle.sx_kinds.specs.declared.constructs.Instr.TheOpen.{Instr-F}
use Rattle.sx_kinds.specs.declared.constructs.Instr.TheFolds.{fold-Instr}
use Rattle.sx_kinds.specs.declared.constructs.NamePattern.{NamePattern}
use Rattle.sx_kinds.specs.declared.sheets.Template.{Template}
use Rattle.sx_names.specs.Numbering.{NameTable}

-- Instructions one behind another, where N is how names are given: a literal result element with the line on which it
-- starts, its name and its content; attributes, each copied; a text; or an application of templates to the children; then
-- those that follow.
pub data Body (N : Type 0) : Type 0 where
  nil : Body N
  literal : ℕ → N → Body N → Body N → Body N
  copies : List Attribute → Body N → Body N
  words : List ℕ → Body N → Body N
  apply : Body N → Body N

-- what instructions are, each given as what it is in front of others
abbrev pub joined_body : List (Body Label → Body Label) → Body Label
joined_body [] = nil
joined_body (f ∷ fs) = f (joined_body fs)

-- an instruction in front of others
abbrev pub form_in_front : ℕ → InstrForm → List (Body Label → Body Label) → Body Label → Body Label
form_in_front line (form.Literal label) content rest = literal line label (joined_body content) rest
form_in_front line (form.Text s) content rest = words s rest
form_in_front line form.ApplyTemplates content rest = apply rest

abbrev pub layer : Instr-F (Body Label → Body Label) → Body Label → Body Label
layer i = form_in_front i.construct.line i.form i.body

abbrev pub instr_in_front : Instr → Body Label → Body Label
instr_in_front = fold-Instr (Body Label → Body Label) layer

-- the body that instructions are
abbrev pub body_of : List Instr → Body Label
body_of [] = nil
body_of (i ∷ is) = instr_in_front i (body_of is)

-- a body with its names written out, by a table of names
abbrev pub written_out : NameTable → Body Label → Body Name
written_out names nil = nil
written_out names (literal line label content rest) = literal line (name_at names label) (written_out names content) (written_out names rest)
written_out names (copies attributes rest) = copies attributes (written_out names rest)
written_out names (words s rest) = words s (written_out names rest)
written_out names (apply rest) = apply (written_out names rest)

-- ---- what can be streamed

-- whether templates are applied anywhere in it
abbrev pub consumes : {N : Type 0} → Body N → Bool
consumes nil = false
consumes (literal line label content rest) = consumes content || consumes rest
consumes (copies attributes rest) = consumes rest
consumes (words s rest) = consumes rest
consumes (apply rest) = true

-- how many of the instructions that stand beside one another are or hold an application of templates
abbrev pub consuming_parts : {N : Type 0} → Body N → ℕ
consuming_parts nil = 0
consuming_parts (literal line label content rest) = (if consumes content then 1 else 0) + consuming_parts rest
consuming_parts (copies attributes rest) = consuming_parts rest
consuming_parts (words s rest) = consuming_parts rest
consuming_parts (apply rest) = 1 + consuming_parts rest

-- the first, or the second where there is no first
abbrev pub or_else : Option ℕ → Option ℕ → Option ℕ
or_else (Some a) b = Some a
or_else None b = b

-- the line of an element that starts there, where two parts of its content consume
abbrev pub if_two : {N : Type 0} → ℕ → Body N → Option ℕ
if_two line content = if nat_lt 1 (consuming_parts content) then Some line else None

-- the line of the first element in it of whose content two parts consume, and that holds no other such element
abbrev pub culprit_inside : {N : Type 0} → Body N → Option ℕ
culprit_inside nil = None
culprit_inside (literal line label content rest) = or_else (or_else (culprit_inside content) (if_two line content)) (culprit_inside rest)
culprit_inside (copies attributes rest) = culprit_inside rest
culprit_inside (words s rest) = culprit_inside rest
culprit_inside (apply rest) = culprit_inside rest

-- the same, where this is the content of an element that starts on a line
abbrev pub culprit_of : {N : Type 0} → ℕ → Body N → Option ℕ
culprit_of line content = or_else (culprit_inside content) (if_two line content)

-- The line of the first template or literal result element of whose content two parts consume, and that holds no other
-- such element: a stylesheet that has one cannot be streamed (XSLT 3.0, 19.8.3, as this program reads it).
abbrev pub culprit : List Template → Option ℕ
culprit [] = None
culprit (t ∷ ts) = or_else (culprit_of t.construct.line (body_of t.body)) (culprit ts)

-- ---- the numbers of names

-- the names of its literal elements have numbers
abbrev pub IsKnownBody : ℕ → Body Label → Type 0
IsKnownBody count nil = Unit {0}
IsKnownBody count (literal line label content rest) = (label.number < count) × IsKnownBody count content × IsKnownBody count rest
IsKnownBody count (copies attributes rest) = IsKnownBody count rest
IsKnownBody count (words s rest) = IsKnownBody count rest
IsKnownBody count (apply rest) = IsKnownBody count rest

-- the name of a pattern has a number
abbrev pub IsKnownPattern : ℕ → Option NamePattern → Type 0
IsKnownPattern count None = Unit {0}
IsKnownPattern count (Some p) = p.name < count

-- the names in templates have numbers, where so many are given
abbrev pub AreKnown : ℕ → List Template → Type 0
AreKnown count [] = Unit {0}
AreKnown count (t ∷ ts) = IsKnownPattern count t.pattern × IsKnownBody count (body_of t.body) × AreKnown count ts
