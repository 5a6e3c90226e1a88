-- What each event makes of a session that stands for an open document.
use Rattle.std.specs.Prelude.{◌≡◌, ℕ, ◌<◌, suc, true, false, List, length, map, slice_get, Some}
use Rattle.sx_kinds.specs.declared.sheets.Sheet.{Sheet}
use Rattle.sx_machine.specs.Choice.{chosen_for, built_in_template}
use Rattle.sx_machine.specs.Meaning.{is_copying_first}
use Rattle.sx_machine.specs.Plan.{read_plan, plan_of, task_of, last_job}
use Rattle.sx_machine.specs.Session.{StandsOn}
use Rattle.sx_machine.specs.declared.plans.Rule.{Rule}
use Rattle.sx_machine.specs.declared.session.Job.TheVariants as job
use Rattle.sx_machine.specs.declared.session.Session.{Session}
use Rattle.sx_named.specs.Named.{NamedElement, name_at, attributes_at}
use Rattle.sx_names.specs.Numbering.{NameTable, KeepsPlaces, IsDistinct}
use Rattle.sx_tree.specs.Tree.{Document, TreeEvent, push, starts, ends, closes, has_open}
use Rattle.sx_tree.specs.declared.events.Attr.{Attr}
use Rattle.sx_tree.specs.declared.events.Label.{Label}

-- the children of its innermost open element have templates applied to them, where so many invocations are left
abbrev pub AppliesBelow : NameTable → Session → ℕ → Type 0
AppliesBelow known s left = last_job s.root (map (task_of known s.rules.list) s.frames) ≡ job.Apply (suc left)

-- what it stood for on an open document it stands for behind a text or a processing instruction
abbrev pub AdvancesBy : Session → Session → TreeEvent NamedElement → Type 0
AdvancesBy old new h = (sheet : Sheet) (known : NameTable) (invocations : ℕ) (d : Document NamedElement) (given : ℕ) →
    d.is_open ≡ true →
    StandsOn sheet known invocations old d given → StandsOn sheet known invocations new (push d h) given

-- the same behind the close, where no element is open
abbrev pub AdvancesByClose : Session → Session → Type 0
AdvancesByClose old new = (sheet : Sheet) (known : NameTable) (invocations : ℕ) (d : Document NamedElement) (given : ℕ) →
    d.is_open ≡ true → has_open d.content ≡ false →
    StandsOn sheet known invocations old d given → StandsOn sheet known invocations new (push d closes) given

-- the same behind the end of an element, with a table that keeps the names
abbrev pub AdvancesByEnd : Session → Session → NameTable → Type 0
AdvancesByEnd old new names = (sheet : Sheet) (known : NameTable) (invocations : ℕ) (d : Document NamedElement) (given : ℕ) →
    KeepsPlaces known names → d.is_open ≡ true →
    StandsOn sheet known invocations old d given → StandsOn sheet known invocations new (push d ends) given

-- the same behind the start of an element of this name with these attributes, which the table numbers
abbrev pub AdvancesByStart : Session → Session → NameTable → Label → List Attr → Type 0
AdvancesByStart old new names label attrs =
    (sheet : Sheet) (known : NameTable) (invocations : ℕ) (d : Document NamedElement) (e : NamedElement) (given : ℕ) →
    KeepsPlaces known names → IsDistinct names → label.number < length names →
    e.name ≡ name_at names label → e.attributes ≡ attributes_at names attrs → d.is_open ≡ true →
    StandsOn sheet known invocations old d given → StandsOn sheet known invocations new (push d (starts e)) given

-- the same where templates are applied to it, with so many invocations left behind this one
abbrev pub Enters : ℕ → Session → Session → NameTable → Label → List Attr → Type 0
Enters left old new names label attrs =
    (sheet : Sheet) (known : NameTable) (invocations : ℕ) (d : Document NamedElement) (e : NamedElement) (given : ℕ) →
    KeepsPlaces known names → IsDistinct names → label.number < length names →
    e.name ≡ name_at names label → e.attributes ≡ attributes_at names attrs → d.is_open ≡ true →
    AppliesBelow known old left →
    StandsOn sheet known invocations old d given → StandsOn sheet known invocations new (push d (starts e)) given

-- the rule at this place has the plan of what is chosen for an element
abbrev pub IsChosen : ℕ → Session → ℕ → Sheet → NameTable → NamedElement → Type 0
IsChosen left s place sheet known e = (r : Rule) → slice_get s.rules.list place ≡ Some r →
    plan_of left (chosen_for known (is_copying_first sheet.modes) sheet.templates e) ≡ read_plan known r.plan

-- the same where the rule at this place is chosen
abbrev pub Invokes : ℕ → Session → Session → NameTable → ℕ → Type 0
Invokes left old new names place =
    (sheet : Sheet) (known : NameTable) (invocations : ℕ) (d : Document NamedElement) (e : NamedElement) (given : ℕ) →
    KeepsPlaces known names → IsChosen left old place sheet known e → d.is_open ≡ true →
    AppliesBelow known old left →
    StandsOn sheet known invocations old d given → StandsOn sheet known invocations new (push d (starts e)) given

-- the same where the element is copied
abbrev pub Copies : ℕ → Session → Session → NameTable → Label → List Attr → Type 0
Copies left old new names label attrs =
    (sheet : Sheet) (known : NameTable) (invocations : ℕ) (d : Document NamedElement) (e : NamedElement) (given : ℕ) →
    e.name ≡ name_at names label → e.attributes ≡ attributes_at names attrs →
    chosen_for known (is_copying_first sheet.modes) sheet.templates e ≡ built_in_template true e → d.is_open ≡ true →
    AppliesBelow known old left →
    StandsOn sheet known invocations old d given → StandsOn sheet known invocations new (push d (starts e)) given
