use Rattle.std.proofs.Common.{◌≡◌, ◌∙◌, ℕ, zero, suc, List, [], false, length, map, ap, refl, subst}
use Rattle.sx_kinds.specs.declared.sheets.Mode.{Mode}
use Rattle.sx_kinds.specs.declared.sheets.Sheet.{Sheet}
use Rattle.sx_kinds.specs.declared.sheets.Template.{Template}
use Rattle.sx_tree.specs.Tree.{empty_document}
use Rattle.sx_machine.specs.declared.session.Session.{Session}
use Rattle.sx_machine.specs.Meaning.{is_copying_first, meaning_on}
use Rattle.sx_machine.specs.Plan.{AreRulesOf}
use Rattle.sx_machine.specs.Run.{result_of}
use Rattle.sx_machine.specs.Writer.{WriterStands}
use Rattle.sx_machine.specs.Session.{Builds, first_state, state_of}
use Rattle.sx_machine.proofs.Places.{finds_last}
use Rattle.sx_machine.proofs.session.Session.start.Goals as goal
use Rattle.sx_names.specs.Numbering.{NameTable}

-- nothing was asked for yet
builds_nothing : (sheet : Sheet) (names : NameTable) (invocations : ℕ) (s : Session) → WriterStands s.writer [] false 0 →
    Builds s (meaning_on sheet names invocations empty_document).raw (result_of (meaning_on sheet names invocations empty_document)) 0
builds_nothing sheet names zero s stands = record { asked = []; at_end = false; stands = stands; built_is = refl; all_asked = λ _. (refl, refl) }
builds_nothing sheet names (suc left) s stands = record { asked = []; at_end = false; stands = stands; built_is = refl; all_asked = λ _. (refl, refl) }

state_first : (sheet : Sheet) (names : NameTable) (invocations : ℕ) → first_state invocations ≡ state_of (result_of (meaning_on sheet names invocations empty_document)).ending
state_first sheet names zero = refl
state_first sheet names (suc left) = refl

pub returns-clause-stands : goal.returns-clause-stands
returns-clause-stands c = λ ready distinct.
    let table = c.in_ok-new.field-0 in
    let sheet = c.args.sheet.now in
    let names = c.args.names.now in
    let rules_are : AreRulesOf sheet.templates table.list =
    subst (λ (ts : List Template). AreRulesOf ts table.list) c.as_slice.ensures c.in_ok-new.ensures.rules in
    record {
      ready = ready;
      rules_are = rules_are;
      places_are = finds_last table sheet.templates (length names) ready.known rules_are c.in_ok-new.ensures.found c.in_ok-new.ensures.bound;
      copying_is = c.copies_unmatched.ensures ∙ ap (λ (modes : List Mode). is_copying_first modes) c.as_slice-2.ensures;
      root_is = c.work_at_root.ensures;
      builds = builds_nothing sheet names c.args.invocations _ c.new-3.ensures;
      state_is = c.state_at_start.ensures ∙ state_first sheet names c.args.invocations;
      frames_are = λ _. ap (map _) c.new-2.ensures;
    }
