use Rattle.std.proofs.Common.{rules, arith, ◌≡◌, ◌+◌, ◌++◌, ◌∷◌, sym, ap, ◌∙◌, Some, None, [], true, false, ◌||◌, Bool, refl, length, List}
use Rattle.std.proofs.lemmas.Bool.{false≢true}
use Rattle.std.proofs.lemmas.List.{length-map}
use Rattle.sx_desk.specs.Files.{file_place}
use Rattle.sx_desk.specs.History.{tells, opened_names}
use Rattle.sx_desk.specs.Opened.{taken_of, marks_of}
use Rattle.sx_desk.specs.declared.files.MemFile.{MemFile}
use Rattle.sx_desk.specs.declared.opened.OpenedFile.{OpenedFile}
use Rattle.sx_desk.proofs.Recorded.{opened_length, opened_more, recorded}
use Rattle.sx_desk.proofs.Places.{placed_has_content, placed_is_known, unplaced_has_none}
use Rattle.sx_desk.specs.Mem.{is_listed}
use Rattle.sx_desk.proofs.mem.MemDeskDesk.open_file.Goals.{then-not-contains+in_default, else-not-contains}
use Rattle.sx_desk.proofs.Rows.{added_last, added_others}
use Rattle.sx_desk.proofs.mem.MemDeskDesk.open_file.Goals as goal

pub returns-in-Some-clause-desk : goal.returns-in-Some-clause-desk
returns-in-Some-clause-desk c =
    let files = c.args.self.now.files in
    let name = c.args.name.now in
    let h₀ = c.args.self.now.history in
    let h₁ = c.ask.new.self in
    let h₂ = c.open.new.self in
    let items = h₀.files.items in
    let place : file_place files name ≡ Some c.in-Some.place =
    ap (λ (fs : List MemFile). file_place fs name) (sym c.as_slice.ensures) ∙ sym c.in-Some.ensures in
    let kept = c.ask.ensures.files in
    let number : c.open.result ≡ length (opened_names h₀) = c.open.ensures.number ∙ kept.opened ∙ sym (opened_length h₀) in
    record {
      known = search rules;
      number = number;
      count = opened_length h₂ ∙ c.open.ensures.opened ∙ ap (λ n. n + 1) (kept.opened ∙ sym (opened_length h₀));
      same_count = search rules;
      cause = search rules;
      read_faults = search rules;
      write_faults = search rules;
      told = λ t.
          let t₁ : tells h₁ ≡ true = c.open.ensures.known t in
          let rows : length items ≡ length (opened_names h₀) = recorded h₀ (c.ask.ensures.known t₁) in
          let taken : taken_of h₂.files.items ≡ taken_of items ++ 0 ∷ [] = c.open.ensures.taken t ∙ ap (λ (fs : List OpenedFile). taken_of fs ++ 0 ∷ []) kept.files in
          let width = length-map items (λ f. f.taken) in
          record {
            content = search rules;
            found = placed_has_content files name c.in-Some.place place;
            opened = opened_more h₀ h₁ h₂ name t₁ t kept (c.open.ensures.names t);
            refused = search rules;
            asked = search rules;
            fresh = added_last (taken_of items) (taken_of h₂.files.items) 0 0 c.open.result taken (width ∙ rows ∙ sym number);
            taken = λ f within. added_others (taken_of items) (taken_of h₂.files.items) 0 0 taken f (omega (arith, within, width, rows));
            written_length = search rules;
          };
      shown = λ t s.
          let rows : length items ≡ length (opened_names h₀) = recorded h₀ (c.ask.ensures.known (c.open.ensures.known t)) in
          let marks : marks_of h₂.files.items ≡ marks_of items ++ [] ∷ [] = c.open.ensures.marks t ∙ ap (λ (fs : List OpenedFile). marks_of fs ++ [] ∷ []) kept.files in
          let width = length-map items (λ f. f.marks) in
          record {
            fresh = added_last (marks_of items) (marks_of h₂.files.items) [] [] c.open.result marks (width ∙ rows ∙ sym number);
            marks = λ f within. added_others (marks_of items) (marks_of h₂.files.items) [] [] marks f (omega (arith, within, width, rows));
            written = search rules;
          };
    }

neither : (listed nothing : Bool) → listed ≡ false → nothing ≡ false → false ≡ listed || nothing
neither false nothing e f = sym f
neither true nothing e f = sym e

either : (listed nothing : Bool) → listed ≡ true → true ≡ listed || nothing
either true nothing e = refl
either false nothing e = absurd (false≢true e)

nothing_there : (listed nothing : Bool) → nothing ≡ true → true ≡ listed || nothing
nothing_there true nothing e = refl
nothing_there false nothing e = sym e

pub returns-in-Some-clause-fails : goal.returns-in-Some-clause-fails
returns-in-Some-clause-fails c =
    let desk = c.args.self.now in
    let name = c.args.name.now in
    let listed : is_listed desk.open_fails.items desk.opens ≡ c.contains.result = search rules in
    let place : file_place desk.files name ≡ Some c.in-Some.place =
    ap (λ (fs : List MemFile). file_place fs name) (sym c.as_slice.ensures) ∙ sym c.in-Some.ensures in
    neither _ _ (listed ∙ c.if-not-contains.true) (placed_is_known desk.files name c.in-Some.place place)

pub returns-clause-fails : goal.returns-clause-fails
returns-clause-fails c =
    let desk = c.args.self.now in
    let name = c.args.name.now in
    let listed : is_listed desk.open_fails.items desk.opens ≡ c.contains.result = search rules in
    elim c.if-not-contains.branch [
      | then-not-contains+in_default w ↦
          let place : file_place desk.files name ≡ None =
          ap (λ (fs : List MemFile). file_place fs name) (sym w.as_slice.ensures) ∙ sym w.place_of.ensures ∙ w.in_default.is in
          nothing_there _ _ (unplaced_has_none desk.files name place)
      | else-not-contains w ↦ either _ _ (listed ∙ w.if-not-contains.false)
    ]
