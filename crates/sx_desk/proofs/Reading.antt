-- What one read does to what a desk in memory tells: the file was marked, and then its next bytes were taken.
use Rattle.std.proofs.Common.{◌≡◌, ℕ, ◌+◌, ◌<◌, ◌≤◌, IsTrue, true, List, [], ◌∷◌, ◌++◌, set, Option, Ok, option_and_then, unwrap_or, slice_get, sym, ap, ap₂, subst, ◌∙◌, arith, length, get_or, refl, rules}
use Rattle.std.proofs.lemmas.List.{length-map}
use Rattle.sx_desk.proofs.Recorded.{recorded}
use Rattle.sx_desk.proofs.Rows.{replaced_same, replaced_others}
use Rattle.sx_desk.specs.Desk.{Reads, ToldRead, ShownRead}
use Rattle.sx_desk.specs.Files.{content_in}
use Rattle.sx_desk.specs.Pieces.{IsPiece}
use Rattle.sx_desk.specs.Opened.{names_of_opened, taken_of, marks_of}
use Rattle.sx_desk.specs.History.{tells, opened_names, asked_names, written_to, source_of, seen_by, padded, KeepsOutputs}
use Rattle.sx_desk.specs.declared.desk.Out.{Out}
use Rattle.sx_desk.specs.declared.desk.Out.TheVariants as out
use Rattle.sx_desk.specs.declared.files.MemFile.{MemFile}
use Rattle.sx_desk.specs.declared.history.CallHistory.{CallHistory}

-- what recording the mark ensures
pub record Marked (file : ℕ) (old new : CallHistory) : Type 0 where
  pub given : file < length (opened_names old)
  pub known : IsTrue (tells new) → IsTrue (tells old)
  pub opened : new.opened ≡ old.opened
  pub names : names_of_opened new.files.items ≡ names_of_opened old.files.items
  pub taken : taken_of new.files.items ≡ taken_of old.files.items
  pub marks : IsTrue (tells new) → marks_of new.files.items ≡ set (marks_of old.files.items) file
      (get_or (marks_of old.files.items) file [] ++ (get_or (taken_of old.files.items) file 0, length old.result.items) ∷ [])
  pub asked : asked_names new ≡ asked_names old
  pub outputs : KeepsOutputs old new

-- what taking the bytes ensures
pub record Taken (files : List MemFile) (file : ℕ) (buf : List ℕ) (n : ℕ) (old new : CallHistory) : Type 0 where
  pub piece : IsPiece (source_of files old file) (get_or (taken_of old.files.items) file 0) buf n
  pub opened : new.opened ≡ old.opened
  pub known : tells new ≡ tells old
  pub names : names_of_opened new.files.items ≡ names_of_opened old.files.items
  pub taken : taken_of new.files.items ≡ set (taken_of old.files.items) file (get_or (taken_of old.files.items) file 0 + n)
  pub marks : marks_of new.files.items ≡ marks_of old.files.items
  pub asked : asked_names new ≡ asked_names old
  pub outputs : KeepsOutputs old new

same_written : (h₀ h₁ : CallHistory) → KeepsOutputs h₀ h₁ → (o : Out) → written_to h₁ o ≡ written_to h₀ o
same_written h₀ h₁ k out.Result = k.result
same_written h₀ h₁ k out.Diagnostic = k.diagnostic

same_names : (h₀ h₁ : CallHistory) → h₁.opened ≡ h₀.opened → names_of_opened h₁.files.items ≡ names_of_opened h₀.files.items → opened_names h₁ ≡ opened_names h₀
same_names h₀ h₁ e f = ap₂ padded f e

same_piece : (b b' : List ℕ) (k k' : ℕ) (buf : List ℕ) (n : ℕ) → b ≡ b' → k ≡ k' → IsPiece b k buf n → IsPiece b' k' buf n
same_piece b b' k k' buf n e f p = subst (λ (x : List ℕ). IsPiece x k' buf n) e (subst (λ (x : ℕ). IsPiece b x buf n) f p)

module _ (files : List MemFile) (content : List ℕ → Option (List ℕ))
    (same : (name : Option (List ℕ)) → unwrap_or (option_and_then content name) [] ≡ unwrap_or (option_and_then (content_in files) name) [])
    (file n : ℕ) (buf : List ℕ) (h₀ h₁ h₂ : CallHistory) (m : Marked file h₀ h₁) (t : Taken files file buf n h₁ h₂)
    (opens reads : ℕ) (writes : Out → ℕ) where
  told_before : IsTrue (tells h₂) → tells h₁ ≡ true
  told_before e = sym t.known ∙ e

  known : IsTrue (tells h₂) → IsTrue (tells h₀)
  known e = m.known (told_before e)

  names : opened_names h₂ ≡ opened_names h₀
  names = same_names h₁ h₂ t.opened t.names ∙ same_names h₀ h₁ m.opened m.names

  source : IsTrue (tells h₂) → source_of files h₁ file ≡ unwrap_or (option_and_then content (slice_get (opened_names h₀) file)) []
  source e =
      let e₁ = told_before e in
      rw e₁ (ap (λ (ns : List (List ℕ)). unwrap_or (option_and_then (content_in files) (slice_get ns file)) []) (same_names h₀ h₁ m.opened m.names)
      ∙ sym (same (slice_get (opened_names h₀) file)))

  same_taken : (f : ℕ) → get_or (taken_of h₁.files.items) f 0 ≡ get_or (taken_of h₀.files.items) f 0
  same_taken f = ap (λ (ts : List ℕ). get_or ts f 0) m.taken

  within : IsTrue (tells h₂) → file < length h₀.files.items
  within e = omega (arith, m.given, recorded h₀ (known e))

  told_read : IsTrue (tells h₂) → ToldRead file (seen_by content h₀ opens reads writes) (seen_by content h₂ opens reads writes) buf (Ok n)
  told_read e =
      let piece = same_piece _ _ _ _ buf n (source e) (same_taken file) t.piece in
      let here : file < length (taken_of h₁.files.items) = omega (arith, within e, length-map h₀.files.items (λ f. f.taken), ap length m.taken) in
      record {
        content = λ name. refl;
        opened = names;
        asked = t.asked ∙ m.asked;
        next = record {
          taken = replaced_same (taken_of h₁.files.items) (taken_of h₂.files.items) _ 0 file t.taken here ∙ ap (λ k. k + n) (same_taken file);
          within = piece.within;
          bytes = piece.copied;
          end = piece.end;
        };
        nothing = search rules;
        others = λ f other. replaced_others (taken_of h₁.files.items) (taken_of h₂.files.items) _ 0 file t.taken f other ∙ same_taken f;
        written_length = λ o. ap length (same_written h₁ h₂ t.outputs o ∙ same_written h₀ h₁ m.outputs o);
      }

  shown_read : IsTrue (tells h₂) → ShownRead file (seen_by content h₀ opens reads writes) (seen_by content h₂ opens reads writes)
  shown_read e =
      let marks = t.marks ∙ m.marks (told_before e) in
      let here : file < length (marks_of h₀.files.items) = omega (arith, within e, length-map h₀.files.items (λ f. f.marks)) in
      record {
        marked = replaced_same (marks_of h₀.files.items) (marks_of h₂.files.items) _ [] file marks here;
        others = λ f other. replaced_others (marks_of h₀.files.items) (marks_of h₂.files.items) _ [] file marks f other;
        written = λ o. same_written h₁ h₂ t.outputs o ∙ same_written h₀ h₁ m.outputs o;
      }

  pub read_done : n ≤ length buf → Reads file (seen_by content h₀ opens reads writes) (seen_by content h₂ opens reads writes) buf (Ok n)
  read_done at_most = record {
    known = record { told = known; shown = known };
    at_most = at_most;
    count = ap length names;
    cause = record { later = omega arith; failed = search rules };
    open_faults = refl;
    write_faults = λ o. refl;
    told = told_read;
    shown = λ e _. shown_read e;
  }
