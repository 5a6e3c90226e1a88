-- The names of the opened files, and the bytes of each.
use Rattle.std.proofs.Common.{◌≡◌, ℕ, Bool, true, false, ◌&&◌, nat_eq, List, [], ◌∷◌, ◌++◌, ap₂, replicate, Some, option_and_then, unwrap_or, sym, ap, ◌∙◌, arith, slice_get, length, refl, string_bytes, length-append}
use Rattle.std.proofs.lemmas.Bool.Decides.{nat_tests}
use Rattle.std.proofs.lemmas.List.{take_at, length-map, length-take, length-replicate}
use Rattle.sx_desk.proofs.Places.{content_by_place}
use Rattle.sx_desk.specs.Files.{file_place, bytes_in}
use Rattle.sx_desk.specs.History.{padded, opened_names, tells, source_of, KeepsFiles}
use Rattle.sx_desk.specs.Opened.{names_of_opened}
use Rattle.sx_desk.specs.declared.files.MemFile.{MemFile}
use Rattle.sx_desk.specs.declared.opened.OpenedFile.{OpenedFile}
use Rattle.sx_desk.specs.declared.history.CallHistory.{CallHistory}

pub padded_length : (names : List (List ℕ)) (count : ℕ) → length (padded names count) ≡ count
padded_length names count =
    omega (arith, length-take count (names ++ replicate count []), length-append names (replicate {A = List ℕ} count []), length-replicate {A = List ℕ} count [])

-- there is a name for each opened file
pub opened_length : (h : CallHistory) → length (opened_names h) ≡ h.opened
opened_length h = padded_length (names_of_opened h.files.items) h.opened

same_count : (complete : Bool) (m n : ℕ) → complete && nat_eq m n ≡ true → m ≡ n
same_count true m n e = grind (arith, nat_tests)
same_count false m n e = cc

-- where every call was recorded, these are the names of the records
pub opened_told : (h : CallHistory) → tells h ≡ true → opened_names h ≡ names_of_opened h.files.items
opened_told h e =
    let same = same_count h.complete h.opened (length h.files.items) e in
    take_at (names_of_opened h.files.items) (replicate h.opened []) h.opened (length-map h.files.items (λ file. string_bytes file.name) ∙ sym same)

-- and a file is read by its name
pub source_told : (files : List MemFile) (h : CallHistory) (at : ℕ) (name : List ℕ) → tells h ≡ true → slice_get (names_of_opened h.files.items) at ≡ Some name
    → unwrap_or (option_and_then (bytes_in files) (file_place files name)) [] ≡ source_of files h at
source_told files h at name e is =
    let here : slice_get (opened_names h) at ≡ Some name = ap (λ (names : List (List ℕ)). slice_get names at) (opened_told h e) ∙ is in
    rw (e, here, content_by_place) refl

-- there is a record for each opened file
pub recorded : (h : CallHistory) → tells h ≡ true → length h.files.items ≡ length (opened_names h)
recorded h e = sym (same_count h.complete h.opened (length h.files.items) e) ∙ sym (opened_length h)

-- a name was added
pub opened_more : (h₀ h₁ h₂ : CallHistory) (name : List ℕ) → tells h₁ ≡ true → tells h₂ ≡ true → KeepsFiles h₀ h₁ → names_of_opened h₂.files.items ≡ names_of_opened h₁.files.items ++ name ∷ []
    → opened_names h₂ ≡ opened_names h₀ ++ name ∷ []
opened_more h₀ h₁ h₂ name e f same more =
    opened_told h₂ f ∙ more ∙ ap (λ (names : List (List ℕ)). names ++ name ∷ []) (sym (opened_told h₁ e) ∙ ap₂ (λ (files : List OpenedFile) (count : ℕ). padded (names_of_opened files) count) same.files same.opened)
