-- The file of a name, by its place.
use Rattle.std.proofs.Common.{◌≡◌, ℕ, ◌<◌, ◌≤◌, Bool, true, false, cond, nat_lt, List, Option, Some, None, option_map, option_and_then, is_some, is_none, IsSome, sym, ap, ◌∙◌, arith, length, refl, inl, inr}
use Rattle.std.specs.List.{position_or_len}
use Rattle.std.proofs.lemmas.Bool.Decides.{nat_tests}
use Rattle.std.proofs.lemmas.Bool.{false≢true}
use Rattle.std.proofs.lemmas.List.Folds.{find_at}
use Rattle.std.proofs.lemmas.Option.{slice_get_past, slice_get_cases, cond_some}
use Rattle.sx_desk.specs.Files.{is_file_named, file_place, bytes_in, content_in}
use Rattle.sx_desk.specs.declared.files.MemFile.{MemFile}

past : (a b : ℕ) → nat_lt a b ≡ false → b ≤ a
past a b e = grind (arith, nat_tests)

below : (a b : ℕ) → nat_lt a b ≡ true → a < b
below a b e = grind (arith, nat_tests)

at_place : (files : List MemFile) (place : ℕ) (b : Bool) → nat_lt place (length files) ≡ b → option_and_then (bytes_in files) (cond b (Some place) None) ≡ bytes_in files place
at_place files place true e = refl
at_place files place false e = sym (ap (option_map (λ (file : MemFile). file.bytes.items)) (slice_get_past files place (past place (length files) e)))

-- the content of a name is that of the file at its place
pub content_by_place : (files : List MemFile) (name : List ℕ) → option_and_then (bytes_in files) (file_place files name) ≡ content_in files name
content_by_place files name =
    at_place files (position_or_len (is_file_named name) files) (nat_lt (position_or_len (is_file_named name) files) (length files)) refl
    ∙ sym (ap (option_map (λ (file : MemFile). file.bytes.items)) (find_at (is_file_named name) files))

has_bytes : (files : List MemFile) (place : ℕ) → place < length files → is_some (bytes_in files place) ≡ true
has_bytes files place within =
    elim (slice_get_cases files place).1 [
      | inl w ↦ ap (λ (o : Option MemFile). is_some (option_map (λ (file : MemFile). file.bytes.items) o)) w.2
      | inr w ↦ absurd (let past : length files ≤ place = w.0 in omega arith)
    ]

-- a name that has a place has content
pub placed_has_content : (files : List MemFile) (name : List ℕ) (place : ℕ) → file_place files name ≡ Some place → IsSome (content_in files name)
placed_has_content files name place e =
    let p = cond_some (nat_lt (position_or_len (is_file_named name) files) (length files)) (position_or_len (is_file_named name) files) place e in
    let within : position_or_len (is_file_named name) files < length files = below _ _ p.0 in
    let here : place < length files = omega (arith, p.1, within) in
    ap is_some (sym (content_by_place files name) ∙ ap (option_and_then (bytes_in files)) e) ∙ has_bytes files place here

-- and one that has none has no content
pub unplaced_has_none : (files : List MemFile) (name : List ℕ) → file_place files name ≡ None → is_none (content_in files name) ≡ true
unplaced_has_none files name e = ap is_none (sym (content_by_place files name) ∙ ap (option_and_then (bytes_in files)) e)

something : {A : Type 0} (o : Option A) → is_some o ≡ true → is_none o ≡ false
something (Some x) e = refl
something None e = absurd (false≢true e)

pub placed_is_known : (files : List MemFile) (name : List ℕ) (place : ℕ) → file_place files name ≡ Some place → is_none (content_in files name) ≡ false
placed_is_known files name place e = something (content_in files name) (placed_has_content files name place e)
