-- The files that a desk in memory can open.
use Rattle.std.specs.Prelude.{ℕ, Bool, List, bytes_eq, string_bytes, find, position, slice_get, option_map, Option}
use Rattle.sx_desk.specs.declared.files.MemFile.{MemFile}

-- whether a file has this name
abbrev pub is_file_named : List ℕ → MemFile → Bool
is_file_named name file = bytes_eq (string_bytes file.name) name

-- the place of the first file of a name
abbrev pub file_place : List MemFile → List ℕ → Option ℕ
file_place files name = position (is_file_named name) files

-- the bytes of the file at a place
abbrev pub bytes_in : List MemFile → ℕ → Option (List ℕ)
bytes_in files place = option_map (λ file. file.bytes.items) (slice_get files place)

-- the bytes of the first file of a name
abbrev pub content_in : List MemFile → List ℕ → Option (List ℕ)
content_in files name = option_map (λ file. file.bytes.items) (find (is_file_named name) files)
