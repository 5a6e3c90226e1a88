-- The files that a desk in memory has opened.
use Rattle.std.specs.Prelude.{ℕ, List, map, string_bytes, Option}
use Rattle.sx_desk.specs.declared.opened.OpenedFile.{OpenedFile}

-- their names
abbrev pub names_of_opened : List OpenedFile → List (List ℕ)
names_of_opened = map (λ file. string_bytes file.name)

-- their places among the files of the desk, when they were opened
abbrev pub places_of : List OpenedFile → List (Option ℕ)
places_of = map (λ file. file.place)

-- how many bytes of each were taken
abbrev pub taken_of : List OpenedFile → List ℕ
taken_of = map (λ file. file.taken)

-- the marks of each
abbrev pub marks_of : List OpenedFile → List (List (ℕ × ℕ))
marks_of = map (λ file. file.marks)
