-- What functions on texts make of lists of characters.
use Rattle.std.specs.Prelude.{ℕ, suc, ◌+◌, Bool, ◌==◌, nat_eq, if◌then◌else◌, List, [], ◌∷◌, ◌++◌, length, take, drop, slice_get, Option, Some, None, is_some}
use Rattle.std.specs.List.{starts_with, filter_map, position}
use Rattle.std.specs.Option.{option_map}
use Rattle.sx_atoms.specs.Lexical.{is_blank}

-- texts one separated_behind another, with a separator text_before each (XPath functions and operators 3.1, 5.4.2)
abbrev pub separated_behind : List ℕ → List (List ℕ) → List ℕ
separated_behind separator [] = []
separated_behind separator (x ∷ xs) = separator ++ (x ++ separated_behind separator xs)

-- texts one separated_behind another, with a separator between two (5.4.2)
abbrev pub joined_by : List ℕ → List (List ℕ) → List ℕ
joined_by separator [] = []
joined_by separator (x ∷ xs) = x ++ separated_behind separator xs

-- text_words, the first one of which begins with one more character (5.4.5)
abbrev pub longer : ℕ → List (List ℕ) → List (List ℕ)
longer c [] = (c ∷ []) ∷ []
longer c (word ∷ more) = (c ∷ word) ∷ more

-- the text_words of a text that begins with a character of a word, by what follows it and the text_words of that (5.4.5)
abbrev pub word_before : ℕ → List ℕ → List (List ℕ) → List (List ℕ)
word_before c [] more = (c ∷ []) ∷ more
word_before c (d ∷ cs) more = if is_blank d then (c ∷ []) ∷ more else longer c more

-- the text_words of a text: the longest runs of characters that are no white space (5.4.5)
abbrev pub text_words : List ℕ → List (List ℕ)
text_words [] = []
text_words (c ∷ cs) = if is_blank c then text_words cs else word_before c cs (text_words cs)

-- a text as its text_words with one space between two (5.4.5)
abbrev pub normalized : List ℕ → List ℕ
normalized s = joined_by (32 ∷ []) (text_words s)

-- the first place, counted from 0, at which t stands in s (5.5.4)
abbrev pub place_of_text : List ℕ → List ℕ → Option ℕ
place_of_text t [] = if starts_with nat_eq [] t then Some 0 else None
place_of_text t (c ∷ s) = if starts_with nat_eq (c ∷ s) t then Some 0 else option_map suc (place_of_text t s)

-- whether t stands in s (5.5.1)
abbrev pub is_within : List ℕ → List ℕ → Bool
is_within t s = is_some (place_of_text t s)

-- what stands text_before a place, and nothing where there is none (5.5.4)
abbrev pub part_before : List ℕ → Option ℕ → List ℕ
part_before s None = []
part_before s (Some i) = take i s

-- what stands separated_behind the n characters from a place on, and nothing where there is no place (5.5.5)
abbrev pub part_after : List ℕ → ℕ → Option ℕ → List ℕ
part_after s n None = []
part_after s n (Some i) = drop (i + n) s

-- what stands in s text_before the first place of t (5.5.4)
abbrev pub text_before : List ℕ → List ℕ → List ℕ
text_before s t = part_before s (place_of_text t s)

-- what stands in s separated_behind the first place of t (5.5.5)
abbrev pub text_after : List ℕ → List ℕ → List ℕ
text_after s t = part_after s (length t) (place_of_text t s)

-- what a character becomes by its place: the one of t there, if t has it; and itself where there is no place (5.4.9)
abbrev pub partner : ℕ → List ℕ → Option ℕ → Option ℕ
partner c t None = Some c
partner c t (Some i) = slice_get t i

-- each character of s as the one of t at its first place in m, or none where t has no such place (5.4.9)
abbrev pub translated : List ℕ → List ℕ → List ℕ → List ℕ
translated m t s = filter_map (λ c. partner c t (position (λ d. d == c) m)) s
