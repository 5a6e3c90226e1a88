-- How a reader looks names up, and how far it comes.
use Rattle.std.specs.Prelude.{◌≡◌, ℕ, Bool, suc, List, [], ◌∷◌, drop, slice_get, slice_index_or, Option, Some, None, Result, Ok, Err, if◌then◌else◌}
use Rattle.sx_named.specs.Named.{Name}
use Rattle.sx_sheet.specs.declared.reading.LinedEvent.{LinedEvent}
use Rattle.sx_sheet.specs.declared.reader.Reader.{Reader}
use Rattle.sx_sheet.specs.Tokens.{Token, tokens_of, tokens_from}
use Rattle.sx_sheet.specs.Syntax.{tokens_in, lines_in}
use Rattle.sx_sheet.specs.Numbers.{line_at}
use Rattle.sx_sheet.specs.Machine.{SheetState, state_of_reader, next_state, is_last, first_state}
use Rattle.sx_names.specs.Numbering.{NameTable}

-- what is looked up has the number that the table gives it
abbrev pub GivesNumbers : NameTable → (Name → Option ℕ) → Type 0
GivesNumbers names look = (n : ℕ) (name : Name) → slice_get names n ≡ Some (name.uri, name.local) → look name ≡ Some n

module _ (lines : List ℕ) where
  -- and so on, or the line of the token at which the reader stops, of which so many stand in front
  abbrev pub goes_on_with : ℕ → Option SheetState → (SheetState → Result SheetState ℕ) → Result SheetState ℕ
  goes_on_with k None f = Err (slice_index_or lines k 0)
  goes_on_with k (Some s) f = f s

  -- what was read, where the stylesheet may end
  abbrev pub finish : ℕ → SheetState → Result SheetState ℕ
  finish k s = if is_last s.stage then Ok s else Err (slice_index_or lines k 0)

  -- what is read behind so many tokens, or the line of the one at which the reader stops
  abbrev pub course_through : (Name → Option ℕ) → SheetState → ℕ → List Token → Result SheetState ℕ
  course_through look s k [] = finish k s
  course_through look s k (t ∷ ts) = goes_on_with k (next_state look (line_at lines s.place) s t) (λ next. course_through look next (suc k) ts)

-- what a reader has read, which is so many tokens, or the line at which it stopped
abbrev pub course_from : ℕ → Result Reader ℕ → Result SheetState ℕ
course_from tokens (Ok r) = Ok (state_of_reader tokens r)
course_from tokens (Err line) = Err line

-- A reader comes so far with events: it reads on from so many tokens as it would from the first.
pub record ComesTo (known names : NameTable) (events rest : List LinedEvent) (in_text : Bool) (reader : Reader) : Type 0 where
  pub tokens : ℕ
  pub lines : drop tokens (lines_in (tokens_of known events)) ≡ lines_in (tokens_from known rest in_text)
  pub course : (look : Name → Option ℕ) → GivesNumbers names look →
      course_through (lines_in (tokens_of known events)) look (state_of_reader tokens reader) tokens (tokens_in (tokens_from known rest in_text))
      ≡ course_through (lines_in (tokens_of known events)) look first_state 0 (tokens_in (tokens_of known events))

-- What reading events comes to: the reader behind all their tokens, or the line at which it stopped.
pub record Results (known names : NameTable) (events : List LinedEvent) (result : Result Reader ℕ) : Type 0 where
  pub tokens : ℕ
  pub course : (look : Name → Option ℕ) → GivesNumbers names look →
      course_from tokens result ≡ course_through (lines_in (tokens_of known events)) look first_state 0 (tokens_in (tokens_of known events))
