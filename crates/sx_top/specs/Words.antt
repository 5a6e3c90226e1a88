-- What the words of the command line ask for.
use Rattle.std.specs.Prelude.{ℕ, List, [], ◌∷◌, Option, Some, None, bytes_eq, codes, if◌then◌else◌}
use Rattle.sx_top.specs.declared.words.Command.{Command}
use Rattle.sx_top.specs.declared.words.Command.TheVariants as command

-- a copy of the document of a name; or a run of the stylesheet of a name on the document of a name
pub data Requested : Type 0 where
  copies : List ℕ → Requested
  runs : List ℕ → List ℕ → Requested

-- what a command asks for
abbrev pub requested_of : Command → Requested
requested_of (command.Copy document) = copies document.now
requested_of (command.Run sheet document) = runs sheet.now document.now

-- The words `copy` and a name ask for a copy, and `run` and two names for a run. There is no other command.
abbrev pub requested : List (List ℕ) → Option Requested
requested [] = None
requested (word ∷ []) = None
requested (word ∷ document ∷ []) = if bytes_eq word (codes "copy") then Some (copies document) else None
requested (word ∷ sheet ∷ document ∷ []) = if bytes_eq word (codes "run") then Some (runs sheet document) else None
requested (word ∷ sheet ∷ document ∷ more ∷ words) = None
