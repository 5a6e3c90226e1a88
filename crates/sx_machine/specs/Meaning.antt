-- The meaning of a stylesheet on an open tree (XSLT 3.0, 2.3 and 6).
use Rattle.std.specs.Prelude.{◌≡◌, ℕ, Bool, true, false, List, [], ◌∷◌, length, None, ◌⊎◌}
use Rattle.sx_kinds.specs.declared.sheets.Mode.{Mode}
use Rattle.sx_kinds.specs.declared.sheets.OnNoMatch.{OnNoMatch}
use Rattle.sx_kinds.specs.declared.sheets.OnNoMatch.TheVariants as unmatched
use Rattle.sx_kinds.specs.declared.sheets.Sheet.{Sheet}
use Rattle.sx_tree.specs.Tree.{Document, TreeEvent, tree_of}
use Rattle.sx_named.specs.Named.{NamedElement}
use Rattle.sx_machine.specs.Body.{culprit, AreKnown}
use Rattle.sx_machine.specs.Choice.{chosen_for}
use Rattle.sx_machine.specs.Run.{Output, Result, meaning, result_of}
use Rattle.sx_names.specs.Numbering.{NameTable}

-- the one mode of a thin stylesheet: unnamed, declared, streamable
abbrev pub thin_mode : OnNoMatch → Mode
thin_mode no_match = record { name = None; declared = true; streamable = true; no_match = no_match }

-- nodes that no template matches are copied
abbrev pub is_copying : OnNoMatch → Bool
is_copying unmatched.DeepCopy = false
is_copying unmatched.ShallowCopy = true
is_copying unmatched.DeepSkip = false
is_copying unmatched.ShallowSkip = false
is_copying unmatched.TextOnlyCopy = false
is_copying unmatched.Fail = false

-- whether the first of these modes copies nodes that no template matches
abbrev pub is_copying_first : List Mode → Bool
is_copying_first [] = false
is_copying_first (m ∷ ms) = is_copying m.no_match

-- It has the unnamed mode alone, which is declared and streamable and passes on the text of nodes that no template matches, or
-- copies them; it can be streamed; and the names have the numbers of its names.
pub record IsReady (sheet : Sheet) (names : NameTable) : Type 0 where
  pub mode : (sheet.modes ≡ thin_mode unmatched.TextOnlyCopy ∷ []) ⊎ (sheet.modes ≡ thin_mode unmatched.ShallowCopy ∷ [])
  pub streamable : culprit sheet.templates ≡ None
  pub known : AreKnown (length names) sheet.templates

-- what the stylesheet asks for on an open tree, where so many invocations may be open
abbrev pub meaning_on : Sheet → NameTable → ℕ → Document NamedElement → Output
meaning_on sheet names invocations d =
    meaning (is_copying_first sheet.modes) (chosen_for names (is_copying_first sheet.modes) sheet.templates) invocations d

-- the result of the stylesheet on the open tree of what has happened
abbrev pub result_for : Sheet → NameTable → ℕ → List (TreeEvent NamedElement) → Result
result_for sheet names invocations p = result_of (meaning_on sheet names invocations (tree_of p))
