-- Where the result of a stylesheet ends, and how it grows.
use Rattle.std.proofs.Common.{◌≡◌, ◌≢◌, ℕ, true, false, List, ◌++◌, Option, Some, None}
use Rattle.sx_atoms.specs.declared.error_codes.Code.{Code}
use Rattle.sx_kinds.specs.declared.sheets.Sheet.{Sheet}
use Rattle.sx_named.specs.Named.{NamedElement}
use Rattle.sx_tree.specs.Tree.{TreeEvent, tree_of}
use Rattle.sx_build.specs.Build.{error_of}
use Rattle.sx_machine.specs.Body.{culprit}
use Rattle.sx_machine.specs.Choice.{chosen_for}
use Rattle.sx_machine.specs.Run.{Ending, done, waits, stops, ending_with}
use Rattle.sx_machine.specs.Meaning.{is_copying_first, meaning_on, result_for}
use Rattle.sx_machine.specs.Growth.{MayAllCome, IsGrown}
use Rattle.sx_machine.proofs.Outs.{GoingAt, SettledAt}
use Rattle.sx_machine.proofs.Bodies.{IsGood, good_chosen}
use Rattle.sx_machine.proofs.Growths.{result_grown, on_all, open_going, closed_settled}
use Rattle.sx_names.specs.Numbering.{NameTable}

pub going_end : (found : Option Code) (g : Ending) → GoingAt g → ending_with found g ≡ done → ⊥
going_end (Some c) g h e = absurd (cc)
going_end None done h e = h
going_end None waits h e = absurd (cc)
going_end None (stops c) h e = absurd (cc)

settled_end : (found : Option Code) (g : Ending) → SettledAt g → ending_with found g ≡ waits → ⊥
settled_end (Some c) g h e = absurd (cc)
settled_end None done h e = absurd (cc)
settled_end None waits h e = h
settled_end None (stops c) h e = absurd (cc)

module _ (sheet : Sheet) (streamable : culprit sheet.templates ≡ None) (names : NameTable) (invocations : ℕ) where
  pub all_good : (e : NamedElement) → IsGood (chosen_for names (is_copying_first sheet.modes) sheet.templates e)
  all_good e = good_chosen names (is_copying_first sheet.modes) e sheet.templates streamable

  -- more only adds
  pub grown : (p more : List (TreeEvent NamedElement)) → MayAllCome p more → IsGrown (result_for sheet names invocations p) (result_for sheet names invocations (p ++ more))
  grown p more may =
      result_grown (meaning_on sheet names invocations (tree_of p)) (meaning_on sheet names invocations (tree_of (p ++ more)))
      (on_all (is_copying_first sheet.modes) (chosen_for names (is_copying_first sheet.modes) sheet.templates) all_good invocations p more may)

  -- while the document is open the result is not whole
  pub open_not_done : (p : List (TreeEvent NamedElement)) → (tree_of p).is_open ≡ true → (result_for sheet names invocations p).ending ≢ done
  open_not_done p o =
      going_end (error_of (meaning_on sheet names invocations (tree_of p)).raw) (meaning_on sheet names invocations (tree_of p)).ending
      (open_going (is_copying_first sheet.modes) (chosen_for names (is_copying_first sheet.modes) sheet.templates) all_good invocations (tree_of p) o)

  -- once the document is closed the result waits for nothing
  pub closed_not_waiting : (p : List (TreeEvent NamedElement)) → (tree_of p).is_open ≡ false → (result_for sheet names invocations p).ending ≢ waits
  closed_not_waiting p o =
      settled_end (error_of (meaning_on sheet names invocations (tree_of p)).raw) (meaning_on sheet names invocations (tree_of p)).ending
      (closed_settled (is_copying_first sheet.modes) (chosen_for names (is_copying_first sheet.modes) sheet.templates) all_good invocations (tree_of p) o)
