-- One event more.
use Rattle.std.proofs.Common.{◌≡◌, List, [], ◌∷◌, ◌++◌, ap, ◌∙◌, sym, subst, ℕ}
use Rattle.sx_named.specs.Named.{NamedElement}
use Rattle.sx_tree.specs.Tree.{Document, TreeEvent, push, tree_of}
use Rattle.sx_tree.proofs.Open.{tree_of-snoc}
use Rattle.sx_kinds.specs.declared.sheets.Sheet.{Sheet}
use Rattle.sx_machine.specs.declared.session.Session.{Session}
use Rattle.sx_machine.specs.Session.{StandsOn, Stands}
use Rattle.sx_names.specs.Numbering.{NameTable}

-- a session after one happening more
pub stands_more : (sheet : Sheet) (names : NameTable) (invocations : ℕ) (s : Session) (p : List (TreeEvent NamedElement)) (h g : TreeEvent NamedElement) (given : ℕ) → h ≡ g →
    StandsOn sheet names invocations s (push (tree_of p) g) given → Stands sheet names invocations s (p ++ h ∷ []) given
stands_more sheet names invocations s p h g given is stands =
    subst (λ (d : Document NamedElement). StandsOn sheet names invocations s d given) (sym (tree_of-snoc p h ∙ ap (push (tree_of p)) is)) stands
