use Rattle.std.proofs.Common.{◌≡◌, ◌≢◌, Option, Some, None, is_some, true, false, inl, inr, refl, ap, ◌∙◌}
use Rattle.sx_named.specs.Named.{ElementStart}
use Rattle.sx_tree.specs.Tree.{Document}
use Rattle.sx_events.specs.Course.{break_of, events_of, whats}
use Rattle.sx_events.proofs.InTrees.{open_in_tree, has_open_in_tree}
use Rattle.sx_limits.specs.declared.faults.DocFault.{DocFault}
use Rattle.sx_events.proofs.Nests.{open_where, closed_where, none_open_where, broken_beyond}
use Rattle.sx_events.proofs.laws.ending.Goals as goal

not_none : (o : Option DocFault) → o ≢ None → is_some o ≡ true
not_none None h = absurd (h refl)
not_none (Some x) h = refl

pub returns-clause-closed : goal.returns-clause-closed
returns-clause-closed c = λ limits b sound. open_in_tree (whats (events_of limits b true))
    ∙ ap (λ (d : Document ElementStart). d.is_open) (closed_where limits b true (ap is_some sound) refl)

pub returns-clause-ended : goal.returns-clause-ended
returns-clause-ended c = λ limits b sound. has_open_in_tree (whats (events_of limits b true)) ∙ none_open_where limits b true (ap is_some sound) refl

pub returns-clause-going : goal.returns-clause-going
returns-clause-going c = λ limits b. open_in_tree (whats (events_of limits b false)) ∙ open_where limits b false (inr refl)

pub returns-clause-broken : goal.returns-clause-broken
returns-clause-broken c = λ limits b ended off. open_in_tree (whats (events_of limits b ended)) ∙ open_where limits b ended (inl (not_none (break_of limits b ended) off))

pub returns-clause-bytes : goal.returns-clause-bytes
returns-clause-bytes c = broken_beyond
