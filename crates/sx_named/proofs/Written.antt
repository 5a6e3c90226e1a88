-- Events and trees with their names written out.
use Rattle.std.proofs.Common.{◌≡◌, List, [], ◌∷◌, map, refl, ap, ap₂, ◌∙◌}
use Rattle.sx_names.specs.Numbering.{NameTable}
use Rattle.sx_named.specs.Laws.{IsOneTree}
use Rattle.sx_named.specs.Named.{NamedElement, named_element, named_in_tree}
use Rattle.sx_tree.proofs.Mapping.{tree_of-map}
use Rattle.sx_tree.specs.declared.events.Event.{Event}
use Rattle.sx_tree.specs.declared.events.Event.TheVariants as event
use Rattle.sx_tree.specs.Events.{tree_event, tree_events}
use Rattle.sx_tree.specs.Mapping.{map_event}
use Rattle.sx_tree.specs.Tree.{TreeEvent, tree_of}

module _ (names : NameTable) where
  written : (e : Event) → named_in_tree names e ≡ map_event (named_element names) (tree_event e)
  written (event.Start label attrs spaces) = refl
  written event.End = refl
  written (event.Text s) = refl
  written (event.Pi target content) = refl
  written event.Close = refl

  all_written : (events : List Event) → map (named_in_tree names) events ≡ map (map_event (named_element names)) (tree_events events)
  all_written [] = refl
  all_written (e ∷ events) = ap₂ (λ (h : TreeEvent NamedElement) (t : List (TreeEvent NamedElement)). h ∷ t) (written e) (all_written events)

  pub one_tree : (events : List Event) → IsOneTree names events
  one_tree events = ap (λ (p : List (TreeEvent NamedElement)). tree_of p) (all_written events) ∙ tree_of-map (named_element names) (tree_events events)
