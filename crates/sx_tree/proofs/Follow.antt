-- The last of what has happened.
use Rattle.std.proofs.Common.{◌≡◌, Bool, List, [], ◌∷◌, ◌++◌, refl}
use Rattle.std.proofs.lemmas.List.{map-append}
use Rattle.sx_tree.specs.declared.events.Event.{Event}
use Rattle.sx_tree.specs.Tree.{TreeEvent}
use Rattle.sx_tree.specs.Events.{tree_event, tree_events, is_text, last_is_text, is_behind_text}

module _ {E : Type 0} where
  last_is_text-snoc : (b : Bool) (p : List (TreeEvent E)) (h : TreeEvent E) → last_is_text b (p ++ h ∷ []) ≡ is_text h
  last_is_text-snoc b [] h = refl
  last_is_text-snoc b (g ∷ p) h = last_is_text-snoc (is_text g) p h

  pub ends_in_text-snoc : (p : List (TreeEvent E)) (h : TreeEvent E) → is_behind_text (p ++ h ∷ []) ≡ is_text h
  ends_in_text-snoc [] h = refl
  ends_in_text-snoc (g ∷ p) h = last_is_text-snoc (is_text g) p h

pub tree_events-snoc : (events : List Event) (e : Event) → tree_events (events ++ e ∷ []) ≡ tree_events events ++ tree_event e ∷ []
tree_events-snoc events e = map-append tree_event events (e ∷ [])
