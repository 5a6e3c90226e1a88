-- What the definitions come to.
use Rattle.std.specs.Prelude.{◌≡◌, ℕ, Bool, false, List, [], ◌∷◌, ◌++◌, Some}
use Rattle.sx_tree.specs.Events.{MayFollow}
use Rattle.sx_named.specs.Named.{NamedElement, all_in_tree}
use Rattle.sx_tree.specs.Tree.{TreeEvent, Document, tree_of}
use Rattle.sx_events.specs.Course.{Lined, whats, events_of, break_of}
use Rattle.sx_limits.specs.declared.faults.DocFault.{DocFault}
use Rattle.sx_limits.specs.declared.limits.Limits.{Limits}

-- the events of bytes, as a document_tree knows them
abbrev pub tree_events_of : Limits → List ℕ → Bool → List (TreeEvent NamedElement)
tree_events_of limits b ended = all_in_tree (whats (events_of limits b ended))

-- the document_tree of the events of bytes
abbrev pub document_tree : Limits → List ℕ → Bool → Document NamedElement
document_tree limits b ended = tree_of (tree_events_of limits b ended)

-- each of these may follow those before it
abbrev pub AllFollow : {E : Type 0} → List (TreeEvent E) → List (TreeEvent E) → Type 0
AllFollow p [] = Unit {0}
AllFollow p (h ∷ hs) = MayFollow p h × AllFollow (p ++ h ∷ []) hs

-- More bytes only add events.
pub record EventsGrow (limits : Limits) (b d : List ℕ) (ended : Bool) : Type 0 where
  pub more : List Lined
  pub events : events_of limits (b ++ d) ended ≡ events_of limits b false ++ more
  pub read : whats (events_of limits (b ++ d) ended) ≡ whats (events_of limits b false) ++ whats more
  pub in_tree : tree_events_of limits (b ++ d) ended ≡ tree_events_of limits b false ++ all_in_tree (whats more)

-- Bytes that are broken off stay so, with the same events.
pub record StaysBroken (limits : Limits) (b d : List ℕ) (ended : Bool) (fault : DocFault) : Type 0 where
  pub stays : break_of limits (b ++ d) ended ≡ Some fault
  pub events : events_of limits (b ++ d) ended ≡ events_of limits b false
