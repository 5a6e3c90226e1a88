-- The events of bytes as a tree knows them, and their tree.
use Rattle.std.proofs.Common.{◌≡◌, List, [], ◌∷◌, ◌++◌, ap, ◌∙◌, subst}
use Rattle.std.proofs.lemmas.List.{map-append}
use Rattle.sx_named.specs.Named.{ElementStart, NamedElement, started, in_tree, all_in_tree}
use Rattle.sx_tree.proofs.Mapping.{tree_of-map, has_open-map, may_follow-map}
use Rattle.sx_tree.specs.Tree.{TreeEvent, Document, has_open, tree_of}
use Rattle.sx_events.specs.Laws.{AllFollow}

pub follow_in_tree : (p hs : List (TreeEvent ElementStart)) → AllFollow p hs → AllFollow (all_in_tree p) (all_in_tree hs)
follow_in_tree p [] f = tt
follow_in_tree p (h ∷ hs) f = (
  may_follow-map started p h f.0,
  subst (λ (front : List (TreeEvent NamedElement)). AllFollow front (all_in_tree hs)) (map-append in_tree p (h ∷ [])) (follow_in_tree (p ++ h ∷ []) hs f.1),
)

-- the document is open where that of the events as they are read is
pub open_in_tree : (p : List (TreeEvent ElementStart)) → (tree_of (all_in_tree p)).is_open ≡ (tree_of p).is_open
open_in_tree p = ap (λ (d : Document NamedElement). d.is_open) (tree_of-map started p)

-- and so is an element
pub has_open_in_tree : (p : List (TreeEvent ElementStart)) → has_open (tree_of (all_in_tree p)).content ≡ has_open (tree_of p).content
has_open_in_tree p = ap (λ (d : Document NamedElement). has_open d.content) (tree_of-map started p) ∙ has_open-map started (tree_of p).content
