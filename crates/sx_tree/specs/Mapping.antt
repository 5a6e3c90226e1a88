-- Events and trees of which something else is known of each element.
use Rattle.sx_tree.specs.Tree.{TreeEvent, starts, ends, says, instructs, closes, Forest, none, text, instruction, element, Document}

module _ {E F : Type 0} (f : E → F) where
  -- the same event, with what f makes of what is known of an element
  abbrev pub map_event : TreeEvent E → TreeEvent F
  map_event (starts e) = starts (f e)
  map_event ends = ends
  map_event (says s) = says s
  map_event (instructs target content) = instructs target content
  map_event closes = closes

  -- the same nodes
  abbrev pub map_forest : Forest E → Forest F
  map_forest none = none
  map_forest (text s rest) = text s (map_forest rest)
  map_forest (instruction target content rest) = instruction target content (map_forest rest)
  map_forest (element e is_open kids rest) = element (f e) is_open (map_forest kids) (map_forest rest)

  -- the same document
  abbrev pub map_document : Document E → Document F
  map_document d = record { content = map_forest d.content; is_open = d.is_open }
