-- What the definitions come to.
use Rattle.std.specs.Prelude.{◌≡◌, List, map}
use Rattle.sx_names.specs.Numbering.{NameTable}
use Rattle.sx_named.specs.Named.{named_element, named_in_tree}
use Rattle.sx_tree.specs.declared.events.Event.{Event}
use Rattle.sx_tree.specs.Events.{tree_events}
use Rattle.sx_tree.specs.Mapping.{map_document}
use Rattle.sx_tree.specs.Tree.{tree_of}

-- The tree of events with their names written out is their tree, with its names written out.
abbrev pub IsOneTree : NameTable → List Event → Type 0
IsOneTree names events = tree_of (map (named_in_tree names) events) ≡ map_document (named_element names) (tree_of (tree_events events))
