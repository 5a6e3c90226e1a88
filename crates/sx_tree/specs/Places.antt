-- A tree as the list of its nodes in document order, each with its depth (XDM 3.1, 2.4 and 6).
use Rattle.std.specs.Prelude.{ℕ, suc, ◌-◌, true, false, List, [], ◌∷◌, ◌++◌, if◌then◌else◌}
use Rattle.sx_tree.specs.declared.events.Attr.{Attr}
use Rattle.sx_tree.specs.Events.{Element}
use Rattle.sx_tree.specs.Tree as forest
use Rattle.sx_tree.specs.Tree.{TreeEvent, starts, ends, says, instructs, closes, Forest, none, Document}

-- What a node is, but for its place: the document node; an element with its attributes; an attribute without an element,
-- as a copy of one is; a text; or a processing instruction, with its target and its content.
pub data Content : Type 0 where
  document : Content
  element : Element → Content
  attribute : Attr → Content
  text : List ℕ → Content
  instruction : List ℕ → List ℕ → Content

-- a node: what it is, and how many nodes it stands in
pub record Entry : Type 0 where
  pub content : Content
  pub depth : ℕ

abbrev pub entry : Content → ℕ → Entry
entry content depth = record { content = content; depth = depth }

-- The nodes but the attributes of elements, in document order; and how many of them are open: the last one of each depth
-- below that number.
pub record Places : Type 0 where
  pub entries : List Entry
  pub level : ℕ

-- the document node, which is open
abbrev pub first_places : Places
first_places = record { entries = entry document 0 ∷ []; level = 1 }

-- a node begins in the innermost open one
abbrev pub with_node : Places → Content → ℕ → Places
with_node t content level = record { entries = t.entries ++ entry content t.level ∷ []; level = level }

-- the innermost open node ends
abbrev pub without_innermost : Places → Places
without_innermost t = record { entries = t.entries; level = t.level - 1 }

-- the nodes after what happens next
abbrev pub put_event : Places → TreeEvent Element → Places
put_event t (starts e) = with_node t (element e) (suc t.level)
put_event t ends = without_innermost t
put_event t (says s) = with_node t (text s) t.level
put_event t (instructs target content) = with_node t (instruction target content) t.level
put_event t closes = without_innermost t

abbrev pub put_events : Places → List (TreeEvent Element) → Places
put_events t [] = t
put_events t (h ∷ hs) = put_events (put_event t h) hs

-- the nodes of all that has happened
abbrev pub places_of : List (TreeEvent Element) → Places
places_of p = put_events first_places p

-- ---- the same of a forest

-- the nodes of a forest whose own nodes have this depth
abbrev pub entries_of : ℕ → Forest Element → List Entry
entries_of d none = []
entries_of d (forest.text s rest) = entry (text s) d ∷ entries_of d rest
entries_of d (forest.instruction target content rest) = entry (instruction target content) d ∷ entries_of d rest
entries_of d (forest.element e true kids rest) = entry (element e) d ∷ entries_of (suc d) kids
entries_of d (forest.element e false kids rest) = entry (element e) d ∷ entries_of (suc d) kids ++ entries_of d rest

-- how many elements are open
abbrev pub open_count : Forest Element → ℕ
open_count none = 0
open_count (forest.text s rest) = open_count rest
open_count (forest.instruction target content rest) = open_count rest
open_count (forest.element e true kids rest) = suc (open_count kids)
open_count (forest.element e false kids rest) = open_count rest

-- the nodes of a document
abbrev pub listed : Document Element → Places
listed d = record {
  entries = entry document 0 ∷ entries_of 1 d.content;
  level = if d.is_open then suc (open_count d.content) else 0;
}
