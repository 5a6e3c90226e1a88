-- The open tree of a list of events (XDM 3.1, 6).
use Rattle.std.specs.Prelude.{ℕ, Bool, true, false, List, [], ◌∷◌, if◌then◌else◌}

-- What happens in a document, where E says what is known of an element at its start: an element starts, the innermost
-- open one ends, a text, a processing instruction with its target and content, and the good end of the input.
pub data TreeEvent (E : Type 0) : Type 0 where
  starts : E → TreeEvent E
  ends : TreeEvent E
  says : List ℕ → TreeEvent E
  instructs : List ℕ → List ℕ → TreeEvent E
  closes : TreeEvent E

-- Nodes beside each other: a text, a processing instruction, or an element with what is known of it, whether it is
-- open, and its children; then those that follow. What follows an open element means nothing.
pub data Forest (E : Type 0) : Type 0 where
  none : Forest E
  text : List ℕ → Forest E → Forest E
  instruction : List ℕ → List ℕ → Forest E → Forest E
  element : E → Bool → Forest E → Forest E → Forest E

-- a document node with its children; it is open until the input has ended well
pub record Document (E : Type 0) : Type 0 where
  pub content : Forest E
  pub is_open : Bool

-- whether an element is open
abbrev pub has_open : {E : Type 0} → Forest E → Bool
has_open none = false
has_open (text s rest) = has_open rest
has_open (instruction t c rest) = has_open rest
has_open (element e true kids rest) = true
has_open (element e false kids rest) = has_open rest

-- the open elements, the outermost first
abbrev pub open_elements : {E : Type 0} → Forest E → List E
open_elements none = []
open_elements (text s rest) = open_elements rest
open_elements (instruction t c rest) = open_elements rest
open_elements (element e true kids rest) = e ∷ open_elements kids
open_elements (element e false kids rest) = open_elements rest

-- whether an element stands among these nodes
abbrev pub has_element : {E : Type 0} → Forest E → Bool
has_element none = false
has_element (text s rest) = has_element rest
has_element (instruction t c rest) = has_element rest
has_element (element e is_open kids rest) = true

-- the node that begins
abbrev pub first_node : {E : Type 0} → TreeEvent E → Forest E
first_node (starts e) = element e true none none
first_node ends = none
first_node (says s) = text s none
first_node (instructs t c) = instruction t c none
first_node closes = none

-- the innermost open element ends
abbrev pub push_end : {E : Type 0} → Forest E → Forest E
push_end none = none
push_end (text s rest) = text s (push_end rest)
push_end (instruction t c rest) = instruction t c (push_end rest)
push_end (element e true kids rest) = if has_open kids then element e true (push_end kids) none else element e false kids none
push_end (element e false kids rest) = element e false kids (push_end rest)

-- a node begins in the innermost open element, or behind all where none is open
abbrev pub push_node : {E : Type 0} → Forest E → Forest E → Forest E
push_node none node = node
push_node (text s rest) node = text s (push_node rest node)
push_node (instruction t c rest) node = instruction t c (push_node rest node)
push_node (element e true kids rest) node = element e true (push_node kids node) none
push_node (element e false kids rest) node = element e false kids (push_node rest node)

-- the document after what happens next
abbrev pub push : {E : Type 0} → Document E → TreeEvent E → Document E
push d ends = record { content = push_end d.content; is_open = d.is_open }
push d closes = record { content = d.content; is_open = false }
push d (starts e) = record { content = push_node d.content (first_node (starts e)); is_open = d.is_open }
push d (says s) = record { content = push_node d.content (first_node (says s)); is_open = d.is_open }
push d (instructs t c) = record { content = push_node d.content (first_node (instructs t c)); is_open = d.is_open }

-- the document of which nothing has come
abbrev pub empty_document : {E : Type 0} → Document E
empty_document = record { content = none; is_open = true }

abbrev pub push_all : {E : Type 0} → Document E → List (TreeEvent E) → Document E
push_all d [] = d
push_all d (h ∷ hs) = push_all (push d h) hs

-- the document of all that has happened
abbrev pub tree_of : {E : Type 0} → List (TreeEvent E) → Document E
tree_of p = push_all empty_document p
