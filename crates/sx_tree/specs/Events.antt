-- What an event says of a document, and when it may follow others.
use Rattle.std.specs.Prelude.{◌≡◌, ◌≢◌, Bool, true, false, List, [], ◌∷◌, map}
use Rattle.sx_tree.specs.declared.events.Label.{Label}
use Rattle.sx_tree.specs.declared.events.Attr.{Attr}
use Rattle.sx_tree.specs.declared.events.Event.{Event}
use Rattle.sx_tree.specs.declared.events.Event.TheVariants as event
use Rattle.sx_tree.specs.Tree.{TreeEvent, starts, ends, says, instructs, closes, has_open, tree_of}

-- what is known of an element: its name and its attributes
pub record Element : Type 0 where
  pub label : Label
  pub attrs : List Attr

-- what happens in the document; its namespace declarations are no part of its tree
abbrev pub tree_event : Event → TreeEvent Element
tree_event (event.Start label attrs spaces) = starts (record { label = label; attrs = attrs })
tree_event event.End = ends
tree_event (event.Text s) = says s
tree_event (event.Pi target content) = instructs target content
tree_event event.Close = closes

-- what happens in turn
abbrev pub tree_events : List Event → List (TreeEvent Element)
tree_events events = map tree_event events

module _ {E : Type 0} where
  -- a text, and nothing else
  abbrev pub is_text : TreeEvent E → Bool
  is_text (starts e) = false
  is_text ends = false
  is_text (says s) = true
  is_text (instructs target content) = false
  is_text closes = false

  -- whether the last of these is a text; where there is none, what is said of the one before
  abbrev pub last_is_text : Bool → List (TreeEvent E) → Bool
  last_is_text before [] = before
  last_is_text before (h ∷ p) = last_is_text (is_text h) p

  -- whether the last that happened is a text
  abbrev pub is_behind_text : List (TreeEvent E) → Bool
  is_behind_text p = last_is_text false p

  -- An end has an open element, a text has characters and is not behind a text, and no element is open at the close.
  abbrev pub IsAllowed : List (TreeEvent E) → TreeEvent E → Type 0
  IsAllowed p (starts e) = Unit {0}
  IsAllowed p ends = has_open (tree_of p).content ≡ true
  IsAllowed p (says s) = (s ≢ []) × (is_behind_text p ≡ false)
  IsAllowed p (instructs target content) = Unit {0}
  IsAllowed p closes = has_open (tree_of p).content ≡ false

  -- this may happen next: nothing follows the close, and each happening where it is allowed
  pub record MayFollow (p : List (TreeEvent E)) (h : TreeEvent E) : Type 0 where
    pub not_closed : (tree_of p).is_open ≡ true
    pub allowed : IsAllowed p h
