-- The tree of events of which something else is known is that tree, and what may follow is the same.
use Rattle.std.proofs.Common.{◌≡◌, Bool, true, false, cond, List, [], ◌∷◌, map, refl, ap, sym, ◌∙◌}
use Rattle.sx_tree.specs.Events.{is_text, last_is_text, IsAllowed, MayFollow}
use Rattle.sx_tree.specs.Mapping.{map_event, map_forest, map_document}
use Rattle.sx_tree.specs.Tree.{TreeEvent, starts, ends, says, instructs, closes, Forest, none, text, instruction, element, Document, has_open, first_node, push_end, push_node, push, push_all, tree_of, empty_document}

module _ {E F : Type 0} (f : E → F) where
  pub has_open-map : (t : Forest E) → has_open (map_forest f t) ≡ has_open t
  has_open-map none = refl
  has_open-map (text s rest) = has_open-map rest
  has_open-map (instruction t c rest) = has_open-map rest
  has_open-map (element e true kids rest) = refl
  has_open-map (element e false kids rest) = has_open-map rest

  pub push_node-map : (t new : Forest E) → map_forest f (push_node t new) ≡ push_node (map_forest f t) (map_forest f new)
  push_node-map none new = refl
  push_node-map (text s rest) new = ap (λ (r : Forest F). text s r) (push_node-map rest new)
  push_node-map (instruction t c rest) new = ap (λ (r : Forest F). instruction t c r) (push_node-map rest new)
  push_node-map (element e true kids rest) new = ap (λ (r : Forest F). element (f e) true r none) (push_node-map kids new)
  push_node-map (element e false kids rest) new = ap (λ (r : Forest F). element (f e) false (map_forest f kids) r) (push_node-map rest new)

  -- whether an element is open in it decides what an end does
  ended : (b c : Bool) (e : E) (kids : Forest E) → b ≡ c → map_forest f (push_end kids) ≡ push_end (map_forest f kids)
      → map_forest f (cond b (element e true (push_end kids) none) (element e false kids none))
      ≡ cond c (element (f e) true (push_end (map_forest f kids)) none) (element (f e) false (map_forest f kids) none)
  ended true true e kids same inner = ap (λ (r : Forest F). element (f e) true r none) inner
  ended true false e kids same inner = absurd (cc)
  ended false true e kids same inner = absurd (cc)
  ended false false e kids same inner = refl

  pub push_end-map : (t : Forest E) → map_forest f (push_end t) ≡ push_end (map_forest f t)
  push_end-map none = refl
  push_end-map (text s rest) = ap (λ (r : Forest F). text s r) (push_end-map rest)
  push_end-map (instruction t c rest) = ap (λ (r : Forest F). instruction t c r) (push_end-map rest)
  push_end-map (element e true kids rest) =
      ended (has_open kids) (has_open (map_forest f kids)) e kids (sym (has_open-map kids)) (push_end-map kids)
  push_end-map (element e false kids rest) = ap (λ (r : Forest F). element (f e) false (map_forest f kids) r) (push_end-map rest)

  -- one event more
  pub push-map : (d : Document E) (h : TreeEvent E) → map_document f (push d h) ≡ push (map_document f d) (map_event f h)
  push-map d (starts e) = ap (λ (c : Forest F). record { content = c; is_open = d.is_open }) (push_node-map d.content (first_node (starts e)))
  push-map d ends = ap (λ (c : Forest F). record { content = c; is_open = d.is_open }) (push_end-map d.content)
  push-map d (says s) = ap (λ (c : Forest F). record { content = c; is_open = d.is_open }) (push_node-map d.content (first_node (says s)))
  push-map d (instructs t c) = ap (λ (x : Forest F). record { content = x; is_open = d.is_open }) (push_node-map d.content (first_node (instructs t c)))
  push-map d closes = refl

  pub push_all-map : (d : Document E) (p : List (TreeEvent E)) → map_document f (push_all d p) ≡ push_all (map_document f d) (map (map_event f) p)
  push_all-map d [] = refl
  push_all-map d (h ∷ p) = push_all-map (push d h) p ∙ ap (λ (x : Document F). push_all x (map (map_event f) p)) (push-map d h)

  -- the tree of the events
  pub tree_of-map : (p : List (TreeEvent E)) → tree_of (map (map_event f) p) ≡ map_document f (tree_of p)
  tree_of-map p = sym (push_all-map empty_document p)

  is_text-map : (h : TreeEvent E) → is_text (map_event f h) ≡ is_text h
  is_text-map (starts e) = refl
  is_text-map ends = refl
  is_text-map (says s) = refl
  is_text-map (instructs t c) = refl
  is_text-map closes = refl

  last_is_text-map : (b : Bool) (p : List (TreeEvent E)) → last_is_text b (map (map_event f) p) ≡ last_is_text b p
  last_is_text-map b [] = refl
  last_is_text-map b (h ∷ p) = ap (λ (x : Bool). last_is_text x (map (map_event f) p)) (is_text-map h) ∙ last_is_text-map (is_text h) p

  has_open-of : (p : List (TreeEvent E)) → has_open (tree_of (map (map_event f) p)).content ≡ has_open (tree_of p).content
  has_open-of p = ap (λ (d : Document F). has_open d.content) (tree_of-map p) ∙ has_open-map (tree_of p).content

  allowed : (p : List (TreeEvent E)) (h : TreeEvent E) → IsAllowed p h → IsAllowed (map (map_event f) p) (map_event f h)
  allowed p (starts e) is = tt
  allowed p ends is = has_open-of p ∙ is
  allowed p (says s) is = (is.0, last_is_text-map false p ∙ is.1)
  allowed p (instructs t c) is = tt
  allowed p closes is = has_open-of p ∙ is

  -- what may follow
  pub may_follow-map : (p : List (TreeEvent E)) (h : TreeEvent E) → MayFollow p h → MayFollow (map (map_event f) p) (map_event f h)
  may_follow-map p h m = record {
    not_closed = ap (λ (d : Document F). d.is_open) (tree_of-map p) ∙ m.not_closed;
    allowed = allowed p h m.allowed;
  }
