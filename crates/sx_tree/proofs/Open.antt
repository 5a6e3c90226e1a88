-- What an event does to the open tree and to its open elements.
use Rattle.std.proofs.Common.{◌≡◌, Bool, true, false, cond, List, [], ◌∷◌, ◌++◌, refl, ap, sym, ◌∙◌}
use Rattle.sx_tree.specs.Tree.{TreeEvent, starts, Forest, none, text, instruction, element, Document, has_open, open_elements, has_element, first_node, push_end, push_node, push, push_all, tree_of, empty_document}

module _ {E : Type 0} where
  -- the innermost of open elements, which are not none
  abbrev pub HasLast : List E → Type 0
  HasLast es = (front : List E) × (e : E) × (es ≡ front ++ e ∷ [])

  -- one after the other
  pub push_all-append : (d : Document E) (p q : List (TreeEvent E)) → push_all d (p ++ q) ≡ push_all (push_all d p) q
  push_all-append d [] q = refl
  push_all-append d (h ∷ p) q = push_all-append (push d h) p q

  pub tree_of-snoc : (p : List (TreeEvent E)) (h : TreeEvent E) → tree_of (p ++ h ∷ []) ≡ push (tree_of p) h
  tree_of-snoc p h = push_all-append empty_document p (h ∷ [])

  pub open-push_node : (f new : Forest E) → open_elements (push_node f new) ≡ open_elements f ++ open_elements new
  open-push_node none new = refl
  open-push_node (text s rest) new = open-push_node rest new
  open-push_node (instruction t c rest) new = open-push_node rest new
  open-push_node (element e true kids rest) new = ap (λ (es : List E). e ∷ es) (open-push_node kids new)
  open-push_node (element e false kids rest) new = open-push_node rest new

  consed : (e : E) (es : List E) → HasLast es → HasLast (e ∷ es)
  consed e es (front, last, is) = (e ∷ front, last, ap (λ (xs : List E). e ∷ xs) is)

  -- whether an element is open, the open elements say
  pub none_open : (f : Forest E) → has_open f ≡ false → open_elements f ≡ []
  none_open none h = refl
  none_open (text s rest) h = none_open rest h
  none_open (instruction t c rest) h = none_open rest h
  none_open (element e true kids rest) h = absurd (cc)
  none_open (element e false kids rest) h = none_open rest h

  pub open-none : (f : Forest E) → open_elements f ≡ [] → has_open f ≡ false
  open-none none h = refl
  open-none (text s rest) h = open-none rest h
  open-none (instruction t c rest) h = open-none rest h
  open-none (element e true kids rest) h = absurd (cc)
  open-none (element e false kids rest) h = open-none rest h

  last_open : (b : Bool) (e : E) (kids : Forest E) → has_open kids ≡ b → (has_open kids ≡ true → HasLast (open_elements kids)) → HasLast (e ∷ open_elements kids)
  last_open true e kids h more = consed e (open_elements kids) (more h)
  last_open false e kids h more = ([], e, ap (λ (xs : List E). e ∷ xs) (none_open kids h))

  pub has_open-is : (f : Forest E) → has_open f ≡ true → (es : List E) × (e : E) × (open_elements f ≡ es ++ e ∷ [])
  has_open-is none h = absurd (cc)
  has_open-is (text s rest) h = has_open-is rest h
  has_open-is (instruction t c rest) h = has_open-is rest h
  has_open-is (element e true kids rest) h = last_open (has_open kids) e kids refl (has_open-is kids)
  has_open-is (element e false kids rest) h = has_open-is rest h

  not_snoc : (es : List E) (e : E) → [] ≡ es ++ e ∷ [] → ⊥
  not_snoc [] e is = absurd (cc)
  not_snoc (x ∷ es) e is = absurd (cc)

  ended : (b : Bool) (e : E) (kids : Forest E) (front : List E) (last : E) → has_open kids ≡ b
      → ((es : List E) (l : E) → open_elements kids ≡ es ++ l ∷ [] → open_elements (push_end kids) ≡ es)
      → e ∷ open_elements kids ≡ front ++ last ∷ []
      → open_elements (cond b (element e true (push_end kids) none) (element e false kids none)) ≡ front
  ended true e kids [] last h more is =
      let empty : open_elements kids ≡ [] = cc in
      let shut = open-none kids empty in
      absurd (cc)
  ended true e kids (x ∷ front) last h more is =
      let tail : open_elements kids ≡ front ++ last ∷ [] = cc in
      let same : open_elements (push_end kids) ≡ front = more front last tail in
      let head : e ≡ x = cc in
      cc
  ended false e kids [] last h more is = refl
  ended false e kids (x ∷ front) last h more is =
      let tail : open_elements kids ≡ front ++ last ∷ [] = cc in
      absurd (not_snoc front last (sym (none_open kids h) ∙ tail))

  pub open-push_end : (f : Forest E) (es : List E) (e : E) → open_elements f ≡ es ++ e ∷ [] → open_elements (push_end f) ≡ es
  open-push_end none es e is = absurd (not_snoc es e is)
  open-push_end (text s rest) es e is = open-push_end rest es e is
  open-push_end (instruction t c rest) es e is = open-push_end rest es e is
  open-push_end (element x true kids rest) es e is = ended (has_open kids) x kids es e refl (open-push_end kids) is
  open-push_end (element x false kids rest) es e is = open-push_end rest es e is

  pub element-push_node : (f new : Forest E) → has_element f ≡ true → has_element (push_node f new) ≡ true
  element-push_node none new h = absurd (cc)
  element-push_node (text s rest) new h = element-push_node rest new h
  element-push_node (instruction t c rest) new h = element-push_node rest new h
  element-push_node (element e true kids rest) new h = refl
  element-push_node (element e false kids rest) new h = refl

  pub element-push_start : (f : Forest E) (e : E) → has_element (push_node f (first_node (starts e))) ≡ true
  element-push_start none e = refl
  element-push_start (text s rest) e = element-push_start rest e
  element-push_start (instruction t c rest) e = element-push_start rest e
  element-push_start (element x true kids rest) e = refl
  element-push_start (element x false kids rest) e = refl

  has_ended : (b : Bool) (e : E) (kids : Forest E) → has_element (cond b (element e true (push_end kids) none) (element e false kids none)) ≡ true
  has_ended true e kids = refl
  has_ended false e kids = refl

  pub element-push_end : (f : Forest E) → has_element (push_end f) ≡ has_element f
  element-push_end none = refl
  element-push_end (text s rest) = element-push_end rest
  element-push_end (instruction t c rest) = element-push_end rest
  element-push_end (element e true kids rest) = has_ended (has_open kids) e kids
  element-push_end (element e false kids rest) = refl

  pub open-element : (f : Forest E) → has_open f ≡ true → has_element f ≡ true
  open-element none h = absurd (cc)
  open-element (text s rest) h = open-element rest h
  open-element (instruction t c rest) h = open-element rest h
  open-element (element e true kids rest) h = refl
  open-element (element e false kids rest) h = refl
