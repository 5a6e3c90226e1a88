-- What a copy asks for: the events of the document, in turn.
use Rattle.std.proofs.Common.{◌≡◌, ℕ, zero, suc, Bool, true, false, cond, List, [], ◌∷◌, ◌++◌, refl, ap, ap₂, sym, ◌∙◌, subst, append_assoc, append-nil}
use Rattle.sx_build.specs.Asked as ask
use Rattle.sx_build.specs.Asked.{Asked}
use Rattle.sx_machine.specs.Body.{Body}
use Rattle.sx_machine.specs.Choice.{chosen_for}
use Rattle.sx_machine.specs.Run.{Ending, done, waits, stops, Output, gives, output_behind, next, wrap, run_body, copied_attribute, copied_attributes, invoked, children, for_each, applied, meaning}
use Rattle.sx_named.specs.Named.{Name, Attribute, NamedElement}
use Rattle.sx_names.specs.Numbering.{NameTable}
use Rattle.sx_tree.specs.Events.{MayFollow}
use Rattle.sx_tree.specs.Tree.{TreeEvent, starts, ends, says, instructs, closes, Forest, none, text, instruction, element, Document, has_open, push_node, push_end, push, push_all, tree_of}
use Rattle.sx_tree.proofs.Open.{tree_of-snoc}
use Rattle.sx_events.specs.Laws.{AllFollow}

-- attributes, each asked for
abbrev pub all_had : List Attribute → List Asked
all_had [] = []
all_had (a ∷ rest) = ask.has a ∷ all_had rest

-- what is asked for of events, each in front of others
abbrev pub asked_all : List (TreeEvent NamedElement) → List Asked
asked_all [] = []
asked_all (starts e ∷ es) = ask.starts e.name ∷ (all_had e.attributes ++ asked_all es)
asked_all (ends ∷ es) = ask.ends ∷ asked_all es
asked_all (says s ∷ es) = ask.says s ∷ asked_all es
asked_all (instructs target content ∷ es) = ask.instructs target content ∷ asked_all es
asked_all (closes ∷ es) = asked_all es

-- the same of closed nodes
abbrev asked_closed : Forest NamedElement → List Asked
asked_closed none = []
asked_closed (text s rest) = ask.says s ∷ asked_closed rest
asked_closed (instruction target content rest) = ask.instructs target content ∷ asked_closed rest
asked_closed (element e is_open kids rest) = ask.starts e.name ∷ (all_had e.attributes ++ (asked_closed kids ++ ask.ends ∷ asked_closed rest))

-- the same of nodes of which some are open
abbrev asked_in : Forest NamedElement → List Asked
asked_in none = []
asked_in (text s rest) = ask.says s ∷ asked_in rest
asked_in (instruction target content rest) = ask.instructs target content ∷ asked_in rest
asked_in (element e true kids rest) = ask.starts e.name ∷ (all_had e.attributes ++ asked_in kids)
asked_in (element e false kids rest) = ask.starts e.name ∷ (all_had e.attributes ++ (asked_closed kids ++ ask.ends ∷ asked_in rest))

closed_in : (f : Forest NamedElement) → has_open f ≡ false → asked_in f ≡ asked_closed f
closed_in none h = refl
closed_in (text s rest) h = ap (λ (r : List Asked). ask.says s ∷ r) (closed_in rest h)
closed_in (instruction t c rest) h = ap (λ (r : List Asked). ask.instructs t c ∷ r) (closed_in rest h)
closed_in (element e true kids rest) h = absurd (cc)
closed_in (element e false kids rest) h =
    ap (λ (r : List Asked). ask.starts e.name ∷ (all_had e.attributes ++ (asked_closed kids ++ ask.ends ∷ r))) (closed_in rest h)

-- ---- the tree of the events

pushed : (f new : Forest NamedElement) → asked_in (push_node f new) ≡ asked_in f ++ asked_in new
pushed none new = refl
pushed (text s rest) new = ap (λ (r : List Asked). ask.says s ∷ r) (pushed rest new)
pushed (instruction t c rest) new = ap (λ (r : List Asked). ask.instructs t c ∷ r) (pushed rest new)
pushed (element e true kids rest) new =
    ap (λ (r : List Asked). ask.starts e.name ∷ (all_had e.attributes ++ r)) (pushed kids new)
    ∙ ap (λ (r : List Asked). ask.starts e.name ∷ r) (sym (append_assoc (all_had e.attributes) (asked_in kids) (asked_in new)))
pushed (element e false kids rest) new =
    ap (λ (r : List Asked). ask.starts e.name ∷ (all_had e.attributes ++ (asked_closed kids ++ ask.ends ∷ r))) (pushed rest new)
    ∙ ap (λ (r : List Asked). ask.starts e.name ∷ (all_had e.attributes ++ r)) (sym (append_assoc (asked_closed kids) (ask.ends ∷ asked_in rest) (asked_in new)))
    ∙ ap (λ (r : List Asked). ask.starts e.name ∷ r) (sym (append_assoc (all_had e.attributes) (asked_closed kids ++ ask.ends ∷ asked_in rest) (asked_in new)))

ended : (f : Forest NamedElement) → has_open f ≡ true → asked_in (push_end f) ≡ asked_in f ++ ask.ends ∷ []
ended none h = absurd (cc)
ended (text s rest) h = ap (λ (r : List Asked). ask.says s ∷ r) (ended rest h)
ended (instruction t c rest) h = ap (λ (r : List Asked). ask.instructs t c ∷ r) (ended rest h)
ended (element e true kids rest) h = by (has_open kids) refl (ended kids)
  where
    by : (b : Bool) → has_open kids ≡ b → (has_open kids ≡ true → asked_in (push_end kids) ≡ asked_in kids ++ ask.ends ∷ [])
        → asked_in (cond b (element e true (push_end kids) none) (element e false kids none)) ≡ ask.starts e.name ∷ ((all_had e.attributes ++ asked_in kids) ++ ask.ends ∷ [])
    by true is more =
        ap (λ (r : List Asked). ask.starts e.name ∷ (all_had e.attributes ++ r)) (more is)
        ∙ ap (λ (r : List Asked). ask.starts e.name ∷ r) (sym (append_assoc (all_had e.attributes) (asked_in kids) (ask.ends ∷ [])))
    by false is more =
        ap (λ (r : List Asked). ask.starts e.name ∷ (all_had e.attributes ++ (r ++ ask.ends ∷ []))) (sym (closed_in kids is))
        ∙ ap (λ (r : List Asked). ask.starts e.name ∷ r) (sym (append_assoc (all_had e.attributes) (asked_in kids) (ask.ends ∷ [])))
ended (element e false kids rest) h =
    ap (λ (r : List Asked). ask.starts e.name ∷ (all_had e.attributes ++ (asked_closed kids ++ ask.ends ∷ r))) (ended rest h)
    ∙ ap (λ (r : List Asked). ask.starts e.name ∷ (all_had e.attributes ++ r)) (sym (append_assoc (asked_closed kids) (ask.ends ∷ asked_in rest) (ask.ends ∷ [])))
    ∙ ap (λ (r : List Asked). ask.starts e.name ∷ r) (sym (append_assoc (all_had e.attributes) (asked_closed kids ++ ask.ends ∷ asked_in rest) (ask.ends ∷ [])))

-- one event more
one_more : (q : List (TreeEvent NamedElement)) (h : TreeEvent NamedElement) → MayFollow q h → asked_in (push (tree_of q) h).content ≡ asked_in (tree_of q).content ++ asked_all (h ∷ [])
one_more q (starts e) may = pushed (tree_of q).content (element e true none none)
one_more q ends may = ended (tree_of q).content may.allowed
one_more q (says s) may = pushed (tree_of q).content (text s none)
one_more q (instructs t c) may = pushed (tree_of q).content (instruction t c none)
one_more q closes may = sym (append-nil (asked_in (tree_of q).content))

first_asked : (h : TreeEvent NamedElement) (p : List (TreeEvent NamedElement)) → asked_all (h ∷ p) ≡ asked_all (h ∷ []) ++ asked_all p
first_asked (starts e) p =
    ap (λ (r : List Asked). ask.starts e.name ∷ (r ++ asked_all p)) (sym (append-nil (all_had e.attributes)))
first_asked ends p = refl
first_asked (says s) p = refl
first_asked (instructs t c) p = refl
first_asked closes p = refl

asked_of_tree : (q p : List (TreeEvent NamedElement)) → AllFollow q p → asked_in (push_all (tree_of q) p).content ≡ asked_in (tree_of q).content ++ asked_all p
asked_of_tree q [] follow = sym (append-nil (asked_in (tree_of q).content))
asked_of_tree q (h ∷ p) follow =
    ap (λ (d : Document NamedElement). asked_in (push_all d p).content) (sym (tree_of-snoc q h))
    ∙ asked_of_tree (q ++ h ∷ []) p follow.1
    ∙ ap (λ (d : Document NamedElement). asked_in d.content ++ asked_all p) (tree_of-snoc q h)
    ∙ ap (λ (r : List Asked). r ++ asked_all p) (one_more q h follow.0)
    ∙ append_assoc (asked_in (tree_of q).content) (asked_all (h ∷ [])) (asked_all p)
    ∙ ap (λ (r : List Asked). asked_in (tree_of q).content ++ r) (sym (first_asked h p))

-- ---- the run

-- what is done gave all of these
abbrev Gave : Output → List Asked → Type 0
Gave o raws = o.ending ≡ done → o.raw ≡ raws

next_by : (raws : List Asked) (e : Ending) (b : Output) (xs ys : List Asked) → (e ≡ done → raws ≡ xs) → Gave b ys → Gave (output_behind raws e b) (xs ++ ys)
next_by raws done b xs ys first second is = ap₂ (λ (x y : List Asked). x ++ y) (first refl) (second is)
next_by raws waits b xs ys first second is = absurd (cc)
next_by raws (stops c) b xs ys first second is = absurd (cc)

gave_next : (a b : Output) (xs ys : List Asked) → Gave a xs → Gave b ys → Gave (next a b) (xs ++ ys)
gave_next a b xs ys first second = next_by a.raw a.ending b xs ys first second

gave_attribute : (left : ℕ) (a : Attribute) → Gave (copied_attribute left a) (ask.has a ∷ [])
gave_attribute zero a is = absurd (cc)
gave_attribute (suc left) a is = refl

gave_attributes : (left : ℕ) (attributes : List Attribute) → Gave (copied_attributes left attributes) (all_had attributes)
gave_attributes left [] = λ is. refl
gave_attributes left (a ∷ rest) =
    gave_next (copied_attribute left a) (copied_attributes left rest) (ask.has a ∷ []) (all_had rest) (gave_attribute left a) (gave_attributes left rest)

module _ (names : NameTable) where
  abbrev pub chosen : NamedElement → Body Name
  chosen = chosen_for names true []

  -- a copied element
  gave_element : (left : ℕ) (e : NamedElement) (given : Output) (kids : List Asked) → Gave given kids
      → Gave (run_body (copied_attributes left) given (chosen e)) (ask.starts e.name ∷ (all_had e.attributes ++ (kids ++ ask.ends ∷ [])))
  gave_element left e given kids gave =
      let attributes = copied_attributes left e.attributes in
      let nothing_more : Output = gives [] in
      let content = next attributes (next given nothing_more) in
      let inner : Gave (next content (gives (ask.ends ∷ []))) ((all_had e.attributes ++ (kids ++ [])) ++ ask.ends ∷ []) =
      gave_next content (gives (ask.ends ∷ [])) (all_had e.attributes ++ (kids ++ [])) (ask.ends ∷ [])
      (gave_next attributes (next given nothing_more) (all_had e.attributes) (kids ++ []) (gave_attributes left e.attributes)
      (gave_next given nothing_more kids [] gave (λ is. refl)))
      (λ is. refl) in
      let whole : Gave (next (wrap e.name content) nothing_more) ((ask.starts e.name ∷ ((all_had e.attributes ++ (kids ++ [])) ++ ask.ends ∷ [])) ++ []) =
      gave_next (wrap e.name content) nothing_more (ask.starts e.name ∷ ((all_had e.attributes ++ (kids ++ [])) ++ ask.ends ∷ [])) []
      (gave_next (gives (ask.starts e.name ∷ [])) (next content (gives (ask.ends ∷ []))) (ask.starts e.name ∷ []) ((all_had e.attributes ++ (kids ++ [])) ++ ask.ends ∷ [])
      (λ is. refl) inner)
      (λ is. refl) in
      λ is. whole is ∙ append-nil (ask.starts e.name ∷ ((all_had e.attributes ++ (kids ++ [])) ++ ask.ends ∷ []))
      ∙ ap (λ (r : List Asked). ask.starts e.name ∷ ((all_had e.attributes ++ r) ++ ask.ends ∷ [])) (append-nil kids)
      ∙ ap (λ (r : List Asked). ask.starts e.name ∷ r) (append_assoc (all_had e.attributes) kids (ask.ends ∷ []))

  -- closed nodes
  gave_nodes : (f : Forest NamedElement) (left : ℕ) → Gave (for_each (invoked true chosen left) (children false f) done) (asked_closed f)
  gave_nodes none left = λ is. refl
  gave_nodes (text s rest) zero = λ is. absurd (cc)
  gave_nodes (text s rest) (suc left) =
      gave_next (gives (ask.says s ∷ [])) (for_each (invoked true chosen (suc left)) (children false rest) done) (ask.says s ∷ []) (asked_closed rest) (λ is. refl) (gave_nodes rest (suc left))
  gave_nodes (instruction t c rest) zero = λ is. absurd (cc)
  gave_nodes (instruction t c rest) (suc left) =
      gave_next (gives (ask.instructs t c ∷ [])) (for_each (invoked true chosen (suc left)) (children false rest) done) (ask.instructs t c ∷ []) (asked_closed rest) (λ is. refl) (gave_nodes rest (suc left))
  gave_nodes (element e o kids rest) zero = λ is. absurd (cc)
  gave_nodes (element e o kids rest) (suc left) =
      let kids_given = for_each (invoked true chosen left) (children false kids) done in
      let rest_given = for_each (invoked true chosen (suc left)) (children false rest) done in
      let all = ask.starts e.name ∷ (all_had e.attributes ++ (asked_closed kids ++ ask.ends ∷ [])) in
      let gave : Gave (next (run_body (copied_attributes left) kids_given (chosen e)) rest_given) (all ++ asked_closed rest) =
      gave_next (run_body (copied_attributes left) kids_given (chosen e)) rest_given all (asked_closed rest)
      (gave_element left e kids_given (asked_closed kids) (gave_nodes kids left)) (gave_nodes rest (suc left)) in
      λ is. gave is
      ∙ ap (λ (r : List Asked). ask.starts e.name ∷ r) (append_assoc (all_had e.attributes) (asked_closed kids ++ ask.ends ∷ []) (asked_closed rest))
      ∙ ap (λ (r : List Asked). ask.starts e.name ∷ (all_had e.attributes ++ r)) (append_assoc (asked_closed kids) (ask.ends ∷ []) (asked_closed rest))

  gave_document : (invocations : ℕ) (d : Document NamedElement) → d.is_open ≡ false → Gave (meaning true chosen invocations d) (asked_closed d.content)
  gave_document zero d shut = λ is. absurd (cc)
  gave_document (suc left) d shut =
      subst (λ (b : Bool). Gave (applied true chosen left b d.content) (asked_closed d.content)) (sym shut) (gave_nodes d.content left)

  -- A copy that is done, of a closed document, has asked for its events.
  pub asked_is : (invocations : ℕ) (p : List (TreeEvent NamedElement)) → AllFollow [] p → (tree_of p).is_open ≡ false → has_open (tree_of p).content ≡ false
      → Gave (meaning true chosen invocations (tree_of p)) (asked_all p)
  asked_is invocations p follow shut none_open is =
      gave_document invocations (tree_of p) shut is
      ∙ sym (closed_in (tree_of p).content none_open)
      ∙ asked_of_tree [] p follow
