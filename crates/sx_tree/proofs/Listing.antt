-- The list of nodes of events is that of their tree.
use Rattle.std.proofs.Common.{◌≡◌, ℕ, suc, ◌+◌, Bool, true, false, cond, List, [], ◌∷◌, ◌++◌, refl, ap, ap₂, sym, ◌∙◌, append_assoc, append-nil, arith}
use Rattle.sx_tree.specs.Events.{Element, MayFollow}
use Rattle.sx_tree.specs.Growth.{MayCome}
use Rattle.sx_tree.specs.Places.{Content, text, instruction, element, document, Entry, entry, Places, with_node, without_innermost, put_event, put_events, places_of, entries_of, open_count, listed}
use Rattle.sx_tree.specs.Tree as forest
use Rattle.sx_tree.specs.Tree.{TreeEvent, starts, ends, says, instructs, closes, Forest, none, Document, has_open, first_node, push_end, push_node, push, tree_of}
use Rattle.sx_tree.proofs.Open.{tree_of-snoc}

-- a node that begins comes behind all, in the innermost open element
entries_of-push_node : (d : ℕ) (f new : Forest Element)
    → entries_of d (push_node f new) ≡ entries_of d f ++ entries_of (d + open_count f) new
entries_of-push_node d none new = ap (λ (n : ℕ). entries_of n new) (let e : d ≡ d + 0 = omega arith in e)
entries_of-push_node d (forest.text s rest) new = ap (λ (l : List Entry). entry (text s) d ∷ l) (entries_of-push_node d rest new)
entries_of-push_node d (forest.instruction target content rest) new =
    ap (λ (l : List Entry). entry (instruction target content) d ∷ l) (entries_of-push_node d rest new)
entries_of-push_node d (forest.element e true kids rest) new =
    ap (λ (l : List Entry). entry (element e) d ∷ l)
    (entries_of-push_node (suc d) kids new
    ∙ ap (λ (n : ℕ). entries_of (suc d) kids ++ entries_of n new) (let e : suc d + open_count kids ≡ d + suc (open_count kids) = omega arith in e))
entries_of-push_node d (forest.element e false kids rest) new =
    ap (λ (l : List Entry). entry (element e) d ∷ entries_of (suc d) kids ++ l) (entries_of-push_node d rest new)
    ∙ ap (λ (l : List Entry). entry (element e) d ∷ l) (sym (append_assoc (entries_of (suc d) kids) (entries_of d rest) (entries_of (d + open_count rest) new)))

-- and the open elements are counted together
open_count-push_node : (f new : Forest Element) → open_count (push_node f new) ≡ open_count f + open_count new
open_count-push_node none new = omega arith
open_count-push_node (forest.text s rest) new = open_count-push_node rest new
open_count-push_node (forest.instruction target content rest) new = open_count-push_node rest new
open_count-push_node (forest.element e true kids rest) new = omega (arith, open_count-push_node kids new)
open_count-push_node (forest.element e false kids rest) new = open_count-push_node rest new

-- the same of one open element, by whether one in it is open
entries_of-ended : (b : Bool) (d : ℕ) (e : Element) (kids : Forest Element) → entries_of (suc d) (push_end kids) ≡ entries_of (suc d) kids
    → entries_of d (cond b (forest.element e true (push_end kids) none) (forest.element e false kids none)) ≡ entry (element e) d ∷ entries_of (suc d) kids
entries_of-ended true d e kids same = ap (λ (l : List Entry). entry (element e) d ∷ l) same
entries_of-ended false d e kids same = append-nil (entry (element e) d ∷ entries_of (suc d) kids)

-- an end changes no node
entries_of-push_end : (d : ℕ) (f : Forest Element) → entries_of d (push_end f) ≡ entries_of d f
entries_of-push_end d none = refl
entries_of-push_end d (forest.text s rest) = ap (λ (l : List Entry). entry (text s) d ∷ l) (entries_of-push_end d rest)
entries_of-push_end d (forest.instruction target content rest) =
    ap (λ (l : List Entry). entry (instruction target content) d ∷ l) (entries_of-push_end d rest)
entries_of-push_end d (forest.element e true kids rest) = entries_of-ended (has_open kids) d e kids (entries_of-push_end (suc d) kids)
entries_of-push_end d (forest.element e false kids rest) =
    ap (λ (l : List Entry). entry (element e) d ∷ entries_of (suc d) kids ++ l) (entries_of-push_end d rest)

-- where no element is open, none is counted
open_count-none : (f : Forest Element) → has_open f ≡ false → open_count f ≡ 0
open_count-none none shut = refl
open_count-none (forest.text s rest) shut = open_count-none rest shut
open_count-none (forest.instruction target content rest) shut = open_count-none rest shut
open_count-none (forest.element e true kids rest) shut = absurd (cc)
open_count-none (forest.element e false kids rest) shut = open_count-none rest shut

-- the same of one open element, by whether one in it is open
open_count-ended : (b : Bool) (e : Element) (kids : Forest Element) → has_open kids ≡ b
    → (has_open kids ≡ true → suc (open_count (push_end kids)) ≡ open_count kids)
    → suc (open_count (cond b (forest.element e true (push_end kids) none) (forest.element e false kids none))) ≡ suc (open_count kids)
open_count-ended true e kids is inner = ap suc (inner is)
open_count-ended false e kids is inner = ap suc (sym (open_count-none kids is))

-- an end leaves one open element less
open_count-push_end : (f : Forest Element) → has_open f ≡ true → suc (open_count (push_end f)) ≡ open_count f
open_count-push_end none has = absurd (cc)
open_count-push_end (forest.text s rest) has = open_count-push_end rest has
open_count-push_end (forest.instruction target content rest) has = open_count-push_end rest has
open_count-push_end (forest.element e true kids rest) has = open_count-ended (has_open kids) e kids refl (open_count-push_end kids)
open_count-push_end (forest.element e false kids rest) has = open_count-push_end rest has

-- ---- one event

-- lists of nodes with the same entries and the same level are the same
same_places : (es fs : List Entry) (m n : ℕ) → es ≡ fs → m ≡ n → (let t : Places = record { entries = es; level = m } in t) ≡ record { entries = fs; level = n }
same_places es fs m n e l = ap₂ (λ (es : List Entry) (m : ℕ). let t : Places = record { entries = es; level = m } in t) e l

-- a node begins while the document node is open
listed-node : (f : Forest Element) (b : Bool) (new : Forest Element) (c : Content) (level : ℕ) → b ≡ true
    → ((d : ℕ) → entries_of d new ≡ entry c d ∷ [])
    → level ≡ (listed (record { content = f; is_open = b })).level + open_count new
    → with_node (listed (record { content = f; is_open = b })) c level
    ≡ listed (record { content = push_node f new; is_open = b })
listed-node f true new c level begun one is =
    same_places _ _ _ _
    (ap (λ (l : List Entry). entry document 0 ∷ entries_of 1 f ++ l) (sym (one (suc (open_count f))))
    ∙ ap (λ (n : ℕ). entry document 0 ∷ entries_of 1 f ++ entries_of n new) (let e : suc (open_count f) ≡ 1 + open_count f = omega arith in e)
    ∙ ap (λ (l : List Entry). entry document 0 ∷ l) (sym (entries_of-push_node 1 f new)))
    (omega (arith, is, open_count-push_node f new))
listed-node f false new c level begun one is = absurd (cc)

-- the innermost open element ends
listed-ends : (f : Forest Element) (b : Bool) → b ≡ true → has_open f ≡ true
    → without_innermost (listed (record { content = f; is_open = b })) ≡ listed (record { content = push_end f; is_open = b })
listed-ends f true begun has =
    same_places _ _ _ _ (ap (λ (l : List Entry). entry document 0 ∷ l) (sym (entries_of-push_end 1 f))) (omega (arith, open_count-push_end f has))
listed-ends f false begun has = absurd (cc)

-- the document node ends
listed-closes : (f : Forest Element) (b : Bool) → b ≡ true → has_open f ≡ false
    → without_innermost (listed (record { content = f; is_open = b })) ≡ listed (record { content = f; is_open = false })
listed-closes f true begun none_is = same_places _ _ _ _ refl (omega (arith, open_count-none f none_is))
listed-closes f false begun none_is = absurd (cc)

-- The nodes after an event that may follow are those of the document after it.
listed-push : (p : List (TreeEvent Element)) (h : TreeEvent Element) → MayFollow p h
    → put_event (listed (tree_of p)) h ≡ listed (push (tree_of p) h)
listed-push p (starts e) may =
    listed-node (tree_of p).content (tree_of p).is_open (first_node (starts e)) (element e) _ may.not_closed (λ d. refl) (omega arith)
listed-push p ends may = listed-ends (tree_of p).content (tree_of p).is_open may.not_closed may.allowed
listed-push p (says s) may =
    listed-node (tree_of p).content (tree_of p).is_open (first_node (says s)) (text s) _ may.not_closed (λ d. refl) (omega arith)
listed-push p (instructs t c) may =
    listed-node (tree_of p).content (tree_of p).is_open (first_node (instructs t c)) (instruction t c) _ may.not_closed (λ d. refl) (omega arith)
listed-push p closes may = listed-closes (tree_of p).content (tree_of p).is_open may.not_closed may.allowed

-- ---- events in turn

-- The nodes after one event more are those of the tree of all.
pub listed-next : (p : List (TreeEvent Element)) (h : TreeEvent Element) → MayFollow p h
    → put_event (listed (tree_of p)) h ≡ listed (tree_of (p ++ h ∷ []))
listed-next p h may = listed-push p h may ∙ ap (λ (d : Document Element). listed d) (sym (tree_of-snoc p h))

-- so of many events
listed-events : (p q : List (TreeEvent Element)) → MayCome p q → put_events (listed (tree_of p)) q ≡ listed (tree_of (p ++ q))
listed-events p [] may = ap (λ (es : List (TreeEvent Element)). listed (tree_of es)) (sym (append-nil p))
listed-events p (h ∷ q) may =
    ap (λ (t : Places). put_events t q) (listed-next p h may.0)
    ∙ listed-events (p ++ h ∷ []) q may.1
    ∙ ap (λ (es : List (TreeEvent Element)). listed (tree_of es)) (append_assoc p (h ∷ []) q)

-- The list of nodes is that of the tree.
pub places_of-is : (p : List (TreeEvent Element)) → MayCome [] p → places_of p ≡ listed (tree_of p)
places_of-is p may = listed-events [] p may
