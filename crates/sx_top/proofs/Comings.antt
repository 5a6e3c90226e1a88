-- The events of bytes: they may come one by one, and more bytes only add to them.
use Rattle.std.proofs.Common.{◌≡◌, ◌≢◌, inl, inr, ℕ, zero, suc, nat_lt, ◌<◌, Bool, true, false, List, [], ◌∷◌, ◌++◌, length, slice_get, Option, Some, None, is_some, refl, ap, ◌∙◌, subst, arith}
use Rattle.std.proofs.lemmas.Bool.{le-ltb}
use Rattle.std.proofs.lemmas.List.{map-append}
use Rattle.sx_tree.specs.Events.{MayFollow, IsAllowed}
use Rattle.sx_named.specs.Named.{ElementStart, NamedElement, started, in_tree, all_in_tree}
use Rattle.sx_tree.specs.Tree.{TreeEvent, starts, ends, says, instructs, closes, Document, tree_of}
use Rattle.sx_tree.proofs.Mapping.{tree_of-map, may_follow-map}
use Rattle.sx_limits.specs.declared.faults.DocFault.{DocFault}
use Rattle.sx_limits.specs.declared.limits.Limits.{Limits}
use Rattle.sx_events.specs.Course.{Lined, events_of, break_of, whats}
use Rattle.sx_events.specs.Laws.{AllFollow}
use Rattle.sx_events.proofs.Growths.{grows, broken_stays}
use Rattle.sx_events.proofs.Nests as nests
use Rattle.sx_machine.specs.Growth.{ClosesWhole, MayCome, MayAllCome}
pub use Rattle.sx_top.specs.Run.{happened}

abbrev pub Happenings : Type 0
Happenings = List (TreeEvent NamedElement)

-- as many things have happened as there are events
pub count_events : (ls : List Lined) → length (all_in_tree (whats ls)) ≡ length ls
count_events [] = refl
count_events (l ∷ ls) = ap suc (count_events ls)

-- what stands at a place, as a tree knows it
pub in_tree_at : (hs : List (TreeEvent ElementStart)) (n : ℕ) (h : TreeEvent ElementStart) → slice_get hs n ≡ Some h → slice_get (all_in_tree hs) n ≡ Some (in_tree h)
in_tree_at [] n h at = absurd (cc)
in_tree_at (k ∷ hs) zero h at =
    let same : k ≡ h = cc in
    ap (λ (x : TreeEvent ElementStart). Some (in_tree x)) same
in_tree_at (k ∷ hs) (suc n) h at = in_tree_at hs n h at

-- ---- before all bytes

none_below : (n : ℕ) → nat_lt n 0 ≡ false
none_below n = le-ltb n 0 (omega arith)

pub no_lines : (limits : Limits) → events_of limits [] false ≡ []
no_lines limits = rw (none_below limits.bytes) (rw (none_below limits.line) refl)

pub no_break : (limits : Limits) → break_of limits [] false ≡ None
no_break limits = rw (none_below limits.bytes) (rw (none_below limits.line) refl)

-- ---- each may come behind those before it

closes_whole : (p : Happenings) (h : TreeEvent NamedElement) → IsAllowed p h → ClosesWhole (tree_of p) h
closes_whole p (starts e) a = tt
closes_whole p ends a = tt
closes_whole p (says s) a = tt
closes_whole p (instructs target content) a = tt
closes_whole p closes a = a

pub may_come : (p : Happenings) (h : TreeEvent NamedElement) → MayFollow p h → MayCome p h
may_come p h m = record { not_closed = m.not_closed; whole = closes_whole p h m.allowed }

pub all_come : (p hs : List (TreeEvent ElementStart)) → AllFollow p hs → MayAllCome (all_in_tree p) (all_in_tree hs)
all_come p [] f = tt
all_come p (h ∷ hs) f = (
  may_come (all_in_tree p) (in_tree h) (may_follow-map started p h f.0),
  subst (λ (q : Happenings). MayAllCome q (all_in_tree hs)) (map-append in_tree p (h ∷ [])) (all_come (p ++ h ∷ []) hs f.1),
)

pub events_may_come : (limits : Limits) (b : List ℕ) (ended : Bool) → MayAllCome [] (happened limits b ended)
events_may_come limits b ended = all_come [] (whats (events_of limits b ended)) (nests.all_follow limits b ended)

-- ---- more bytes

-- more bytes add to what has happened
pub events_grow : (limits : Limits) (b d : List ℕ) (ended : Bool) → (rest : Happenings) × (happened limits (b ++ d) ended ≡ happened limits b false ++ rest)
events_grow limits b d ended =
    let g = grows limits b d ended in
    (all_in_tree (whats g.more), g.in_tree)

-- behind a break nothing happens, and the break stays
pub events_stay : (limits : Limits) (b d : List ℕ) (ended : Bool) (f : DocFault) → break_of limits b false ≡ Some f
    → (happened limits (b ++ d) ended ≡ happened limits b false) × (break_of limits (b ++ d) ended ≡ Some f)
events_stay limits b d ended f broken =
    let s = broken_stays limits b d ended f broken in
    (ap (λ (ls : List Lined). all_in_tree (whats ls)) s.events, s.stays)

-- ---- whether the document is closed

-- a tree knows it as the events say
pub open_same : (hs : List (TreeEvent ElementStart)) → (tree_of (all_in_tree hs)).is_open ≡ (tree_of hs).is_open
open_same hs = ap (λ (d : Document NamedElement). d.is_open) (tree_of-map started hs)

pub is_open_same : (limits : Limits) (b : List ℕ) (ended : Bool) → (tree_of (happened limits b ended)).is_open ≡ (tree_of (whats (events_of limits b ended))).is_open
is_open_same limits b ended = open_same (whats (events_of limits b ended))

-- the document is open until the input has ended
pub open_so_far : (limits : Limits) (b : List ℕ) → (tree_of (happened limits b false)).is_open ≡ true
open_so_far limits b = is_open_same limits b false ∙ nests.open_where limits b false (inr refl)

closed_open : {b : Bool} → b ≡ false → b ≡ true → ⊥
closed_open closed now_open = cc

closed_by : (limits : Limits) (b : List ℕ) (ended : Bool) (fault : Option DocFault) → break_of limits b ended ≡ fault → (tree_of (happened limits b ended)).is_open ≡ false
    → (ended ≡ true) × (break_of limits b ended ≡ None)
closed_by limits b false fault is closed = absurd (closed_open closed (is_open_same limits b false ∙ nests.open_where limits b false (inr refl)))
closed_by limits b true (Some f) is closed = absurd (closed_open closed (is_open_same limits b true ∙ nests.open_where limits b true (inl (ap is_some is))))
closed_by limits b true None is closed = (refl, is)

-- it is closed where the input has ended and is not broken off
pub closed_at_end : (limits : Limits) (b : List ℕ) (ended : Bool) → (tree_of (happened limits b ended)).is_open ≡ false → (ended ≡ true) × (break_of limits b ended ≡ None)
closed_at_end limits b ended closed = closed_by limits b ended (break_of limits b ended) refl closed

-- bytes beyond the limit are broken off
pub broken_beyond : (limits : Limits) (b : List ℕ) (ended : Bool) → limits.bytes < length b → break_of limits b ended ≢ None
broken_beyond limits b ended h = nests.broken_beyond limits b ended h

-- an input that has ended is broken off or closes the document
pub ended_closed : (limits : Limits) (b : List ℕ) → break_of limits b true ≡ None → (tree_of (happened limits b true)).is_open ≡ false
ended_closed limits b sound = is_open_same limits b true ∙ ap (λ (d : Document ElementStart). d.is_open) (nests.closed_where limits b true (ap is_some sound) refl)
