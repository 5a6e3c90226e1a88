-- How many nodes there are.
use Rattle.std.proofs.Common.{◌≡◌, ℕ, suc, ◌+◌, ◌≤◌, List, [], ◌∷◌, ◌++◌, length, arith}
use Rattle.sx_tree.specs.Begun.{begun_count}
use Rattle.sx_tree.specs.Copies.{node_count}
use Rattle.sx_tree.specs.Events.{Element}
use Rattle.sx_tree.specs.Places.{Content, element, text, instruction, Entry, entry, Places, put_event}
use Rattle.sx_tree.specs.Tree.{TreeEvent, starts, ends, says, instructs, closes}
use Rattle.sx_tree.specs.TreeView.{attributes_of}

-- Of two lists, the nodes add up.
pub node_count-append : (es fs : List Entry) → node_count (es ++ fs) ≡ node_count es + node_count fs
node_count-append [] fs = omega arith
node_count-append (e ∷ es) fs = omega (arith, node_count-append es fs)

-- One more counts with its attributes.
pub node_count-snoc : (es : List Entry) (c : Content) (d : ℕ) → node_count (es ++ entry c d ∷ []) ≡ node_count es + suc (length (attributes_of c))
node_count-snoc es c d = omega (arith, node_count-append es (entry c d ∷ []))

-- There are at least as many nodes as places.
pub length-most : (es : List Entry) → length es ≤ node_count es
length-most [] = omega arith
length-most (e ∷ es) = omega (arith, length-most es)

-- An event adds the nodes that it begins.
pub node_count-event : (t : Places) (h : TreeEvent Element) → node_count (put_event t h).entries ≡ node_count t.entries + begun_count h
node_count-event t (starts e) = node_count-snoc t.entries (element e) t.level
node_count-event t ends = omega arith
node_count-event t (says s) = node_count-snoc t.entries (text s) t.level
node_count-event t (instructs target content) = node_count-snoc t.entries (instruction target content) t.level
node_count-event t closes = omega arith
