-- What may follow events may come next in their tree.
use Rattle.std.proofs.Common.{◌≡◌, suc, ◌<◌, Bool, true, false, cond, List, [], refl, ap, subst, sym, arith}
use Rattle.sx_tree.specs.Events.{Element, MayFollow}
use Rattle.sx_tree.specs.Growth.{MayCome}
use Rattle.sx_tree.specs.OpenTree.{MayComeNext}
use Rattle.sx_tree.specs.Places.{Places, places_of, open_count, listed}
use Rattle.sx_tree.specs.Tree.{TreeEvent, starts, ends, says, instructs, closes, Forest, none, text, instruction, element, has_open, tree_of}
use Rattle.sx_tree.proofs.Listing.{places_of-is}

-- elements are counted where one is open
count-open : (f : Forest Element) → has_open f ≡ true → 0 < open_count f
count-open none is = absurd (cc)
count-open (text s rest) is = count-open rest is
count-open (instruction target content rest) is = count-open rest is
count-open (element e true kids rest) is = omega arith
count-open (element e false kids rest) is = count-open rest is

-- and none where none is
count-shut : (f : Forest Element) → has_open f ≡ false → open_count f ≡ 0
count-shut none is = refl
count-shut (text s rest) is = count-shut rest is
count-shut (instruction target content rest) is = count-shut rest is
count-shut (element e true kids rest) is = absurd (cc)
count-shut (element e false kids rest) is = count-shut rest is

-- how many nodes are open in a document that is
level-open : (p : List (TreeEvent Element)) → (tree_of p).is_open ≡ true → (listed (tree_of p)).level ≡ suc (open_count (tree_of p).content)
level-open p is = ap (λ (b : Bool). cond b (suc (open_count (tree_of p).content)) 0) is

-- by what happens, in the tree
next : (p : List (TreeEvent Element)) (h : TreeEvent Element) → MayFollow p h → MayComeNext (listed (tree_of p)) h
next p (starts e) may = omega (arith, level-open p may.not_closed)
next p ends may = omega (arith, level-open p may.not_closed, count-open (tree_of p).content may.allowed)
next p (says s) may = omega (arith, level-open p may.not_closed)
next p (instructs target content) may = omega (arith, level-open p may.not_closed)
next p closes may = omega (arith, level-open p may.not_closed, count-shut (tree_of p).content may.allowed)

-- What may follow may come next.
pub may_come_next : (p : List (TreeEvent Element)) (h : TreeEvent Element) → MayCome [] p → MayFollow p h → MayComeNext (places_of p) h
may_come_next p h may follow = subst (λ (t : Places). MayComeNext t h) (sym (places_of-is p may)) (next p h follow)
