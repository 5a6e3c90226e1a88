-- The nodes with the one that begins are at most the limit, so there is room for it, and they are counted with it.
use Rattle.std.proofs.Common.{◌≡◌, ◌⊎◌, ◌<◌, ◌≤◌, ◌+◌, List, [], length, suc, ap, sym, subst, arith}
use Rattle.sx_tree.specs.declared.events.Attr.{Attr}
use Rattle.sx_tree.specs.Copies.{node_count}
use Rattle.sx_tree.specs.OpenTree.{Table}
use Rattle.sx_tree.specs.Places.{Places}
use Rattle.sx_tree.specs.Rows.{content_of}
use Rattle.sx_tree.specs.TreeView.{attributes_of}
use Rattle.sx_tree.proofs.Counting.{length-most, node_count-snoc}
use Rattle.sx_tree.proofs.counted_rows.CountedRows.begin.Goals as goal

pub begin-requires : goal.begin-requires
begin-requires c =
    let room : node_count c.self.inside.rows.entries + suc (length (attributes_of (content_of c.args.content))) ≤ c.self.inside.limit =
    subst (λ (t : Table). node_count t.places.entries + suc (length (attributes_of (content_of c.args.content))) ≤ t.limit)
    (sym c.self.view_is) c.requires.room
    in
    record {
      places = omega (arith, length-most c.self.inside.rows.entries);
      attributes = omega arith;
      inward = subst (λ (t : Table). (t.places.entries ≡ []) ⊎ (0 < t.places.level)) (sym c.self.view_is) c.requires.inward;
    }

pub invariant_of-self-2 : goal.invariant_of-self-2
invariant_of-self-2 c =
    let entries = ap (λ (t : Places). node_count t.entries) c.in_ok-begin.ensures.ok in
    let attributes = ap (λ (l : List Attr). length l) c.attrs.ensures in
    record {
      small = c.self.invariant.small;
      count = omega (arith, node_count-snoc c.self.inside.rows.entries (content_of c.args.content) c.self.inside.rows.level);
    }
