use Rattle.std.proofs.Common.{◌≡◌, ◌<◌, suc, ◌+◌, true, false, ap, sym, ◌∙◌, refl, arith}
use Rattle.sx_axes.proofs.Parents.{between-more, deeper-than, flat-than}
use Rattle.sx_axes.proofs.Passing.{walk-ends, walk-same, walk-step}
use Rattle.sx_axes.proofs.Spans.{inner_from, inner_from-here, inner_from-next, inner_from-stops}
use Rattle.sx_axes.proofs.walks.keep_inside.Goals as goal
use Rattle.sx_axes.specs.Axes.{at_places}
use Rattle.sx_axes.specs.Ways.{is_from}
use Rattle.sx_tree.specs.declared.nodes.Node.TheVariants as node
use Rattle.sx_tree.specs.TreeView.{depth_at, first_place, inside_places, outer_places}

pub loop-next-init : goal.loop-next-init
loop-next-init g c =
    let t = g.T.Tree.places c.args.t.now in
    let k = c.args.place in
    let d = depth_at t.entries k in
    let few = c.place_count-next-end.ensures.tree.few in
    record {
      left = walk-same c.args.sought.now t (at_places (inside_places t k)) c.args.out.now c.args.out.now (at_places (inner_from t d (suc k)))
          (at_places (inner_from t d c.saturating_add-next.result))
          (ap at_places (inner_from-next t d k c.saturating_add-next.result few c.saturating_add-next.ensures)) refl;
      between = λ j behind before. absurd (omega (arith, behind, before, c.saturating_add-next.ensures));
    }

pub loop-next-preserved : goal.loop-next-preserved
loop-next-preserved g c =
    let t = g.T.Tree.places c.args.t.now in
    let k = c.args.place in
    let n = c.loop-next.next in
    let d = depth_at t.entries k in
    let less : k < n = omega arith in
    let from : is_from k (first_place (outer_places t n)) ≡ true = sym c.has_parent_from.ensures ∙ c.if-not-has_parent_from.false in
    let deep = deeper-than t k n less c.loop-next.invariant.between from in
    let next : n + 1 ≡ suc n = omega arith in
    rw next (record {
      left = walk-step c.args.sought.now t (at_places (inside_places t k)) c.args.out.now c.loop-next.out c.keep.new.out (node.At n)
          (at_places (inner_from t d n)) (at_places (inner_from t d (suc n))) (ap at_places (inner_from-here t d n deep))
          c.loop-next.invariant.left c.in_ok-keep.ensures;
      between = between-more t.entries k n c.loop-next.invariant.between deep;
    })

pub returns-then-not-has_parent_from : goal.returns-then-not-has_parent_from
returns-then-not-has_parent_from g c =
    let t = g.T.Tree.places c.args.t.now in
    let k = c.args.place in
    let n = c.loop-next.next in
    let d = depth_at t.entries k in
    let less : k < n = omega arith in
    let before : is_from k (first_place (outer_places t n)) ≡ false = sym c.has_parent_from.ensures ∙ c.if-not-has_parent_from.true in
    walk-ends c.args.sought.now t (at_places (inside_places t k)) c.args.out.now c.loop-next.out (at_places (inner_from t d n))
    (ap at_places (inner_from-stops t d n (flat-than t k n less before))) c.loop-next.invariant.left
