use Rattle.std.proofs.Common.{◌≡◌, ◌<◌, ◌-◌, suc, length, min, ap, sym, ◌∙◌, refl, arith}
use Rattle.sx_axes.proofs.Backward.{remaining, begins-below, begins-remaining, ends-remaining, below-other, below-parent, place-same, place-other, back-here, back-outer}
use Rattle.sx_axes.proofs.Passing.{walk-ends, walk-same, walk-step}
use Rattle.sx_axes.proofs.walks.keep_before.Goals as goal
use Rattle.sx_axes.specs.Axes.{at_places, preceding_places}
use Rattle.sx_tree.specs.declared.nodes.Node.TheVariants as node
use Rattle.sx_tree.specs.TreeView.{first_place, outer_places}

pub loop-before-init : goal.loop-before-init
loop-before-init g c =
    let t = g.T.Tree.places c.args.t.now in
    let k = c.args.place in
    let start : c.min-before.result ≡ min k (length t.entries) = c.min-before.ensures ∙ ap (min k) c.place_count.ensures.value in
    rw (c.parent_place-outer.ensures, start)
    (record {
      left = walk-same c.args.sought.now t (at_places (preceding_places t k)) c.args.out.now c.args.out.now (at_places (preceding_places t k))
          (at_places (remaining t (first_place (outer_places t k)) (min k (length t.entries)))) (ap at_places (begins-remaining t k)) refl;
      below = begins-below t k;
    })

pub loop-before-preserved-then-eq : goal.loop-before-preserved-then-eq
loop-before-preserved-then-eq g c =
    let t = g.T.Tree.places c.args.t.now in
    let n = c.loop-before.before in
    let m = n - 1 in
    let next = c.parent_place-outer-then-eq.result in
    let within : m < length t.entries = omega (arith, c.place_count.ensures.value, c.min-before.ensures) in
    let last : suc m ≡ n = omega arith in
    let at = place-same c.loop-before.outer m (sym c.eq.ensures ∙ c.if-eq.true) in
    let all = at_places (preceding_places t c.args.place) in
    record {
      left = walk-same c.args.sought.now t all c.args.out.now c.loop-before.out (at_places (remaining t c.loop-before.outer n))
          (at_places (remaining t next m))
          (ap at_places (back-outer t c.loop-before.outer next n m last within at c.parent_place-outer-then-eq.ensures))
          c.loop-before.invariant.left;
      below = rw c.parent_place-outer-then-eq.ensures (below-parent t m);
    }

pub loop-before-preserved : goal.loop-before-preserved
loop-before-preserved g c =
    let t = g.T.Tree.places c.args.t.now in
    let n = c.loop-before.before in
    let m = n - 1 in
    let o = c.loop-before.outer in
    let within : m < length t.entries = omega (arith, c.place_count.ensures.value, c.min-before.ensures) in
    let last : suc m ≡ n = omega arith in
    let below = below-other o m (rw (sym last) at c.loop-before.invariant.below) (place-other o m (sym c.eq.ensures ∙ c.if-eq.false)) in
    record {
      left = walk-step c.args.sought.now t (at_places (preceding_places t c.args.place)) c.args.out.now c.loop-before.out c.keep.new.out
          (node.At m) (at_places (remaining t o n)) (at_places (remaining t o m))
          (ap at_places (back-here t o n m last within below)) c.loop-before.invariant.left c.in_ok-keep.ensures;
      below = below;
    }

pub returns : goal.returns
returns g c =
    let t = g.T.Tree.places c.args.t.now in
    let o = c.loop-before.outer in
    let none : c.loop-before.before ≡ 0 = omega arith in
    walk-ends c.args.sought.now t (at_places (preceding_places t c.args.place)) c.args.out.now c.loop-before.out
    (at_places (remaining t o c.loop-before.before)) (ap at_places (ap (remaining t o) none ∙ ends-remaining t o)) c.loop-before.invariant.left
