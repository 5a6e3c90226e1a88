use Rattle.std.proofs.Common.{◌≡◌, ◌<◌, suc, ◌+◌, length, ap, arith}
use Rattle.sx_axes.proofs.Passing.{walk-step}
use Rattle.sx_axes.proofs.Spans.{from-here}
use Rattle.sx_axes.proofs.walks.keep_following.Goals as goal
use Rattle.sx_axes.specs.Axes.{at_places, following_places}
use Rattle.sx_axes.specs.Ways.{places_from}
use Rattle.sx_tree.specs.declared.nodes.Node.TheVariants as node

pub loop-place-preserved : goal.loop-place-preserved
loop-place-preserved g c =
    let t = g.T.Tree.places c.args.t.now in
    let k = c.loop-place.place in
    let within : k < length t.entries = omega arith in
    let next : k + 1 ≡ suc k = omega arith in
    rw next
    (walk-step c.args.sought.now t (at_places (following_places t c.args.from)) c.args.out.now c.loop-place.out c.keep.new.out (node.At k)
    (at_places (places_from t k)) (at_places (places_from t (suc k))) (ap at_places (from-here t k within)) c.loop-place.invariant
    c.in_ok-keep.ensures)
