use Rattle.std.proofs.Common.{ap, ◌∙◌}
use Rattle.sx_axes.proofs.Passing.{walk-step}
use Rattle.sx_axes.proofs.Spans.{reversed-last}
use Rattle.sx_axes.proofs.walks.keep_backward.Goals as goal
use Rattle.sx_axes.specs.Axes.{at_places, reversed}
use Rattle.sx_tree.specs.declared.nodes.Node.TheVariants as node

pub loop-place-preserved : goal.loop-place-preserved
loop-place-preserved g c =
    let t = g.T.Tree.places c.args.t.now in
    let k = c.in-Some.place in
    walk-step c.args.sought.now t (at_places (reversed c.args.places)) c.args.out.now c.loop-place.out c.keep.new.out (node.At k)
    (at_places (reversed c.loop-place.places)) (at_places (reversed c.pop.new.self))
    (ap at_places (ap reversed c.in-Some.ensures ∙ reversed-last c.pop.new.self k)) c.loop-place.invariant c.in_ok-keep.ensures
