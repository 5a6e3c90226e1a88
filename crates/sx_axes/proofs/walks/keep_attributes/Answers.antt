use Rattle.std.proofs.Common.{◌≡◌, ◌<◌, suc, ◌+◌, drop, length, map, arith}
use Rattle.std.proofs.lemmas.List.{length-map}
use Rattle.sx_axes.proofs.Passing.{walk-step}
use Rattle.sx_axes.proofs.Spans.{attributes-here}
use Rattle.sx_axes.proofs.walks.keep_attributes.Goals as goal
use Rattle.sx_axes.specs.Axes.{attribute_nodes, attributes}
use Rattle.sx_tree.specs.declared.nodes.Node.TheVariants as node
use Rattle.sx_tree.specs.TreeView.{attributes_at}

pub loop-number-preserved : goal.loop-number-preserved
loop-number-preserved g c =
    let t = g.T.Tree.places c.args.t.now in
    let k = c.in-At.place in
    let i = c.loop-number.number in
    let labels = map (λ a. a.label) (attributes_at t k) in
    let count : c.attr_count-number-end.result ≡ length (attributes_at t k) = c.attr_count-number-end.ensures in
    let size = length-map (attributes_at t k) (λ a. a.label) in
    let within : i < length labels = omega (arith, count, size) in
    let next : i + 1 ≡ suc i = omega arith in
    rw next
    (walk-step c.args.sought.now t (attributes t k) c.args.out.now c.loop-number.out c.keep.new.out (node.Attr k i)
    (attribute_nodes k i (drop i labels)) (attribute_nodes k (suc i) (drop (suc i) labels)) (attributes-here k i i labels within)
    c.loop-number.invariant c.in_ok-keep.ensures)
