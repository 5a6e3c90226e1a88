use Rattle.std.proofs.Common.{ap}
use Rattle.sx_axes.proofs.Chains.{ancestors-go, parent-back}
use Rattle.sx_axes.proofs.Passing.{walk-ends}
use Rattle.sx_axes.proofs.walks.keep_with_ancestors.Goals as goal
use Rattle.sx_axes.specs.Ways.{with_ancestors}

pub loop-next-preserved : goal.loop-next-preserved
loop-next-preserved g c =
    let t = g.T.Tree.places c.args.t.now in
    ancestors-go c.args.sought.now t (with_ancestors t c.args.first) c.args.out.now c.loop-next.out c.keep.new.out c.in-Some.n c.parent-next.result
    (rw c.in-Some.is at c.loop-next.invariant) c.in_ok-keep.ensures c.parent-next.ensures

pub loop-next-smaller : goal.loop-next-smaller
loop-next-smaller g c =
    let t = g.T.Tree.places c.args.t.now in rw (c.in-Some.is, c.parent-next.ensures) (parent-back t c.in-Some.n)

pub returns : goal.returns
returns g c =
    let t = g.T.Tree.places c.args.t.now in
    walk-ends c.args.sought.now t (with_ancestors t c.args.first) c.args.out.now c.loop-next.out (with_ancestors t c.loop-next.next)
    (ap (with_ancestors t) c.in_default.is) c.loop-next.invariant
