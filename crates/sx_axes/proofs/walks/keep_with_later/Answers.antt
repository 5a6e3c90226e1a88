use Rattle.std.proofs.Common.{ap}
use Rattle.sx_axes.proofs.Chains.{later-goes, later-ahead}
use Rattle.sx_axes.proofs.Passing.{walk-ends}
use Rattle.sx_axes.proofs.walks.keep_with_later.Goals as goal
use Rattle.sx_axes.specs.Ways.{with_later}

pub loop-next-preserved : goal.loop-next-preserved
loop-next-preserved g c =
    let t = g.T.Tree.places c.args.t.now in
    later-goes c.args.sought.now t (with_later t c.args.first) c.args.out.now c.loop-next.out c.keep.new.out c.in-Some.n c.next_sibling-next.result
    (rw c.in-Some.is at c.loop-next.invariant) c.in_ok-keep.ensures c.next_sibling-next.ensures

pub loop-next-smaller : goal.loop-next-smaller
loop-next-smaller g c =
    let t = g.T.Tree.places c.args.t.now in rw (c.in-Some.is, c.next_sibling-next.ensures) (later-ahead t c.in-Some.n)

pub returns : goal.returns
returns g c =
    let t = g.T.Tree.places c.args.t.now in
    walk-ends c.args.sought.now t (with_later t c.args.first) c.args.out.now c.loop-next.out (with_later t c.loop-next.next)
    (ap (with_later t) c.in_default.is) c.loop-next.invariant
