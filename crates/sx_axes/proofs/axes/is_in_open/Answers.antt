use Rattle.std.proofs.Common.{◌≡◌, true, false, Some, None, ap, sym, ◌∙◌}
use Rattle.sx_axes.proofs.Chains.{parent-back}
use Rattle.sx_axes.proofs.Openness.{any_open_with, open-ancestors, open-found, open-goes}
use Rattle.sx_axes.proofs.axes.is_in_open.Goals as goal
use Rattle.sx_axes.specs.Axes.{any_open, ancestor_places}
use Rattle.sx_tree.specs.TreeView.{is_open_node}

pub loop-next-init : goal.loop-next-init
loop-next-init g c =
    let t = g.T.Tree.places c.args.t.now in ap (any_open_with t) c.parent-next.ensures ∙ sym (open-ancestors t c.args.from)

pub loop-next-preserved : goal.loop-next-preserved
loop-next-preserved g c =
    let t = g.T.Tree.places c.args.t.now in
    let n = c.in-Some.n in
    let was : any_open_with t (Some n) ≡ any_open t (ancestor_places t c.args.from) = rw c.in-Some.is at c.loop-next.invariant in
    let shut : is_open_node t n ≡ false = sym c.is_open.ensures ∙ c.if-is_open.false in
    open-goes t n c.parent-next-in-Some.result shut c.parent-next-in-Some.ensures ∙ was

pub loop-next-smaller : goal.loop-next-smaller
loop-next-smaller g c =
    let t = g.T.Tree.places c.args.t.now in rw (c.in-Some.is, c.parent-next-in-Some.ensures) (parent-back t c.in-Some.n)

pub returns-then-is_open : goal.returns-then-is_open
returns-then-is_open g c =
    let t = g.T.Tree.places c.args.t.now in
    let n = c.in-Some.n in
    let was : any_open_with t (Some n) ≡ any_open t (ancestor_places t c.args.from) = rw c.in-Some.is at c.loop-next.invariant in
    let here : is_open_node t n ≡ true = sym c.is_open.ensures ∙ c.if-is_open.true in
    sym (open-found t n here) ∙ was

pub returns : goal.returns
returns g c =
    let t = g.T.Tree.places c.args.t.now in
    let was : any_open_with t (None) ≡ any_open t (ancestor_places t c.args.from) = rw c.in_default.is at c.loop-next.invariant in was
